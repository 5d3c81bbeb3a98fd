use Rattle.seg_segment.proofs.FieldSequences.{AreWritten}
use Rattle.seg_segment.proofs.terms_by_field.write_fields.Given as goal

abbrev pub invariant-loop-at : goal.invariant-loop-at
invariant-loop-at g l = AreWritten (g.T.TermsByField.total l.terms) (g.T.TermsByField.has l.terms) l.schema l.at l.files

use Rattle.std.proofs.Common.{◌≡◌, ◌++◌, drop}
use Rattle.seg_norms.specs.FieldNorms.{no_norms}
use Rattle.seg_norms.proofs.field_norms_writer.fresh_fields.Given as goal

-- what is so far, with what is left, is all
abbrev pub invariant-loop-entry : goal.invariant-loop-entry
invariant-loop-entry l = l.fields.items ++ no_norms (drop l.entry-index l.entries) ≡ no_norms l.entries

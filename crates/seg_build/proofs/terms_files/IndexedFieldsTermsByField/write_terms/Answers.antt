use Rattle.std.proofs.Common.{Some, refl, sym, ap, subst, ◌∙◌}
use Rattle.std.specs.Prelude.{IsSomeAnd}
use Rattle.std.specs.List.{slice_get}
use Rattle.seg_segment.proofs.Exports.{is_whole}
use Rattle.seg_segment.specs.WrittenTerms.{IsUnwritten}
use Rattle.seg_build.specs.WrittenTerms.{all_written}
use Rattle.seg_build.proofs.WrittenFields.{AreIn, total_in}
use Rattle.seg_build.proofs.terms_files.IndexedFieldsTermsByField.write_terms.Goals as goal

pub write_terms-requires-clause-unwritten : goal.write_terms-requires-clause-unwritten
write_terms-requires-clause-unwritten c = subst (λ o. IsSomeAnd o IsUnwritten) (sym c.requires.begins) (record { empty = refl; closed = refl })

pub returns : goal.returns
returns c =
    let at = ap (slice_get c.args.self.now) (sym c.field_id.ensures) ∙ c.writable_terms-terms.ensures.at in
    is_whole (total_in c.args.self.now) (AreIn c.args.self.now) c.args.field (all_written (Some c.writable_terms-terms.result.now)) c.args.writer c.write_terms.new.writer (ap all_written (sym at)) c.requires.begins c.in_ok-write_terms.ensures

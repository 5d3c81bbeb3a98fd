use Rattle.std.proofs.Common.{sym, ap, ◌∙◌}
use Rattle.std.specs.List.{slice_get}
use Rattle.std.proofs.lemmas.Result.{IfOk-weaker}
use Rattle.seg_build.specs.WrittenTerms.{written_total}
use Rattle.seg_build.proofs.terms_files.IndexedFieldsTermsByField.total_num_tokens.Goals as goal

pub returns : goal.returns
returns c =
    IfOk-weaker c.total_num_tokens.result _ _ (λ total is. is
    ∙ ap written_total (sym (ap (slice_get c.args.self.now) (sym c.field_id.ensures) ∙ c.writable_terms-terms.ensures.at))) c.total_num_tokens.ensures

use Rattle.std.proofs.Common.{◌≡◌, ◌∙◌, ℕ, Option, None, ap, sym, subst, rules}
use Rattle.std.specs.List.{slice_get}
use Rattle.std.specs.Prelude.{IfOk, IfSome}
use Rattle.seg_postings.specs.OpenedFields.{OpenField}
use Rattle.seg_tool.specs.Summaries.{opened_terms, with_terms}
use Rattle.seg_tool.proofs.TermSums.{none_open}
use Rattle.seg_tool.proofs.summary_totals.with_place.Goals as goal

pub returns-in-Some : goal.returns-in-Some
returns-in-Some c =
    let at : c.from_field_id.result ≡ c.args.place = search rules in
    subst (λ (o : Option (Option OpenField)). IfOk c.with_field.result (λ t. t ≡ with_terms c.args.totals (opened_terms o)))
    (sym (ap (λ (i : ℕ). slice_get c.args.reader.now.fields i) (sym at) ∙ c.in-Some.ensures))
    c.with_field.ensures

pub returns-in-None : goal.returns-in-None
returns-in-None c =
    let at : c.from_field_id.result ≡ c.args.place = search rules in
    none_open c.args.totals (slice_get c.args.reader.now.fields c.args.place)
    (subst (λ (i : ℕ). IfSome (slice_get c.args.reader.now.fields i) (λ (o : Option OpenField). o ≡ None)) at c.in-None.ensures)

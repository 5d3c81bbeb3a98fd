use Rattle.std.proofs.Common.{◌≡◌, ◌∙◌, ℕ, List, map, sym, ap, subst}
use Rattle.std.specs.Prelude.{IfOk}
use Rattle.std.proofs.lemmas.Simd.{map-map}
use Rattle.seg_model.specs.DocumentTerms.{Posting}
use Rattle.seg_postings.specs.OpenedFields.{ReadTerm}
use Rattle.seg_tool.specs.Summaries.{with_terms}
use Rattle.seg_tool.proofs.summary_totals.with_field.Goals as goal

pub returns : goal.returns
returns c =
    let same = ap (map (λ (e : List ℕ × List Posting). e.0)) c.terms_ascend.ensures
    ∙ map-map (λ (e : List ℕ × List Posting). e.0) (λ (t : ReadTerm). (t.bytes, t.postings)) c.args.field.now.terms in
    subst (λ (xs : List (List ℕ)). IfOk c.with_dictionary.result (λ t. t ≡ with_terms c.args.totals xs)) (sym same) c.with_dictionary.ensures

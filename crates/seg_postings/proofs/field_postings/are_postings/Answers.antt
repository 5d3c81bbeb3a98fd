use Rattle.std.proofs.Common.{◌≡◌, ◌∙◌, ℕ, List, None, drop, length, refl, sym, ap, subst}
use Rattle.std.specs.List.{AllByRecursion, list_all}
use Rattle.std.proofs.lemmas.Result.{IfOk-weaker}
use Rattle.seg_termdict.specs.Dictionary.{Term, terms_of}
use Rattle.seg_termdict.specs.DictionaryBuilders.{last_term, positions_end, postings_end}
use Rattle.seg_postings.specs.FieldParts.{LiesWithin}
use Rattle.seg_postings.specs.PostingsWithoutPositions.{is_counted}
use Rattle.seg_postings.proofs.CompletedPostings.{by_terms}
use Rattle.seg_postings.proofs.DictionaryRanges.{terms_within}
use Rattle.seg_postings.proofs.OpenedFields.{behind_total}
use Rattle.seg_postings.proofs.field_postings.are_postings.Goals as goal

pub are_counted-requires : goal.are_counted-requires
are_counted-requires c =
    let dictionary = c.args.field.now.dictionary in
    let body = c.bytes_in-body.result.now in
    let fill : postings_end (last_term None (terms_of dictionary)) ≡ length body = ap (λ (ts : List Term). postings_end (last_term None ts)) (sym c.terms.ensures.terms) ∙ sym c.last_postings_end.ensures ∙ c.if-last_postings_end-body.false in
    record { within = subst (λ (n : ℕ). AllByRecursion (LiesWithin n (positions_end (last_term None (terms_of dictionary)))) (terms_of dictionary)) fill (terms_within dictionary c.terms.ensures.dictionary.is_dictionary) }

pub returns-clause-ok : goal.returns-clause-ok
returns-clause-ok c =
    let rules = c.args.field.now.rules in
    let dictionary = c.args.field.now.dictionary in
    let postings = c.args.postings.now in
    let body = c.bytes_in-body.result.now in
    let room = c.if-postings-lt-TOTAL_BYTES.false in
    let fill : postings_end (last_term None (terms_of dictionary)) ≡ length body = ap (λ (ts : List Term). postings_end (last_term None ts)) (sym c.terms.ensures.terms) ∙ sym c.last_postings_end.ensures ∙ c.if-last_postings_end-body.false in
    let body_is : body ≡ drop 8 postings = behind_total postings body body (length postings) room refl c.bytes_in-body.ensures refl in
    IfOk-weaker c.are_counted.result _ _ (λ are is. by_terms rules dictionary postings room (fill ∙ ap length body_is) are (is ∙ ap (λ (b : List ℕ). list_all (is_counted rules b) (terms_of dictionary)) body_is)) c.are_counted.ensures.ok

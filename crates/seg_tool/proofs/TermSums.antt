-- Totals of terms, with more of them.
use Rattle.std.proofs.Common.{◌≡◌, ℕ, zero, suc, ◌+◌, List, [], ◌∷◌, ◌++◌, map, drop, length, Option, Some, None, refl, sym, ap, ◌∙◌, arith, add-one}
use Rattle.std.specs.Prelude.{IfSome, is_some, if◌then◌else◌, sum_by}
use Rattle.std.specs.FinMap.{entries}
use Rattle.std.specs.List.{slice_get}
use Rattle.std.proofs.lemmas.List.{length-append}
use Rattle.std.proofs.lemmas.List.Sums.{sum_by-append, sum_by-cons}
use Rattle.seg_values.specs.declared.schema.FieldEntry.{FieldEntry}
use Rattle.seg_model.specs.Fields.{Schema, is_indexed}
use Rattle.seg_postings.specs.OpenedFields.{OpenField}
use Rattle.seg_open.specs.OpenSegment.{terms_in}
use Rattle.seg_generate.specs.SummaryText.{indexed_terms, totals_of}
use Rattle.seg_generate.specs.declared.summary.TermTotals.{TermTotals}
use Rattle.seg_tool.specs.Summaries.{opened_terms, with_terms}

abbrev totals : ℕ → ℕ → TermTotals
totals terms bytes = record { terms = terms; bytes = bytes }

-- none before
abbrev pub no_totals : TermTotals
no_totals = totals 0 0

pub with_none : (t : TermTotals) → with_terms t [] ≡ t
with_none t =
    let terms : t.terms + 0 ≡ t.terms = omega arith in
    let bytes : t.bytes + 0 ≡ t.bytes = omega arith in
    λ j. totals (terms j) (bytes j)

pub with_both : (t : TermTotals) (xs ys : List (List ℕ)) → with_terms (with_terms t xs) ys ≡ with_terms t (xs ++ ys)
with_both t xs ys =
    let terms : t.terms + length xs + length ys ≡ t.terms + length (xs ++ ys) = omega (arith, length-append xs ys) in
    let bytes : t.bytes + sum_by length xs + sum_by length ys ≡ t.bytes + sum_by length (xs ++ ys) = omega (arith, sum_by-append length xs ys) in
    λ j. totals (terms j) (bytes j)

pub with_one : (t : TermTotals) (x : List ℕ) (terms bytes : ℕ) → terms ≡ t.terms + 1 → bytes ≡ t.bytes + length x → totals terms bytes ≡ with_terms t (x ∷ [])
with_one t x terms bytes one more =
    let sum : bytes ≡ t.bytes + sum_by length (x ∷ []) = omega (arith, more, sum_by-cons length x []) in
    λ j. totals (one j) (sum j)

pub of_all : (xs : List (List ℕ)) → with_terms no_totals xs ≡ totals_of xs
of_all xs =
    let terms : 0 + length xs ≡ length xs = omega arith in
    let bytes : 0 + sum_by length xs ≡ sum_by length xs = omega arith in
    λ j. totals (terms j) (bytes j)

-- no field is open there
pub none_open : (t : TermTotals) (o : Option (Option OpenField)) → IfSome o (λ x. x ≡ None) → t ≡ with_terms t (opened_terms o)
none_open t None h = sym (with_none t)
none_open t (Some None) h = sym (with_none t)
none_open t (Some (Some f)) h = absurd (cc h)

-- ---- fields

place_terms : (e : FieldEntry) (o : Option OpenField) → is_some o ≡ is_indexed e
    → (if is_indexed e then map (λ e. e.0) (entries (terms_in o)) else []) ≡ opened_terms (Some o)
place_terms e None is = rw (sym is) refl
place_terms e (Some f) is = rw (sym is) refl

here : (schema : Schema) (fields : List (Option OpenField)) (i : ℕ) (e : FieldEntry) → map is_some fields ≡ map is_indexed schema → slice_get schema i ≡ Some e
    → indexed_terms (drop i schema) (map terms_in (drop i fields)) ≡ opened_terms (slice_get fields i) ++ indexed_terms (drop (suc i) schema) (map terms_in (drop (suc i) fields))
here [] fields i e same at = absurd cc
here (x ∷ schema) [] i e same at = absurd cc
here (x ∷ schema) (o ∷ fields) zero e same at =
    let is : is_some o ≡ is_indexed x = cc in
    ap (λ xs. xs ++ indexed_terms schema (map terms_in fields)) (place_terms x o is)
here (x ∷ schema) (o ∷ fields) (suc i) e same at =
    let rest : map is_some fields ≡ map is_indexed schema = cc in
    here schema fields i e rest at

-- one field more
pub place_more : (t u all : TermTotals) (schema : Schema) (fields : List (Option OpenField)) (i : ℕ) (e : FieldEntry)
    → map is_some fields ≡ map is_indexed schema → slice_get schema i ≡ Some e → u ≡ with_terms t (opened_terms (slice_get fields i))
    → with_terms t (indexed_terms (drop i schema) (map terms_in (drop i fields))) ≡ all
    → with_terms u (indexed_terms (drop (i + 1) schema) (map terms_in (drop (i + 1) fields))) ≡ all
place_more t u all schema fields i e same at grown is =
    ap (λ v. with_terms v (indexed_terms (drop (i + 1) schema) (map terms_in (drop (i + 1) fields)))) grown
    ∙ with_both t (opened_terms (slice_get fields i)) (indexed_terms (drop (i + 1) schema) (map terms_in (drop (i + 1) fields)))
    ∙ ap (λ k. with_terms t (opened_terms (slice_get fields i) ++ indexed_terms (drop k schema) (map terms_in (drop k fields)))) (add-one i)
    ∙ ap (with_terms t) (sym (here schema fields i e same at))
    ∙ is

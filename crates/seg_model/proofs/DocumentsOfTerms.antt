-- The postings of a term tell which documents have it.
use Rattle.std.proofs.Common.{◌≡◌, ℕ, zero, suc, ◌+◌, ◌<◌, Bool, true, false, cond, List, [], ◌∷◌, map, length, Some, None, Option, sym, refl, ap, ◌∙◌, arith, unwrap_or}
use Rattle.std.specs.Prelude.{◌||◌, filter, is_some, nat_eq}
use mathlib.Core.Bool.{true≢false}
use Rattle.std.specs.List.{list_any, slice_get, slice_index_or, range_with_len, enumerate_from}
use Rattle.std.specs.Str.{bytes_eq}
use Rattle.std.specs.FinMap.{empty, get-empty}
use Rattle.std.proofs.lemmas.Bool.Decides.{nat_tests}
use Rattle.std.proofs.lemmas.List.{length-map}
use Rattle.std.proofs.lemmas.Simd.{map-map}
use Rattle.seg_values.specs.declared.schema.FieldEntry.{FieldEntry}
use Rattle.seg_values.specs.Tree.{Document}
use Rattle.seg_model.specs.Fields.{Schema, Analyzer}
use Rattle.seg_model.specs.Occurrences.{Occurrence, occurrences_at, occurrences}
use Rattle.seg_model.specs.DocumentTerms.{Recorded, Posting, if_occurs, term_option, recorded_in, postings_from, postings_of, field_terms, all_terms}
use Rattle.seg_model.proofs.Fields.{at_place}
use Rattle.seg_model.proofs.JoinedTerms.{get-terms_of, unwrap_if_any}
use Rattle.seg_model.specs.Postings.{terms_of_field, documents_with, is_member, marks}
use Rattle.seg_model.specs.RemovalLaws.{PostingsTellTerms}

-- the documents of postings
abbrev documents_of : List Posting → List ℕ
documents_of ps = map (λ p. p.document) ps

-- ---- postings name the documents that record something

is_member-later : (m n : ℕ) (rs : List (Option Recorded)) → m < n → is_member m (documents_of (postings_from n rs)) ≡ false
is_member-later m n [] lt = refl
is_member-later m n (None ∷ rs) lt = is_member-later m (n + 1) rs (omega arith)
is_member-later m n (Some r ∷ rs) lt =
    let apart : nat_eq m n ≡ false = grind (arith, nat_tests) in
    ap (λ b. b || is_member m (documents_of (postings_from (n + 1) rs))) apart ∙ is_member-later m (n + 1) rs (omega arith)

-- a smaller number marks nothing
marks-past : (n m k : ℕ) (ids : List ℕ) → n < m → map (λ i. is_member i (n ∷ ids)) (range_with_len m k) ≡ map (λ i. is_member i ids) (range_with_len m k)
marks-past n m zero ids lt = refl
marks-past n m (suc k) ids lt =
    let apart : nat_eq m n ≡ false = grind (arith, nat_tests) in
    λ j. (apart j || is_member m ids) ∷ marks-past n (m + 1) k ids (omega arith) j

marks-postings_from : (n : ℕ) (rs : List (Option Recorded)) → map (λ i. is_member i (documents_of (postings_from n rs))) (range_with_len n (length rs)) ≡ map is_some rs
marks-postings_from n [] = refl
marks-postings_from n (None ∷ rs) = λ j. is_member-later n (n + 1) rs (omega arith) j ∷ marks-postings_from (n + 1) rs j
marks-postings_from n (Some r ∷ rs) =
    let same : nat_eq n n ≡ true = grind (arith, nat_tests) in
    let rest = marks-past n (n + 1) (length rs) (documents_of (postings_from (n + 1) rs)) (omega arith) ∙ marks-postings_from (n + 1) rs in
    λ j. (same j || is_member n (documents_of (postings_from (n + 1) rs))) ∷ rest j

-- ---- a document records something of a term where it has it

records_where_it_occurs : (e : FieldEntry) (q : List ℕ) (os : List Occurrence) → list_any (λ o. bytes_eq q o.bytes) os ≡ is_some (recorded_in e q os)
records_where_it_occurs e q [] = refl
records_where_it_occurs e q (o ∷ os) = by (bytes_eq q o.bytes) (records_where_it_occurs e q os)
  where
    by : (b : Bool) → list_any (λ o. bytes_eq q o.bytes) os ≡ is_some (recorded_in e q os)
        → (b || list_any (λ o. bytes_eq q o.bytes) os) ≡ is_some (if_occurs (term_option e q) (map (λ (x : Occurrence). x.position) (cond b (o ∷ filter (λ x. bytes_eq q x.bytes) os) (filter (λ x. bytes_eq q x.bytes) os))))
    by true h = refl
    by false h = h

-- ---- a field outside of the schema

module _ {X Y : Type 0} where
  past_end : (F : ℕ × X → Y) (d : Y) (n i : ℕ) (xs : List X) → slice_get xs i ≡ None → slice_index_or (map F (enumerate_from n xs)) i d ≡ d
  past_end F d n i [] e = refl
  past_end F d n zero (x ∷ xs) e = absurd (true≢false (ap is_some e))
  past_end F d n (suc i) (x ∷ xs) e = past_end F d (n + 1) i xs e

nothing_marked : {X : Type 0} (n : ℕ) (xs : List X) → map (λ x. false) xs ≡ map (λ i. is_member i []) (range_with_len n (length xs))
nothing_marked n [] = refl
nothing_marked n (x ∷ xs) = λ j. false ∷ nothing_marked (n + 1) xs j

module _ (schema : Schema) (analyzer : Analyzer) (ds : List Document) (field : ℕ) (q : List ℕ) where
  -- which documents have the term, where the field has this entry
  abbrev have : Option FieldEntry → List Bool
  have entry = map (λ d. list_any (λ o. bytes_eq q o.bytes) (occurrences_at analyzer d field entry)) ds

  -- which documents the postings name
  abbrev named : List Bool
  named = marks (length ds) (documents_with (terms_of_field (all_terms schema analyzer ds) field) q)

  told_outside : slice_get schema field ≡ None → have (slice_get schema field) ≡ named
  told_outside none =
      ap have none
      ∙ nothing_marked 0 ds
      ∙ sym (ap (λ t. marks (length ds) (documents_with t q)) (past_end (field_terms schema analyzer ds) empty 0 field schema none)
      ∙ ap (λ o. marks (length ds) (documents_of (unwrap_or o []))) (get-empty _ q))

  told_inside : (e : FieldEntry) → slice_get schema field ≡ Some e → have (slice_get schema field) ≡ named
  told_inside e at =
      let occurred = map (λ d. occurrences schema analyzer d field) ds in
      let records = map (recorded_in e q) occurred in
      (λ j. map (λ d. records_where_it_occurs e q (occurrences schema analyzer d field) j) ds)
      ∙ sym (map-map is_some (λ d. recorded_in e q (occurrences schema analyzer d field)) ds)
      ∙ ap (map is_some) (sym (map-map (recorded_in e q) (λ d. occurrences schema analyzer d field) ds))
      ∙ sym (marks-postings_from 0 records)
      ∙ ap (λ n. marks n (documents_of (postings_of e q occurred))) (length-map occurred (recorded_in e q) ∙ length-map ds (λ d. occurrences schema analyzer d field))
      ∙ sym (ap (λ t. marks (length ds) (documents_with t q)) (at_place (field_terms schema analyzer ds) empty field schema e at)
      ∙ ap (λ o. marks (length ds) (documents_of (unwrap_or o []))) (get-terms_of e occurred q)
      ∙ ap (λ ps. marks (length ds) (documents_of ps)) (unwrap_if_any (postings_of e q occurred)))

pub postings_tell_terms : PostingsTellTerms
postings_tell_terms schema analyzer ds field q = by (slice_get schema field) refl
  where
    by : (o : Option FieldEntry) → slice_get schema field ≡ o → have schema analyzer ds field q (slice_get schema field) ≡ named schema analyzer ds field q
    by None none = told_outside schema analyzer ds field q none
    by (Some e) at = told_inside schema analyzer ds field q e at

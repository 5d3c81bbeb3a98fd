-- How often terms occur in a document: its values added up, as its fields added up.
use Rattle.std.proofs.Common.{◌≡◌, ℕ, zero, suc, ◌+◌, ◌-◌, ◌^◌, ◌<◌, ◌≤◌, min, Bool, true, false, cond, List, [], ◌∷◌, map, length, drop, get_or, Some, refl, sym, ap, ◌∙◌, subst, arith, inl, inr}
use Rattle.std.specs.Prelude.{filter, nat_eq}
use Rattle.std.specs.List.{slice_get, enumerate_from, AllByRecursion}
use Rattle.std.proofs.lemmas.Bool.{cases_Bool}
use Rattle.std.proofs.lemmas.Bool.Decides.{eqb_tells, nat_tests}
use Rattle.std.proofs.lemmas.Option.{slice_get_within}
use Rattle.seg_values.specs.declared.schema.FieldEntry.{FieldEntry}
use Rattle.seg_values.specs.Tree.{Tree, Document}
use Rattle.seg_model.proofs.Exports.{sum_on}
use Rattle.seg_model.specs.Fields.{Schema, Analyzer, is_indexed, is_field}
use Rattle.seg_model.specs.Occurrences.{occurrences}
use Rattle.seg_check.specs.IndexedValues.{content_of, content_at, value_in, value_of}
use Rattle.seg_check.specs.declared.indexed_value.IndexedValue.{IndexedValue}
use Rattle.seg_build.specs.AddedValues.{count_in, first_starts}
use Rattle.seg_model.specs.SaturatedNumbers.{saturated}
use Rattle.seg_build.specs.MemoryUsage.{total, occurrence_count, value_count}
use Rattle.seg_build.specs.FieldsByValue.{indexed_part}
use Rattle.seg_build.proofs.FieldContents.{length_from}
use Rattle.seg_build.proofs.IndexedParts.{part-kept, part-passed, indexed_pair, values_kept, values_dropped}
use Rattle.seg_build.proofs.FieldStates.{contents_of, contents_of-taken, contents_of-passed}
use Rattle.seg_segment.proofs.Exports.{drop-item}
use Rattle.seg_build.proofs.AllDocuments.{occurrences-indexed, occurrences-unindexed}

-- ---- the loop over the values

-- one turn
pub counted_turn : (document : Document) (values : List IndexedValue) (i : ℕ) (v : IndexedValue) (count more now : ℕ) → i < length values → v ≡ get_or values i v → more ≡ saturated (count_in (value_in document v).1) → now ≡ min (count + more) (2 ^ 64 - 1)
    → saturated (now + value_count (map (value_in document) (drop (i + 1) values))) ≡ saturated (count + value_count (map (value_in document) (drop i values)))
counted_turn document values i v count more now lt is more_is sum =
    let rest = value_count (map (value_in document) (drop (i + 1) values)) in
    ap (λ n. saturated (n + rest)) (sum ∙ ap (λ n. saturated (count + n)) more_is)
    ∙ sum_on count (count_in (value_in document v).1) rest
    ∙ ap (λ vs. saturated (count + value_count (map (value_in document) vs))) (sym (drop-item values i v lt is))

-- after the last value
pub counted_end : (document : Document) (values : List IndexedValue) (i count : ℕ) → length values ≤ i → count ≤ 2 ^ 64 - 1 → count ≡ saturated (count + value_count (map (value_in document) (drop i values)))
counted_end document [] zero count past few = omega (arith, few)
counted_end document [] (suc i) count past few = omega (arith, few)
counted_end document (v ∷ vs) zero count past few = absurd (let none : ⊥ = omega (arith, past) in none)
counted_end document (v ∷ vs) (suc i) count past few = counted_end document vs i count (omega (arith, past)) few

-- ---- a sum over pairs, place by place

total-plus : {A : Type 0} (f g : A → ℕ) (xs : List A) → total (λ x. f x + g x) xs ≡ total f xs + total g xs
total-plus f g [] = refl
total-plus f g (x ∷ xs) = omega (arith, total-plus f g xs)

total-same : {A : Type 0} (f g : A → ℕ) → ((x : A) → f x ≡ g x) → (xs : List A) → total f xs ≡ total g xs
total-same f g same [] = refl
total-same f g same (x ∷ xs) = omega (arith, same x, total-same f g same xs)

module _ {X : Type 0} (count k : ℕ) where
  abbrev if_there : ℕ × X → ℕ
  if_there f = cond (nat_eq f.0 k) count 0

  none_there : (n : ℕ) (xs : List X) → k < n → total if_there (enumerate_from n xs) ≡ 0
  none_there n [] lt = refl
  none_there n (x ∷ xs) lt =
      let other : nat_eq n k ≡ false = grind (arith, nat_tests) in
      let rest = none_there (n + 1) xs (omega (arith, lt)) in
      ap (λ b. cond b count 0 + total if_there (enumerate_from (n + 1) xs)) other ∙ omega (arith, rest)

  one_there : (n : ℕ) (xs : List X) → n ≤ k → k < n + length xs → total if_there (enumerate_from n xs) ≡ count
  one_there n [] le lt = absurd (let none : ⊥ = omega (arith, le, lt) in none)
  one_there n (x ∷ xs) le lt = elim (eqb_tells n k) [
    | inl h ↦
        let rest = none_there (n + 1) xs (omega (arith, h.1)) in
        ap (λ b. cond b count 0 + total if_there (enumerate_from (n + 1) xs)) h.0 ∙ omega (arith, rest)
    | inr h ↦
        let off : nat_eq n k ≡ false = h.0 in
        let past : n + 1 ≤ k = grind (arith, nat_tests) in
        let rest = one_there (n + 1) xs past (omega (arith, lt)) in
        ap (λ b. cond b count 0 + total if_there (enumerate_from (n + 1) xs)) h.0 ∙ omega (arith, rest)
  ]

module _ {X : Type 0} (count : ℕ × Tree → ℕ) where
  -- what the pairs of a field sum up to
  abbrev at_field : Document → ℕ × X → ℕ
  at_field ps f = total count (filter (λ p. nat_eq f.0 p.0) ps)

  nothing_at : (fs : List (ℕ × X)) → total (at_field []) fs ≡ 0
  nothing_at [] = refl
  nothing_at (f ∷ fs) = omega (arith, nothing_at fs)

  one_more_at : (p : ℕ × Tree) (ps : Document) (f : ℕ × X) → at_field (p ∷ ps) f ≡ if_there (count p) p.0 f + at_field ps f
  one_more_at p ps f = elim (nat_eq f.0 p.0) as (λ b. total count (cond b (p ∷ filter (λ q. nat_eq f.0 q.0) ps) (filter (λ q. nat_eq f.0 q.0) ps)) ≡ cond b (count p) 0 + total count (filter (λ q. nat_eq f.0 q.0) ps)) [
    | true ↦ refl
    | false ↦ omega arith
  ]

  by_field : (n : ℕ) (xs : List X) (ps : Document) → AllByRecursion (λ p. (n ≤ p.0) × (p.0 < n + length xs)) ps → total (at_field ps) (enumerate_from n xs) ≡ total count ps
  by_field n xs [] all = nothing_at (enumerate_from n xs)
  by_field n xs (p ∷ ps) all =
      total-same (at_field (p ∷ ps)) (λ (f : ℕ × X). if_there (count p) p.0 f + at_field ps f) (one_more_at p ps) (enumerate_from n xs)
      ∙ total-plus (λ (f : ℕ × X). if_there (count p) p.0 f) (at_field ps) (enumerate_from n xs)
      ∙ (λ j. one_there (count p) p.0 n xs all.0.0 all.0.1 j + by_field n xs ps all.1 j)

-- the values of a document are of fields of the schema
within : (schema : Schema) (ps : Document) → AllByRecursion (λ p. (0 ≤ p.0) × (p.0 < 0 + length schema)) (indexed_part schema ps)
within schema [] = tt
within schema (p ∷ ps) = elim (cases_Bool (is_field is_indexed (slice_get schema p.0))) [
  | inl is ↦
      let own = indexed_pair schema p is in
      let lt = slice_get_within schema p.0 own.entry own.at in
      subst (AllByRecursion (λ p. (0 ≤ p.0) × (p.0 < 0 + length schema))) (sym (part-kept schema p ps is)) ((omega arith, omega (arith, lt)), within schema ps)
  | inr off ↦
      subst (AllByRecursion (λ p. (0 ≤ p.0) × (p.0 < 0 + length schema))) (sym (part-passed schema p ps off)) (within schema ps)
]

-- ---- a document

module _ (schema : Schema) (analyzer : Analyzer) where
  -- how often terms occur in a value
  abbrev count_of_pair : ℕ × Tree → ℕ
  count_of_pair p = count_in (content_at analyzer p.1 (slice_get schema p.0))

  each_value : (ps : Document) → value_count (map (value_of schema analyzer) ps) ≡ total count_of_pair ps
  each_value [] = refl
  each_value (p ∷ ps) = ap (λ n. count_of_pair p + n) (each_value ps)

  module _ (k : ℕ) (e : FieldEntry) (at_e : slice_get schema k ≡ Some e) where
    of_field : (ps : Document) → total count_of_pair (filter (λ p. nat_eq k p.0) ps) ≡ total count_in (contents_of analyzer e k ps)
    of_field [] = refl
    of_field (p ∷ ps) = elim (eqb_tells k p.0) [
      | inl h ↦
          ap (λ b. total count_of_pair (cond b (p ∷ filter (λ q. nat_eq k q.0) ps) (filter (λ q. nat_eq k q.0) ps))) h.0
          ∙ (λ i. count_in (content_at analyzer p.1 (own h.1 i)) + of_field ps i)
          ∙ sym (ap (total count_in) (contents_of-taken analyzer e k p ps h.0))
      | inr h ↦
          ap (λ b. total count_of_pair (cond b (p ∷ filter (λ q. nat_eq k q.0) ps) (filter (λ q. nat_eq k q.0) ps))) h.0
          ∙ of_field ps
          ∙ sym (ap (total count_in) (contents_of-passed analyzer e k p ps h.0))
    ]
      where
        own : k ≡ p.0 → slice_get schema p.0 ≡ Some e
        own same = ap (slice_get schema) (sym same) ∙ at_e

    field_counts : (d : Document) → total count_of_pair (filter (λ p. nat_eq k p.0) (indexed_part schema d)) ≡ length (occurrences schema analyzer d k)
    field_counts d =
        of_field (indexed_part schema d) ∙ by (is_indexed e) refl
      where
        by : (b : Bool) → is_indexed e ≡ b → total count_in (contents_of analyzer e k (indexed_part schema d)) ≡ length (occurrences schema analyzer d k)
        by true on =
            ap (λ vs. total count_in (map (content_of analyzer e) vs)) (values_kept schema k e at_e d on)
            ∙ sym (length_from first_starts (contents_of analyzer e k d))
            ∙ ap length (sym (occurrences-indexed schema analyzer k e at_e d on))
        by false off =
            ap (λ vs. total count_in (map (content_of analyzer e) vs)) (values_dropped schema k e at_e d off)
            ∙ ap length (sym (occurrences-unindexed schema analyzer k e at_e d off))

-- all fields together
each_field : (f : ℕ × FieldEntry → ℕ) (g : ℕ × FieldEntry → ℕ) (n : ℕ) (xs : List FieldEntry) → ((i : ℕ) (e : FieldEntry) → slice_get xs i ≡ Some e → f (n + i, e) ≡ g (n + i, e)) → total f (enumerate_from n xs) ≡ total g (enumerate_from n xs)
each_field f g n [] h = refl
each_field f g n (x ∷ xs) h =
    let first = subst (λ m. f (m, x) ≡ g (m, x)) (let z : n + 0 ≡ n = omega arith in z) (h 0 x refl) in
    let rest = each_field f g (n + 1) xs (λ i e at. subst (λ m. f (m, e) ≡ g (m, e)) (let z : n + suc i ≡ n + 1 + i = omega arith in z) (h (suc i) e at)) in
    λ j. first j + rest j

pub values_counted : (schema : Schema) (analyzer : Analyzer) (d : Document) → value_count (map (value_of schema analyzer) (indexed_part schema d)) ≡ occurrence_count schema analyzer d
values_counted schema analyzer d =
    let qs = indexed_part schema d in
    let count = count_of_pair schema analyzer in
    each_value schema analyzer qs
    ∙ sym (by_field count 0 schema qs (within schema d))
    ∙ each_field (at_field count qs) (λ f. length (occurrences schema analyzer d f.0)) 0 schema
    (λ i e at. subst (λ m. total count (filter (λ p. nat_eq m p.0) qs) ≡ length (occurrences schema analyzer d m)) (let z : i ≡ 0 + i = omega arith in z) (field_counts schema analyzer i e at d))

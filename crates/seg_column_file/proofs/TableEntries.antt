-- A table, entry by entry.
use Rattle.std.proofs.Common.{◌≡◌, ℕ, ◌+◌, ◌-◌, ◌<◌, true, false, List, refl, sym, ap, subst, ◌∙◌, arith, add-one, inl, inr}
use Rattle.std.proofs.lemmas.Bool.{cases_lt, false≢true}
use Rattle.seg_column_file.specs.ColumnTable.{AreEntries, IsEntry, column_start, end_in, may_follow, next_place, place_of}

pub place_of-first : (table : List ℕ) → place_of table 0 ≡ 8
unfolding place_of
place_of-first table = refl

pub place_of-next : (table : List ℕ) (i : ℕ) → place_of table (i + 1) ≡ next_place table (place_of table i)
unfolding place_of
place_of-next table i = rw (add-one i) refl

pub column_start-first : (table : List ℕ) → column_start table 0 ≡ 0
unfolding column_start
column_start-first table = refl

pub column_start-next : (table : List ℕ) (i : ℕ) → column_start table (i + 1) ≡ end_in table (place_of table i)
unfolding column_start
column_start-next table i = rw (add-one i) refl

-- one more entry, after another
module _ (table : List ℕ) (i at before : ℕ) (is : at ≡ place_of table i)
    (last : (k : ℕ) → k + 1 ≡ i → before ≡ place_of table k) where
  pub each_more : ((k : ℕ) → k < i → IsEntry table (place_of table k)) → IsEntry table at
      → (k : ℕ) → k < i + 1 → IsEntry table (place_of table k)
  each_more each one k lt =
      elim (cases_lt k i) [
        | inl earlier ↦ each k earlier
        | inr le ↦ let e : i ≡ k = omega arith in subst (IsEntry table) (is ∙ ap (place_of table) e) one
      ]

  pub follow_more : ((k : ℕ) → k + 1 < i → may_follow table (place_of table k) (place_of table (k + 1)) ≡ true)
      → (0 < i → may_follow table before at ≡ true)
      → (k : ℕ) → k + 1 < i + 1 → may_follow table (place_of table k) (place_of table (k + 1)) ≡ true
  follow_more follow one k lt =
      elim (cases_lt (k + 1) i) [
        | inl earlier ↦ follow k earlier
        | inr le ↦
            let e : k + 1 ≡ i = omega arith in
            let here : at ≡ place_of table (k + 1) = is ∙ sym (ap (place_of table) e) in
            let there = last k e in
            sym (λ j. may_follow table (there j) (here j)) ∙ one (omega (arith, e))
      ]

  pub out_of_order : (count : ℕ) → i < count → 0 < i → may_follow table before at ≡ false → AreEntries table count → ⊥
  out_of_order count lt some wrong are =
      let e : i - 1 + 1 ≡ i = omega arith in
      let here : at ≡ place_of table (i - 1 + 1) = is ∙ sym (ap (place_of table) e) in
      let there = last (i - 1) e in
      false≢true (sym wrong ∙ (λ j. may_follow table (there j) (here j)) ∙ are.follow (i - 1) (omega (arith, e, lt)))

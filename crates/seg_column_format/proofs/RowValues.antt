-- Values whose rows don't fall, row by row.
use Rattle.std.proofs.Common.{◌≡◌, ℕ, zero, suc, ◌+◌, ◌<◌, ◌≤◌, Bool, true, false, cond, List, [], ◌∷◌, ◌++◌, take, drop, refl, sym, ap, subst, ◌∙◌, arith}
use Rattle.std.specs.Prelude.{◌==◌}
use Rattle.std.specs.List.{AllByRecursion, flat_map, prefix_len}
use Rattle.std.proofs.lemmas.Bool.{false≢true, ne_eqb}
use Rattle.std.proofs.lemmas.Bool.Decides.{Decides-eqb}
use Rattle.std.proofs.lemmas.List.{take-append-drop}
use Rattle.std.proofs.Math.Numerals.{one-add}
use Rattle.seg_common.proofs.Lists.{all_left}
use Rattle.seg_column_format.specs.ValuesByRow.{Rise, of_row, rows_from}

module _ {V : Type 0} (row : V → ℕ) where
  abbrev here : ℕ → V → Bool
  here r v = row v == r

  abbrev count : ℕ → List V → ℕ
  count r vs = prefix_len (here r) vs

  pub none_of : (low r : ℕ) (vs : List V) → Rise row low vs → r < low → of_row row vs r ≡ []
  none_of low r [] rise lt = refl
  none_of low r (v ∷ vs) rise lt =
      let no : here r v ≡ false = ne_eqb (row v) r (λ e. omega (arith, e, lt, rise.0)) in
      ap (λ (b : Bool). cond b (v ∷ of_row row vs r) (of_row row vs r)) no
      ∙ none_of (row v) r vs rise.1 (omega (arith, lt, rise.0))

  same_low : (low : ℕ) (v : V) (vs : List V) → here low v ≡ true → Rise row (row v) vs → Rise row low vs
  same_low low v vs e rise = subst (λ (n : ℕ). Rise row n vs) ((Decides-eqb (row v) low).0 e) rise

  above : (low : ℕ) (v : V) → here low v ≡ false → low ≤ row v → low < row v
  above low v e le = by_order (λ same. false≢true (sym e ∙ (Decides-eqb (row v) low).1 same)) le
    where
      by_order : (row v ≡ low → ⊥) → low ≤ row v → low < row v
      by_order other h = grind (arith, other, h)

  first_by : (low : ℕ) (v : V) (vs : List V) (b : Bool)
      → (b ≡ true → of_row row vs low ≡ take (count low vs) vs) → (b ≡ false → of_row row vs low ≡ [])
      → cond b (v ∷ of_row row vs low) (of_row row vs low) ≡ take (cond b (1 + count low vs) 0) (v ∷ vs)
  first_by low v vs true more none =
      ap (λ (l : List V). v ∷ l) (more refl) ∙ sym (ap (λ (n : ℕ). take n (v ∷ vs)) (one-add (count low vs)))
  first_by low v vs false more none = none refl

  -- the values of the first row
  pub first_of : (low : ℕ) (vs : List V) → Rise row low vs → of_row row vs low ≡ take (count low vs) vs
  first_of low [] rise = refl
  first_of low (v ∷ vs) rise =
      first_by low v vs (here low v) (λ e. first_of low vs (same_low low v vs e rise.1))
      (λ e. none_of (row v) low vs rise.1 (above low v e rise.0))

  later_by : (low r : ℕ) (v : V) (vs : List V) (b : Bool) → b ≡ here low v → low < r
      → of_row row vs r ≡ of_row row (drop (count low vs) vs) r
      → of_row row (v ∷ vs) r ≡ of_row row (drop (cond b (1 + count low vs) 0) (v ∷ vs)) r
  later_by low r v vs true e lt rest =
      let same : row v ≡ low = (Decides-eqb (row v) low).0 (sym e) in
      let no : here r v ≡ false = ne_eqb (row v) r (λ is. omega (arith, is, lt, same)) in
      ap (λ (b : Bool). cond b (v ∷ of_row row vs r) (of_row row vs r)) no ∙ rest
      ∙ sym (ap (λ (n : ℕ). of_row row (drop n (v ∷ vs)) r) (one-add (count low vs)))
  later_by low r v vs false e lt rest = refl

  -- those of the rows after it
  later_of : (low r : ℕ) (vs : List V) → low < r → of_row row vs r ≡ of_row row (drop (count low vs) vs) r
  later_of low r [] lt = refl
  later_of low r (v ∷ vs) lt = later_by low r v vs (here low v) refl lt (later_of low r vs lt)

  later_rows : (low r m : ℕ) (vs : List V) → low < r
      → rows_from row r m vs ≡ rows_from row r m (drop (count low vs) vs)
  later_rows low r zero vs lt = refl
  later_rows low r (suc m) vs lt = λ j.
      later_of low r vs lt j ∷ later_rows low (r + 1) m vs (omega (arith, lt)) j

  after_by : (low : ℕ) (v : V) (vs : List V) (b : Bool) → b ≡ here low v → low ≤ row v → Rise row (row v) vs
      → (Rise row low vs → Rise row (low + 1) (drop (count low vs) vs))
      → Rise row (low + 1) (drop (cond b (1 + count low vs) 0) (v ∷ vs))
  after_by low v vs true e le rise rest =
      subst (λ (n : ℕ). Rise row (low + 1) (drop n (v ∷ vs))) (sym (one-add (count low vs)))
      (rest (same_low low v vs (sym e) rise))
  after_by low v vs false e le rise rest =
      let more : low < row v = above low v (sym e) le in (omega (arith, more), rise)

  rise_after : (low : ℕ) (vs : List V) → Rise row low vs → Rise row (low + 1) (drop (count low vs) vs)
  rise_after low [] rise = tt
  rise_after low (v ∷ vs) rise = after_by low v vs (here low v) refl rise.0 rise.1 (rise_after low vs)

  -- the first row, and the rows after it
  pub record IsStep (low m : ℕ) (vs : List V) : Type 0 where
    pub rows : rows_from row low (suc m) vs ≡ take (count low vs) vs ∷ rows_from row (low + 1) m (drop (count low vs) vs)
    pub rise : Rise row (low + 1) (drop (count low vs) vs)

  pub step : (low m : ℕ) (vs : List V) → Rise row low vs → IsStep low m vs
  step low m vs rise = record {
    rows = λ j. first_of low vs rise j ∷ later_rows low (low + 1) m vs (omega arith) j;
    rise = rise_after low vs rise;
  }

  -- all rows together are all values
  pub in_a_row : (low m : ℕ) (vs : List V) → Rise row low vs → AllByRecursion (λ v. row v < low + m) vs
      → flat_map (λ values. values) (rows_from row low m vs) ≡ vs
  in_a_row low zero [] rise all = refl
  in_a_row low zero (v ∷ vs) rise all = absurd (omega (arith, rise.0, all.0))
  in_a_row low (suc m) vs rise all =
      let front = take (count low vs) vs in
      let back = drop (count low vs) vs in
      let s = step low m vs rise in
      let below : AllByRecursion (λ v. row v < low + 1 + m) back =
      all_left (λ v. row v < low + 1 + m) (count low vs) vs
      (subst (λ (n : ℕ). AllByRecursion (λ v. row v < n) vs) (omega arith) all) in
      ap (flat_map (λ values. values)) s.rows
      ∙ ap (λ (l : List V). front ++ l) (in_a_row (low + 1) m back s.rise below)
      ∙ take-append-drop (count low vs) vs

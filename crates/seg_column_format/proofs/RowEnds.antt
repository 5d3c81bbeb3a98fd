-- The ends of rows, up to the row of one more value.
use Rattle.std.proofs.Common.{◌≡◌, ℕ, zero, suc, ◌+◌, ◌≤◌, ◌<◌, Bool, true, false, cond, List, [], ◌∷◌, ◌++◌, length, replicate, refl, sym, ap, ◌∙◌, arith, append_assoc}
use Rattle.std.specs.Prelude.{◌==◌}
use Rattle.std.specs.Int.{w64, to_le_bytes}
use Rattle.std.proofs.lemmas.Bool.{ne_eqb}
use Rattle.std.proofs.lemmas.Bool.Decides.{Decides-eqb}
use Rattle.std.proofs.lemmas.List.Concat.{flat_map-append}
use Rattle.seg_column_format.specs.ColumnBytes.{ends_from, number_bytes}
use Rattle.seg_column_format.specs.ValuesByRow.{Rise, of_row, rows_from}
use Rattle.seg_column_format.proofs.RowValues.{none_of}

module _ {V : Type 0} (row : V → ℕ) where
  -- no value is left
  pub none_left : (low n end : ℕ) → ends_from end (rows_from row low n []) ≡ replicate n end
  none_left low zero end = refl
  none_left low (suc n) end =
      let same : end + 0 ≡ end = omega arith in
      (λ i. same i ∷ ends_from (same i) (rows_from row (low + 1) n []))
      ∙ ap (λ (l : List ℕ). end ∷ l) (none_left (low + 1) n end)

  pub lower : (low next : ℕ) (vs : List V) → next ≤ low → Rise row low vs → Rise row next vs
  lower low next [] le rise = tt
  lower low next (v ∷ vs) le rise = (omega (arith, le, rise.0), rise.1)

  module _ (v : V) (vs : List V) (rise : Rise row (row v) vs) where
    passed : (low n : ℕ) → row v < low → rows_from row low n (v ∷ vs) ≡ rows_from row low n vs
    passed low zero lt = refl
    passed low (suc n) lt =
        let no : (row v == low) ≡ false = ne_eqb (row v) low (λ e. omega (arith, e, lt)) in
        let gone : of_row row (v ∷ vs) low ≡ of_row row vs low =
        ap (λ (b : Bool). cond b (v ∷ of_row row vs low) (of_row row vs low)) no in
        λ i. gone i ∷ passed (low + 1) n (omega (arith, lt)) i

    at_once : (low left end : ℕ) → (0 < left → low ≡ row v)
        → ends_from end (rows_from row low left (v ∷ vs)) ≡ ends_from (end + 1) (rows_from row low left vs)
    at_once low zero end reached = refl
    at_once low (suc m) end reached =
        let same : low ≡ row v = reached (omega arith) in
        let yes : (row v == low) ≡ true = (Decides-eqb (row v) low).1 (sym same) in
        let more : of_row row (v ∷ vs) low ≡ v ∷ of_row row vs low =
        ap (λ (b : Bool). cond b (v ∷ of_row row vs low) (of_row row vs low)) yes in
        let long : end + length (of_row row (v ∷ vs) low) ≡ end + 1 + length (of_row row vs low) =
        omega (arith, ap length more) in
        (λ i. long i ∷ ends_from (long i) (rows_from row (low + 1) m (v ∷ vs)))
        ∙ ap (λ (rs : List (List V)). (end + 1 + length (of_row row vs low))
        ∷ ends_from (end + 1 + length (of_row row vs low)) rs) (passed (low + 1) m (omega (arith, same)))

    up_to : (k low next left n end : ℕ) → n ≡ k + left → next ≡ k + low → next ≤ row v → (0 < left → next ≡ row v)
        → ends_from end (rows_from row low n (v ∷ vs))
        ≡ replicate k end ++ ends_from (end + 1) (rows_from row next left vs)
    up_to zero low next left n end all is within reached =
        let here : low ≡ next = omega (arith, is) in
        let none : n ≡ left = omega (arith, all) in
        (λ i. ends_from end (rows_from row (here i) (none i) (v ∷ vs))) ∙ at_once next left end reached
    up_to (suc k) low next left n end all is within reached =
        let none = none_of row (row v) low (v ∷ vs) (omega arith, rise) (omega (arith, is, within)) in
        let same : end + length (of_row row (v ∷ vs) low) ≡ end = omega (arith, ap length none) in
        let one : n ≡ suc (k + left) = omega (arith, all) in
        ap (λ (m : ℕ). ends_from end (rows_from row low m (v ∷ vs))) one
        ∙ (λ i. same i ∷ ends_from (same i) (rows_from row (low + 1) (k + left) (v ∷ vs)))
        ∙ ap (λ (l : List ℕ). end ∷ l) (up_to k (low + 1) next left (k + left) end refl (omega (arith, is)) within reached)

    -- what is written, with what is left, stays all
    pub one_more : (k low next n left end : ℕ) (out new whole : List ℕ) → n ≡ k + left → next ≡ k + low → next ≤ row v
        → (0 < left → next ≡ row v) → new ≡ out ++ number_bytes (replicate k end)
        → out ++ number_bytes (ends_from end (rows_from row low n (v ∷ vs))) ≡ whole
        → new ++ number_bytes (ends_from (end + 1) (rows_from row next left vs)) ≡ whole
    one_more k low next n left end out new whole all_rows is within reached put all =
        let same = replicate k end in
        let rest = ends_from (end + 1) (rows_from row next left vs) in
        ap (λ (l : List ℕ). l ++ number_bytes rest) put
        ∙ append_assoc out (number_bytes same) (number_bytes rest)
        ∙ ap (λ (l : List ℕ). out ++ l) (sym (flat_map-append (to_le_bytes w64) same rest))
        ∙ ap (λ (l : List ℕ). out ++ number_bytes l) (sym (up_to k low next left n end all_rows is within reached)) ∙ all

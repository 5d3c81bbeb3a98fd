-- The values of each row put in order.
use Rattle.std.proofs.Common.{◌≡◌, ℕ, suc, ◌+◌, ◌<◌, ◌≤◌, Bool, true, false, cond, List, [], ◌∷◌, length, map, get_or, refl, sym, ap, ◌∙◌, arith}
use Rattle.std.specs.Prelude.{◌==◌, nat_lt}
use Rattle.std.specs.Ordering.{is_gt}
use Rattle.std.specs.List.{AllByRecursion, sum_by}
use Rattle.std.specs.List.Sorted.{IsPermutation}
use Rattle.std.proofs.lemmas.Bool.Decides.{Decides-eqb}
use Rattle.std.proofs.lemmas.List.Sorted.{sum_by-IsPermutation}
use Rattle.std.proofs.lemmas.List.Sums.{sum_by-cons}
use Rattle.seg_model.specs.Columns.{ColumnValue}
use Rattle.seg_column_writer.specs.RecordedColumns.{in_order, put_in_order, value_cmp}
use Rattle.seg_column_format.specs.ValuesByRow.{Rise, of_row}
use Rattle.seg_column_writer.proofs.NumberOrder.{Ascends, ascends_ordered, numbers_in_order, occurs, occurs_ordered, put_number, same_order}

module _ {V : Type 0} (row number : V → ℕ) where
  -- a value may stand before another: its row isn't later, and in one row its number isn't greater
  pub record MayPrecede (v w : V) : Type 0 where
    pub rows : row v ≤ row w
    pub numbers : row v ≡ row w → number v ≤ number w

  -- each value may stand before all after it
  abbrev pub AreOrdered : List V → Type 0
  AreOrdered [] = Unit {0}
  AreOrdered (v ∷ vs) = AllByRecursion (MayPrecede v) vs × AreOrdered vs

  pub from_places : (vs : List V) → ((i j : ℕ) (d : V) → i < j → j < length vs → MayPrecede (get_or vs i d) (get_or vs j d))
      → AreOrdered vs
  from_places [] all = tt
  from_places (v ∷ vs) all = (
    following vs (λ j d lt. all 0 (suc j) d (omega arith) (omega (arith, lt))),
    from_places vs (λ i j d lt below. all (suc i) (suc j) d (omega (arith, lt)) (omega (arith, below))),
  )
    where
      following : (ws : List V) → ((j : ℕ) (d : V) → j < length ws → MayPrecede v (get_or ws j d))
          → AllByRecursion (MayPrecede v) ws
      following [] each = tt
      following (w ∷ ws) each = (each 0 w (omega arith), following ws (λ j d lt. each (suc j) d (omega (arith, lt))))

  rise_from : (low : ℕ) (vs : List V) → AreOrdered vs → AllByRecursion (λ v. low ≤ row v) vs → Rise row low vs
  rise_from low [] ordered all = tt
  rise_from low (v ∷ vs) ordered all = (all.0, rise_from (row v) vs ordered.1 (rows_of vs ordered.0))
    where
      rows_of : (ws : List V) → AllByRecursion (MayPrecede v) ws → AllByRecursion (λ w. row v ≤ row w) ws
      rows_of [] each = tt
      rows_of (w ∷ ws) each = (each.0.rows, rows_of ws each.1)

  pub rises : (vs : List V) → AreOrdered vs → Rise row 0 vs
  rises vs ordered = rise_from 0 vs ordered (above vs)
    where
      above : (ws : List V) → AllByRecursion (λ w. 0 ≤ row w) ws
      above [] = tt
      above (w ∷ ws) = (omega arith, above ws)

  module _ (r : ℕ) where
    abbrev numbers_of : List V → List ℕ
    numbers_of vs = map number (of_row row vs r)

    abbrev AtLeast : ℕ → V → Type 0
    AtLeast low w = row w ≡ r → low ≤ number w

    ascends : (low : ℕ) (vs : List V) → AreOrdered vs → AllByRecursion (AtLeast low) vs → Ascends low (numbers_of vs)
    ascends low [] ordered all = tt
    ascends low (v ∷ vs) ordered all =
        by (row v == r) refl (λ e. ascends (number v) vs ordered.1 (higher e vs ordered.0)) (ascends low vs ordered.1 all.1)
      where
        higher : row v ≡ r → (ws : List V) → AllByRecursion (MayPrecede v) ws → AllByRecursion (AtLeast (number v)) ws
        higher e [] each = tt
        higher e (w ∷ ws) each = (λ s. each.0.numbers (e ∙ sym s), higher e ws each.1)

        by : (b : Bool) → (row v == r) ≡ b → (row v ≡ r → Ascends (number v) (numbers_of vs))
            → Ascends low (numbers_of vs) → Ascends low (map number (cond b (v ∷ of_row row vs r) (of_row row vs r)))
        by true e here rest = let same : row v ≡ r = (Decides-eqb (row v) r).0 e in (all.0 same, here same)
        by false e here rest = rest

    -- how often a number occurs in the row
    abbrev tally : ℕ → V → ℕ
    tally n v = cond (row v == r) (cond (number v == n) 1 0) 0

    occurs_is : (n : ℕ) (vs : List V) → occurs n (numbers_of vs) ≡ sum_by (tally n) vs
    occurs_is n [] = refl
    occurs_is n (v ∷ vs) =
        by (row v == r) ∙ ap (λ (k : ℕ). tally n v + k) (occurs_is n vs) ∙ sym (sum_by-cons (tally n) v vs)
      where
        by : (b : Bool) → occurs n (map number (cond b (v ∷ of_row row vs r) (of_row row vs r)))
            ≡ cond b (cond (number v == n) 1 0) 0 + occurs n (numbers_of vs)
        by true = refl
        by false = omega arith

    -- the numbers of a row after all values were put in order
    pub row_in_order : (vs ws : List V) → IsPermutation vs ws → AreOrdered ws
        → numbers_of ws ≡ numbers_in_order (numbers_of vs)
    row_in_order vs ws moved ordered =
        same_order 0 (numbers_of ws) (numbers_in_order (numbers_of vs))
        (ascends 0 ws ordered (any ws)) (ascends_ordered (numbers_of vs))
        (λ n. occurs_is n ws ∙ sum_by-IsPermutation (tally n) vs ws moved ∙ sym (occurs_is n vs)
        ∙ sym (occurs_ordered n (numbers_of vs)))
      where
        any : (xs : List V) → AllByRecursion (AtLeast 0) xs
        any [] = tt
        any (x ∷ xs) = (λ e. omega arith, any xs)

-- ---- as values

module _ (seen : ℕ → ColumnValue) (P : ℕ → Type 0)
    (rising : (a b : ℕ) → P a → P b → is_gt (value_cmp (seen a) (seen b)) ≡ nat_lt b a) where
  put_seen : (n : ℕ) (ns : List ℕ) → P n → AllByRecursion P ns
      → map seen (put_number n ns) ≡ put_in_order (seen n) (map seen ns)
  put_seen n [] p all = refl
  put_seen n (m ∷ ns) p all =
      by (nat_lt m n) (put_seen n ns p all.1)
      ∙ sym (ap (λ b. cond b (seen m ∷ put_in_order (seen n) (map seen ns)) (seen n ∷ seen m ∷ map seen ns))
      (rising n m p all.0))
    where
      by : (b : Bool) → map seen (put_number n ns) ≡ put_in_order (seen n) (map seen ns)
          → map seen (cond b (m ∷ put_number n ns) (n ∷ m ∷ ns))
          ≡ cond b (seen m ∷ put_in_order (seen n) (map seen ns)) (seen n ∷ seen m ∷ map seen ns)
      by true e = ap (λ (l : List ColumnValue). seen m ∷ l) e
      by false e = refl

  all_put : (n : ℕ) (ns : List ℕ) → P n → AllByRecursion P ns → AllByRecursion P (put_number n ns)
  all_put n [] p all = (p, tt)
  all_put n (m ∷ ns) p all = by (nat_lt m n) (all_put n ns p all.1)
    where
      by : (b : Bool) → AllByRecursion P (put_number n ns) → AllByRecursion P (cond b (m ∷ put_number n ns) (n ∷ m ∷ ns))
      by true rest = (all.0, rest)
      by false rest = (p, all)

  all_ordered : (ns : List ℕ) → AllByRecursion P ns → AllByRecursion P (numbers_in_order ns)
  all_ordered [] all = tt
  all_ordered (n ∷ ns) all = all_put n (numbers_in_order ns) all.0 (all_ordered ns all.1)

  -- values come in the order of their numbers
  pub seen_in_order : (ns : List ℕ) → AllByRecursion P ns → map seen (numbers_in_order ns) ≡ in_order (map seen ns)
  seen_in_order [] all = refl
  seen_in_order (n ∷ ns) all =
      put_seen n (numbers_in_order ns) all.0 (all_ordered ns all.1)
      ∙ ap (put_in_order (seen n)) (seen_in_order ns all.1)

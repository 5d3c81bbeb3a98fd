-- Whether a value of the rows that are kept passes a test: by their marks, and by their places.
use Rattle.std.proofs.Common.{◌≡◌, ℕ, zero, suc, ◌<◌, Bool, true, false, ◌||◌, cond, List, [], ◌∷◌, ◌++◌, length, get_or, refl, sym, ap, ◌∙◌, arith}
use mathlib.Core.Bool.{false≢true}
use Rattle.std.specs.Prelude.{◌&&◌, nat_eq}
use Rattle.std.specs.List.{list_any}
use Rattle.std.proofs.lemmas.Bool.{or_right, eqb-true, or_left, and_from}
use Rattle.std.specs.Cmp.{both_ways, first_so, second_so}
use Rattle.seg_common.proofs.Numbers.{nat_eq-itself}
use Rattle.seg_common.proofs.Bools.{or_grouped}
use Rattle.seg_column_file.specs.RowOrders.{Place}
use Rattle.seg_column_file.specs.KeptRows.{AreMarks, is_kept, kept_values}

module _ {T : Type 0} (p : T → Bool) where
  pub any_both : (xs ys : List T) → list_any p (xs ++ ys) ≡ (list_any p xs || list_any p ys)
  any_both [] ys = refl
  any_both (x ∷ xs) ys = ap (λ b. p x || b) (any_both xs ys) ∙ or_grouped (p x) (list_any p xs) (list_any p ys)

  -- ---- by marks

  pub kept_at : (ms : List Bool) (rows : List (List T)) (r : ℕ) → r < length rows → get_or ms r false ≡ true
      → list_any p (get_or rows r []) ≡ true → list_any p (kept_values ms rows) ≡ true
  kept_at ms [] r lt is q = absurd (omega (arith, lt))
  kept_at [] (row ∷ rows) r lt is q = absurd (false≢true is)
  kept_at (true ∷ ms) (row ∷ rows) zero lt is q =
      any_both row (kept_values ms rows) ∙ or_left (list_any p row) (list_any p (kept_values ms rows)) q
  kept_at (false ∷ ms) (row ∷ rows) zero lt is q = absurd (false≢true is)
  kept_at (m ∷ ms) (row ∷ rows) (suc r) lt is q =
      any_both (cond m row []) (kept_values ms rows)
      ∙ or_right (list_any p (cond m row [])) (list_any p (kept_values ms rows))
      (kept_at ms rows r (omega (arith, lt)) is q)

  record Found (ms : List Bool) (rows : List (List T)) : Type 0 where
    row : ℕ
    within : row < length rows
    marked : get_or ms row false ≡ true
    passes : list_any p (get_or rows row []) ≡ true

  later : (m : Bool) (row : List T) (ms : List Bool) (rows : List (List T)) → Found ms rows
      → Found (m ∷ ms) (row ∷ rows)
  later m row ms rows f = record {
    row = suc f.row;
    within = omega (arith, f.within);
    marked = f.marked;
    passes = f.passes;
  }

  here_or_later : (row : List T) (ms : List Bool) (rows : List (List T))
      → list_any p (row ++ kept_values ms rows) ≡ true
      → (list_any p (kept_values ms rows) ≡ true → Found ms rows) → (b : Bool) → list_any p row ≡ b
      → Found (true ∷ ms) (row ∷ rows)
  here_or_later row ms rows e rest true h = record { row = 0; within = omega arith; marked = refl; passes = h }
  here_or_later row ms rows e rest false h = later true row ms rows
      (rest (sym (ap (λ b. b || list_any p (kept_values ms rows)) h) ∙ sym (any_both row (kept_values ms rows)) ∙ e))

  kept_where : (ms : List Bool) (rows : List (List T)) → list_any p (kept_values ms rows) ≡ true → Found ms rows
  kept_where [] rows e = absurd (false≢true e)
  kept_where (m ∷ ms) [] e = absurd (false≢true e)
  kept_where (true ∷ ms) (row ∷ rows) e = here_or_later row ms rows e (kept_where ms rows) (list_any p row) refl
  kept_where (false ∷ ms) (row ∷ rows) e = later false row ms rows (kept_where ms rows e)

  within_rows : (rows : List (List T)) (r : ℕ) → list_any p (get_or rows r []) ≡ true → r < length rows
  within_rows [] r q = absurd (false≢true q)
  within_rows (row ∷ rows) zero q = omega arith
  within_rows (row ∷ rows) (suc r) q = omega (arith, within_rows rows r q)

  -- ---- by places

  module _ (file : ℕ) (rows : List (List T)) where
    -- the row of a place is one of this file, with a value that passes
    abbrev pub hits : Place → Bool
    hits a = nat_eq file a.0 && list_any p (get_or rows a.1 [])

    place_here : (a : Place) (rest : List Place) (r : ℕ) → is_kept (a ∷ rest) file r ≡ true
        → list_any p (get_or rows r []) ≡ true → (is_kept rest file r ≡ true → list_any hits rest ≡ true)
        → (b : Bool) → (nat_eq file a.0 && nat_eq r a.1) ≡ b → (hits a || list_any hits rest) ≡ true
    place_here a rest r is q later true e =
        let at : r ≡ a.1 = eqb-true r a.1 (second_so (nat_eq file a.0) (nat_eq r a.1) e) in
        or_left (hits a) (list_any hits rest)
        (and_from (nat_eq file a.0) (list_any p (get_or rows a.1 []))
        (first_so (nat_eq file a.0) (nat_eq r a.1) e) (ap (λ k. list_any p (get_or rows k [])) (sym at) ∙ q))
    place_here a rest r is q later false e =
        or_right (hits a) (list_any hits rest) (later (sym (ap (λ b. b || is_kept rest file r) e) ∙ is))

    place_at : (places : List Place) (r : ℕ) → is_kept places file r ≡ true → list_any p (get_or rows r []) ≡ true
        → list_any hits places ≡ true
    place_at [] r is q = absurd (false≢true is)
    place_at (a ∷ rest) r is q =
        place_here a rest r is q (λ more. place_at rest r more q) (nat_eq file a.0 && nat_eq r a.1) refl

    record Placed (places : List Place) : Type 0 where
      row : ℕ
      kept : is_kept places file row ≡ true
      passes : list_any p (get_or rows row []) ≡ true

    place_first : (a : Place) (rest : List Place) → list_any hits (a ∷ rest) ≡ true
        → (list_any hits rest ≡ true → Placed rest) → (b : Bool) → hits a ≡ b → Placed (a ∷ rest)
    place_first a rest e later true h = record {
      row = a.1;
      kept = or_left (nat_eq file a.0 && nat_eq a.1 a.1) (is_kept rest file a.1)
          (and_from (nat_eq file a.0) (nat_eq a.1 a.1)
          (first_so (nat_eq file a.0) (list_any p (get_or rows a.1 [])) h) (nat_eq-itself a.1));
      passes = second_so (nat_eq file a.0) (list_any p (get_or rows a.1 [])) h;
    }
    place_first a rest e later false h =
        let found = later (sym (ap (λ b. b || list_any hits rest) h) ∙ e) in
        record {
          row = found.row;
          kept = or_right (nat_eq file a.0 && nat_eq found.row a.1) (is_kept rest file found.row) found.kept;
          passes = found.passes;
        }

    place_where : (places : List Place) → list_any hits places ≡ true → Placed places
    place_where [] e = absurd (false≢true e)
    place_where (a ∷ rest) e = place_first a rest e (place_where rest) (hits a) refl

    -- both tell the same
    pub any_kept : (counts : List ℕ) (places : List Place) (kept : List (List Bool)) → AreMarks counts places kept
        → length rows ≡ get_or counts file 0
        → list_any p (kept_values (get_or kept file []) rows) ≡ list_any hits places
    any_kept counts places kept are long =
        both_ways (list_any p (kept_values (get_or kept file []) rows)) (list_any hits places)
        (λ e.
        let f = kept_where (get_or kept file []) rows e in
        place_at places f.row
        (sym (are.marks file f.row (omega (arith, f.within, long))) ∙ f.marked) f.passes)
        (λ e.
        let f = place_where places e in
        let within : f.row < length rows = within_rows rows f.row f.passes in
        kept_at (get_or kept file []) rows f.row within
        (are.marks file f.row (omega (arith, within, long)) ∙ f.kept) f.passes)

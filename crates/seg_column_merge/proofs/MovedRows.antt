-- Rows that are moved out of their places, each by the least head of a run.
use Rattle.std.proofs.Common.{◌≡◌, ℕ, suc, ◌+◌, ◌<◌, ◌≤◌, Bool, true, false, cond, List, [], ◌∷◌, ◌++◌, map, set, take, drop, filter, length, get_or, Option, Some, None, ◌⊎◌, inl, inr, refl, sym, ap, subst, ◌∙◌, append_assoc, arith}
use Rattle.std.specs.Prelude.{All, Contains}
use Rattle.std.specs.List.{AllByRecursion}
use Rattle.std.specs.List.Sorted.{IsPermutation, IsSortedBy, IsStableBy, ties}
use Rattle.std.proofs.lemmas.Bool.{cases_eq, cases_lt}
use Rattle.std.proofs.lemmas.List.{append-nil, length-append, get_or-set_other, get_or_past, length-set}
use Rattle.std.proofs.lemmas.List.Elements.{All-append, All-cons, filter-append, Contains-append_right}
use Rattle.std.proofs.lemmas.List.Sorted.{All-permutation, Contains-permutation, IsPermutation-middle, IsPermutation-pop_more, IsPermutation-refl, length_permutation}
use Rattle.std.proofs.lemmas.Option.{none-some}
use Rattle.seg_column_merge_parts.specs.HeadHeaps.{Head, Pops}
use Rattle.seg_column_merge.specs.TableOrder.{Advances, AreRuns, IsHead, Moves, Slots, Waits, next_heads, row_at, row_head, row_lt}
use Rattle.seg_column_merge_parts.specs.declared.tables.TableRow.{TableRow}
use Rattle.seg_column_merge.proofs.EmptiedPlaces.{all_present, cut_at, in_front, present, still_there, taken_at}
use Rattle.seg_column_merge.proofs.TableKeys.{in_front_of, push_sorted, row_order}
use Rattle.seg_column_merge.proofs.TableRuns.{beside, is_either, none_left, others_are, same_row}

pub record SoFar (rows done : List TableRow) (slots : Slots) (heads : List Head) : Type 0 where
  pub stable : IsStableBy row_lt rows (done ++ present slots)
  pub moves : IsPermutation rows (done ++ present slots)
  pub sorted : IsSortedBy row_lt done
  pub low : (at : ℕ) (row : TableRow) → row_at slots at ≡ Some row → All (λ x. row_lt row x ≡ false) done
  pub runs : AreRuns slots heads

pub nothing_yet : (rows : List TableRow) (heads : List Head) → AreRuns (map Some rows) heads
    → SoFar rows [] (map Some rows) heads
nothing_yet rows heads runs = record {
  stable = λ x. ap (filter (ties row_lt x)) (all_present rows);
  moves = subst (IsPermutation rows) (sym (all_present rows)) (IsPermutation-refl rows);
  sorted = λ k d le lt. absurd (omega (arith, lt));
  low = λ at row is k d lt. absurd (omega (arith, lt));
  runs = runs;
}

pub record IsInOrder (rows table : List TableRow) : Type 0 where
  pub sorted : IsSortedBy row_lt table
  pub stable : IsStableBy row_lt rows table
  pub permutation : IsPermutation rows table

pub all_moved : (rows done : List TableRow) (slots : Slots) (heads : List Head) → heads ≡ []
    → SoFar rows done slots heads → IsInOrder rows done
all_moved rows done slots heads none so_far =
    let whole : done ++ present slots ≡ done =
    ap (λ (l : List TableRow). done ++ l) (none_left slots heads so_far.runs none) ∙ append-nil done in
    record {
      sorted = so_far.sorted;
      stable = λ x. ap (filter (ties row_lt x)) (sym whole) ∙ so_far.stable x;
      permutation = subst (IsPermutation rows) whole so_far.moves;
    }

abbrev pub measure : Slots → List Head → ℕ
measure slots heads = length (present slots) + length heads

module _ (rows done : List TableRow) (slots : Slots) (heads : List Head) (so_far : SoFar rows done slots heads)
    (rest : List Head) (h : Head) (pops : Pops heads rest h) where
  fewer : length heads ≡ 1 + length rest
  fewer = sym (length_permutation heads (h ∷ rest) pops.moves) ∙ omega arith

  -- no row is at the place of the head
  module _ (none : row_at slots h.2 ≡ None) where
    waits_on : (at : ℕ) (row : TableRow) → row_at slots at ≡ Some row → Waits slots heads at row
        → Waits slots rest at row
    waits_on at row is (inr goes) = inr goes
    waits_on at row is (inl there) = by (is_either slots heads so_far.runs rest h pops (row_head row at) there)
      where
        by : (h ≡ row_head row at) ⊎ Contains rest (row_head row at) → Waits slots rest at row
        by (inl same) = absurd (none-some row (sym none ∙ ap (λ (g : Head). row_at slots g.2) same ∙ is))
        by (inr inner) = inl inner

    passed_by : SoFar rows done slots rest
    passed_by = record {
      stable = so_far.stable;
      moves = so_far.moves;
      sorted = so_far.sorted;
      low = so_far.low;
      runs = record {
        each = others_are slots heads so_far.runs rest h pops;
        all = λ at row is. waits_on at row is (so_far.runs.all at row is);
      };
    }

  -- a row is there
  module _ (least : TableRow) (is : row_at slots h.2 ≡ Some least) (new : List Head)
      (goes : Advances (set slots h.2 None) least h.2 rest new) where
    abbrev left : Slots
    left = set slots h.2 None

    abbrev front : List TableRow
    front = present (take h.2 slots)

    abbrev back : List TableRow
    back = present (drop (suc h.2) slots)

    whole : present slots ≡ front ++ least ∷ back
    whole = cut_at slots h.2 least is

    now_left : present left ≡ front ++ back
    now_left = taken_at slots h.2 least is

    beside_it : (at : ℕ) (row : TableRow) → row_at slots at ≡ Some row
        → (row_lt row least ≡ false) × (at < h.2 → row_lt least row ≡ true)
    beside_it = beside slots heads so_far.runs rest h pops least is

    above : AllByRecursion (λ row. row_lt least row ≡ true) front
    above = in_front (λ (row : TableRow). row_lt least row ≡ true) slots h.2
        (λ at row lt there. (beside_it at row there).1 lt)

    still_stable : IsStableBy row_lt rows ((done ++ least ∷ []) ++ present left)
    still_stable x =
        let p = ties row_lt x in
        ap (filter p) (ap (λ (l : List TableRow). (done ++ least ∷ []) ++ l) now_left
        ∙ append_assoc done (least ∷ []) (front ++ back))
        ∙ filter-append p done (least ∷ (front ++ back))
        ∙ ap (λ (l : List TableRow). filter p done ++ l) (sym (in_front_of row_lt row_order x least front back above))
        ∙ sym (filter-append p done (front ++ least ∷ back))
        ∙ ap (λ (l : List TableRow). filter p (done ++ l)) (sym whole)
        ∙ so_far.stable x

    still_moves : IsPermutation rows ((done ++ least ∷ []) ++ present left)
    still_moves = subst (λ (l : List TableRow). IsPermutation rows ((done ++ least ∷ []) ++ l)) (sym now_left)
        (IsPermutation-pop_more rows done (front ++ least ∷ back) (front ++ back) least
        (subst (λ (l : List TableRow). IsPermutation rows (done ++ l)) whole so_far.moves)
        (IsPermutation-middle front least back))

    low_now : (at : ℕ) (row : TableRow) → row_at left at ≡ Some row
        → All (λ x. row_lt row x ≡ false) (done ++ least ∷ [])
    low_now at row there =
        let was = (still_there slots h.2 at row there).1 in
        let P : TableRow → Type 0 = λ x. row_lt row x ≡ false in
        All-append P done (least ∷ []) (so_far.low at row was)
        (All-cons P least [] (beside_it at row was).0 (λ k d lt. absurd (omega (arith, lt))))

    keeps_head : (g : Head) → IsHead slots g → IsHead left g
    keeps_head g at_place = record {
      within = omega (arith, at_place.within, length-set slots h.2 None);
      is = λ row there. at_place.is row (still_there slots h.2 g.2 row there).1;
    }

    next_are : (o : Option TableRow) → row_at left (h.2 + 1) ≡ o
        → All (IsHead left) (next_heads least (h.2 + 1) o)
    next_are None e = λ k d lt. absurd (omega (arith, lt))
    next_are (Some later) e = by (row_lt later least)
      where
        place : h.2 + 1 < length left
        place = by_place (cases_lt (h.2 + 1) (length left))
          where
            by_place : (h.2 + 1 < length left) ⊎ (length left ≤ h.2 + 1) → h.2 + 1 < length left
            by_place (inl lt) = lt
            by_place (inr past) = absurd (none-some later (sym (get_or_past left (h.2 + 1) None past) ∙ e))

        by : (b : Bool) → All (IsHead left) (cond b [] (row_head later (h.2 + 1) ∷ []))
        by true = λ k d lt. absurd (omega (arith, lt))
        by false = All-cons (IsHead left) (row_head later (h.2 + 1)) []
            (record {
              within = place;
              is = λ row there. ap (λ (x : TableRow). row_head x (h.2 + 1)) (same_row (row_at left (h.2 + 1)) later row e there);
            }) (λ k d lt. absurd (omega (arith, lt)))

    heads_now : All (IsHead left) new
    heads_now = All-permutation (IsHead left) (next_heads least (h.2 + 1) (row_at left (h.2 + 1)) ++ rest) new goes
        (All-append (IsHead left) (next_heads least (h.2 + 1) (row_at left (h.2 + 1))) rest
        (next_are (row_at left (h.2 + 1)) refl)
        (λ k d lt. keeps_head (get_or rest k d) (others_are slots heads so_far.runs rest h pops k d lt)))

    stays_there : (g : Head) → Contains rest g → Contains new g
    stays_there g there =
        Contains-permutation (next_heads least (h.2 + 1) (row_at left (h.2 + 1)) ++ rest) new g goes
        (Contains-append_right (next_heads least (h.2 + 1) (row_at left (h.2 + 1))) rest g there)

    -- the row after it, if it goes on
    put_in : (at : ℕ) (row : TableRow) → h.2 + 1 ≡ at → row_at left at ≡ Some row → row_lt row least ≡ false
        → Contains new (row_head row at)
    put_in at row next there not_below =
        let here : row_at left (h.2 + 1) ≡ Some row = ap (row_at left) next ∙ there in
        let heads_are : next_heads least (h.2 + 1) (row_at left (h.2 + 1)) ≡ row_head row (h.2 + 1) ∷ [] =
        ap (next_heads least (h.2 + 1)) here
        ∙ ap (λ (b : Bool). cond b [] (row_head row (h.2 + 1) ∷ [])) not_below in
        subst (λ (p : ℕ). Contains new (row_head row p)) next
        (Contains-permutation (row_head row (h.2 + 1) ∷ rest) new (row_head row (h.2 + 1))
        (subst (λ (l : List Head). IsPermutation (l ++ rest) new) heads_are goes) (0, omega arith, refl))

    waits_now : (at : ℕ) (row : TableRow) → row_at left at ≡ Some row → Waits slots heads at row
        → Waits left new at row
    waits_now at row there (inl head) = by (is_either slots heads so_far.runs rest h pops (row_head row at) head)
      where
        by : (h ≡ row_head row at) ⊎ Contains rest (row_head row at) → Waits left new at row
        by (inl same) = absurd ((still_there slots h.2 at row there).0 (ap (λ (g : Head). g.2) (sym same)))
        by (inr inner) = inl (stays_there (row_head row at) inner)
    waits_now at row there (inr from) = by (cases_eq from.place h.2)
      where
        by : (from.place ≡ h.2) ⊎ (from.place ≡ h.2 → ⊥) → Waits left new at row
        by (inl same) =
            let before : from.before ≡ least =
            same_row (row_at slots h.2) from.before least (ap (row_at slots) (sym same) ∙ from.is) is in
            inl (put_in at row (ap (λ (p : ℕ). p + 1) (sym same) ∙ from.next) there
            (subst (λ (x : TableRow). row_lt row x ≡ false) before from.not_below))
        by (inr other) = inr (record {
          place = from.place;
          before = from.before;
          next = from.next;
          is = get_or-set_other slots h.2 from.place None None other ∙ from.is;
          not_below = from.not_below;
        })

    moved_on : SoFar rows (done ++ least ∷ []) left new
    moved_on = record {
      stable = still_stable;
      moves = still_moves;
      sorted = push_sorted row_lt done least so_far.sorted (so_far.low h.2 least is);
      low = low_now;
      runs = record {
        each = heads_now;
        all = λ at row there.
            waits_now at row there (so_far.runs.all at row (still_there slots h.2 at row there).1);
      };
    }

    at_most_one : (o : Option TableRow) → length (next_heads least (h.2 + 1) o) ≤ 1
    at_most_one None = omega arith
    at_most_one (Some later) = by (row_lt later least)
      where
        by : (b : Bool) → length (cond b [] (row_head later (h.2 + 1) ∷ [])) ≤ 1
        by true = omega arith
        by false = omega arith

    smaller : measure left new < measure slots heads
    smaller = omega (
      arith,
      ap length whole,
      ap length now_left,
      length-append front (least ∷ back),
      length-append front back,
      fewer,
      length_permutation (next_heads least (h.2 + 1) (row_at left (h.2 + 1)) ++ rest) new goes,
      length-append (next_heads least (h.2 + 1) (row_at left (h.2 + 1))) rest,
      at_most_one (row_at left (h.2 + 1)),
    )

  -- one turn
  pub turned : (left : Slots) (more : List TableRow) (new : List Head)
      → Moves (row_at slots h.2) h.2 (slots, done, rest) (left, more, new)
      → SoFar rows more left new × (measure left new < measure slots heads)
  turned left more new moves = by (row_at slots h.2) refl moves
    where
      Turns : Slots → List TableRow → List Head → Type 0
      Turns s d hs = SoFar rows d s hs × (measure s hs < measure slots heads)

      by : (o : Option TableRow) → row_at slots h.2 ≡ o → Moves o h.2 (slots, done, rest) (left, more, new)
          → Turns left more new
      by None e same = subst (λ (t : Slots × List TableRow × List Head). Turns t.0 t.1 t.2) (sym same)
          (passed_by e, omega (arith, fewer))
      by (Some least) e (taken, put, goes) =
          let goes' = subst (λ (s : Slots). Advances s least h.2 rest new) taken goes in
          subst (λ (s : Slots). Turns s more new) (sym taken)
          (subst (λ (d : List TableRow). Turns (set slots h.2 None) d new) (sym put)
          (moved_on least e new goes', smaller least e new goes'))

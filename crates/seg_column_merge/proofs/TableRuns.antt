-- The heads of runs of rows: each row that is left waits for one.
use Rattle.std.proofs.Common.{◌≡◌, ℕ, zero, suc, ◌+◌, ◌<◌, ◌≤◌, true, false, List, [], ◌∷◌, map, length, Option, Some, None, ◌⊎◌, inl, inr, refl, sym, ap, subst, ◌∙◌, arith}
use Rattle.std.specs.Prelude.{All, Contains}
use Rattle.std.specs.List.Sorted.{IsPermutation}
use Rattle.std.specs.Ordering.{is_lt}
use Rattle.std.proofs.lemmas.Bool.{cases_lt}
use Rattle.std.proofs.lemmas.List.{get_or_past}
use Rattle.std.proofs.lemmas.List.Elements.{All-contains, All-cons, All-tail, Contains-append_right}
use Rattle.std.proofs.lemmas.List.Sorted.{All-permutation, Contains-permutation}
use Rattle.std.proofs.lemmas.Option.{none-some}
use Rattle.seg_column_merge_parts.specs.HeadHeaps.{Head, Pops, head_cmp}
use Rattle.seg_column_merge.specs.TableOrder.{AreRuns, Begins, GoesFrom, GoesOn, IsHead, Slots, Waits, row_at, row_head, row_lt}
use Rattle.seg_column_merge_parts.specs.declared.tables.TableRow.{TableRow}
use Rattle.seg_column_merge_parts.proofs.Exports.{there_in}
use Rattle.seg_column_merge.proofs.EmptiedPlaces.{none_present, present, some_at}
use Rattle.seg_column_merge.proofs.TableKeys.{beside_least, less_then, not_itself, row_order}

pub same_row : (o : Option TableRow) (x y : TableRow) → o ≡ Some x → o ≡ Some y → x ≡ y
same_row o x y is other = ap (λ (p : Option TableRow). from p) (sym is ∙ other)
  where
    from : Option TableRow → TableRow
    from None = x
    from (Some z) = z

-- ---- the head that a row waits for

module _ (slots : Slots) (heads : List Head) (runs : AreRuns slots heads) where
  record Found (at : ℕ) (row : TableRow) : Type 0 where
    place : ℕ
    first : TableRow
    le : place ≤ at
    is : row_at slots place ≡ Some first
    there : Contains heads (row_head first place)
    not_below : row_lt row first ≡ false

  itself : (at : ℕ) (row : TableRow) → row_at slots at ≡ Some row → Contains heads (row_head row at) → Found at row
  itself at row is there = record {
    place = at;
    first = row;
    le = omega arith;
    is = is;
    there = there;
    not_below = not_itself row_lt row_order row;
  }

  further : (at : ℕ) (row : TableRow) → ((before : TableRow) → row_at slots at ≡ Some before → Found at before)
      → row_at slots (suc at) ≡ Some row → Waits slots heads (suc at) row → Found (suc at) row
  further at row earlier is (inl there) = itself (suc at) row is there
  further at row earlier is (inr goes) =
      let same : goes.place ≡ at = omega (arith, goes.next) in
      let found = earlier goes.before (subst (λ (p : ℕ). row_at slots p ≡ Some goes.before) same goes.is) in
      record {
        place = found.place;
        first = found.first;
        le = omega (arith, found.le);
        is = found.is;
        there = found.there;
        not_below = row_order.chain row goes.before found.first goes.not_below found.not_below;
      }

  at_zero : (row : TableRow) → row_at slots 0 ≡ Some row → Waits slots heads 0 row → Found 0 row
  at_zero row is (inl there) = itself 0 row is there
  at_zero row is (inr goes) = absurd (omega (arith, goes.next))

  found : (at : ℕ) (row : TableRow) → row_at slots at ≡ Some row → Found at row
  found zero row is = at_zero row is (runs.all 0 row is)
  found (suc at) row is = further at row (found at) is (runs.all (suc at) row is)

  -- where there is no head, no row is left
  pub none_left : heads ≡ [] → present slots ≡ []
  none_left none = none_present slots (λ at row is.
      let (k, lt, there) = (found at row is).there in
      omega (arith, lt, ap length none))

  module _ (rest : List Head) (h : Head) (pops : Pops heads rest h) where
    both : All (IsHead slots) (h ∷ rest)
    both = All-permutation (IsHead slots) heads (h ∷ rest) pops.moves runs.each

    pub head_is : IsHead slots h
    head_is = both 0 h (omega arith)

    pub others_are : All (IsHead slots) rest
    others_are = All-tail (IsHead slots) h rest both

    -- a head is that one, or is left
    pub is_either : (g : Head) → Contains heads g → (h ≡ g) ⊎ Contains rest g
    is_either g there = there_in h g rest (Contains-permutation heads (h ∷ rest) g pops.moves there)

    -- no row that is left is below that of the least head, and those before it are above it
    pub beside : (least : TableRow) → row_at slots h.2 ≡ Some least → (at : ℕ) (row : TableRow)
        → row_at slots at ≡ Some row → (row_lt row least ≡ false) × (at < h.2 → row_lt least row ≡ true)
    beside least is at row there = by (is_either (row_head f.first f.place) f.there)
      where
        f : Found at row
        f = found at row there

        by : (h ≡ row_head f.first f.place) ⊎ Contains rest (row_head f.first f.place)
            → (row_lt row least ≡ false) × (at < h.2 → row_lt least row ≡ true)
        by (inl same) =
            let place : h.2 ≡ f.place = ap (λ (g : Head). g.2) same in
            let first : f.first ≡ least =
            same_row (row_at slots f.place) f.first least f.is (ap (row_at slots) (sym place) ∙ is) in
            (subst (λ (x : TableRow). row_lt row x ≡ false) first f.not_below, (λ lt. absurd (omega (arith, lt, f.le, place))))
        by (inr inner) =
            let le : is_lt (head_cmp (row_head f.first f.place) (row_head least h.2)) ≡ false =
            ap (λ (g : Head). is_lt (head_cmp (row_head f.first f.place) g)) (sym (head_is.is least is))
            ∙ All-contains (λ (y : Head). is_lt (head_cmp y h) ≡ false) rest (row_head f.first f.place) pops.least inner in
            let (not_below, above) = beside_least f.first least f.place h.2 le in (
              row_order.chain row f.first least f.not_below not_below,
              (λ lt. less_then row_lt row_order least f.first row (above (omega (arith, lt, f.le))) f.not_below),
            )

-- ---- the heads of all runs

-- those of the rows before a place
pub record AreBegun (slots : Slots) (place : ℕ) (heads : List Head) : Type 0 where
  pub each : All (IsHead slots) heads
  pub all : (at : ℕ) (row : TableRow) → at < place → row_at slots at ≡ Some row → Waits slots heads at row

pub none_begun : (slots : Slots) → AreBegun slots 0 []
none_begun slots = record {
  each = λ k d lt. absurd (omega (arith, lt));
  all = λ at row lt is. absurd (omega (arith, lt));
}

pub one_begun : (slots : Slots) (place : ℕ) (old new : List Head) → place < length slots → AreBegun slots place old
    → Begins slots place old new → AreBegun slots (place + 1) new
one_begun slots place old new within begun begins = by begins.puts
  where
    head : Head
    head = row_head begins.row place

    same : (at : ℕ) (row : TableRow) → at < place + 1 → place ≤ at → row_at slots at ≡ Some row
        → (place ≡ at) × (begins.row ≡ row)
    same at row lt le is =
        let here : place ≡ at = omega (arith, lt, le) in
        (here, same_row (row_at slots at) begins.row row (ap (row_at slots) (sym here) ∙ begins.is) is)

    by : IsPermutation (head ∷ old) new ⊎ ((new ≡ old) × GoesFrom slots place begins.row) → AreBegun slots (place + 1) new
    by (inl put) = record {
      each = All-permutation (IsHead slots) (head ∷ old) new put
          (All-cons (IsHead slots) head old (record {
            within = within;
            is = λ row is. ap (λ (x : TableRow). row_head x place) (same_row (row_at slots place) begins.row row begins.is is);
          }) begun.each);
      all = λ at row lt is. waits at row lt is (cases_lt at place);
    }
      where
        waits : (at : ℕ) (row : TableRow) → at < place + 1 → row_at slots at ≡ Some row
            → (at < place) ⊎ (place ≤ at) → Waits slots new at row
        waits at row lt is (inl before) = on (begun.all at row before is)
          where
            on : Waits slots old at row → Waits slots new at row
            on (inl there) = inl (Contains-permutation (head ∷ old) new (row_head row at) put
                (Contains-append_right (head ∷ []) old (row_head row at) there))
            on (inr goes) = inr goes
        waits at row lt is (inr le) =
            let (here, row_is) = same at row lt le is in
            inl (subst (λ (g : Head). Contains new g) (λ j. row_head (row_is j) (here j))
            (Contains-permutation (head ∷ old) new head put (0, omega arith, refl)))
    by (inr (unmoved, goes)) = record {
      each = subst (All (IsHead slots)) (sym unmoved) begun.each;
      all = λ at row lt is. subst (λ (hs : List Head). Waits slots hs at row) (sym unmoved)
          (waits at row lt is (cases_lt at place));
    }
      where
        waits : (at : ℕ) (row : TableRow) → at < place + 1 → row_at slots at ≡ Some row
            → (at < place) ⊎ (place ≤ at) → Waits slots old at row
        waits at row lt is (inl before) = begun.all at row before is
        waits at row lt is (inr le) =
            let (here, row_is) = same at row lt le is in
            inr (subst (λ (x : TableRow). GoesFrom slots at x) row_is
            (subst (λ (p : ℕ). GoesFrom slots p begins.row) here goes))

pub goes_begun : (rows : List TableRow) (place : ℕ) (heads : List Head) → place < length rows
    → GoesOn (map Some rows) place → Begins (map Some rows) place heads heads
goes_begun rows place heads lt goes =
    let (row, is) = some_at rows place lt in
    record { row = row; is = is; puts = inr (refl, goes row is) }

pub all_begun : (slots : Slots) (place : ℕ) (heads : List Head) → length slots ≤ place → AreBegun slots place heads
    → AreRuns slots heads
all_begun slots place heads le begun = record {
  each = begun.each;
  all = λ at row is. begun.all at row (omega (arith, le, within at row is)) is;
}
  where
    within : (at : ℕ) (row : TableRow) → row_at slots at ≡ Some row → at < length slots
    within at row is = by (cases_lt at (length slots))
      where
        by : (at < length slots) ⊎ (length slots ≤ at) → at < length slots
        by (inl lt) = lt
        by (inr past) = absurd (none-some row (sym (get_or_past slots at None past) ∙ is))

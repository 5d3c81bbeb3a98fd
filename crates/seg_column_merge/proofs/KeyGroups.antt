-- Rows of a sorted table that have one key are all rows that have it.
use Rattle.std.proofs.Common.{◌≡◌, ℕ, ◌+◌, ◌<◌, ◌≤◌, Bool, true, false, cond, List, [], ◌∷◌, ◌++◌, length, map, filter, take, drop, get_or, refl, sym, ap, ◌∙◌, append_assoc, arith, ◌⊎◌, inl, inr}
use Rattle.std.specs.Prelude.{◌&&◌, All, not, slice_range}
use Rattle.std.specs.Cmp.{IsStrictWeakOrder}
use Rattle.std.specs.Cmp.Lexicographic.{slice_cmp}
use Rattle.std.specs.List.{AllByRecursion}
use Rattle.std.specs.List.Sorted.{IsSortedBy, IsSortedByKey, IsStableByKey, ties}
use Rattle.std.specs.Ordering.{is_eq, is_lt, nat_cmp, ordering_reverse, ordering_then}
use Rattle.std.specs.declared.cmp.Ordering.{Ordering}
use Rattle.std.specs.declared.cmp.Ordering.TheVariants.{Less, Equal, Greater}
use Rattle.std.specs.Str.{bytes_eq}
use Rattle.std.proofs.lemmas.Bool.{and_left, and_right, cases_lt, false≢true, true≢false}
use Rattle.std.proofs.lemmas.List.{append-nil, get_or-drop, get_or-take, get_or_default, length-drop, length-take, take-append-drop, take-take}
use Rattle.std.proofs.lemmas.List.Elements.{filter-append, recursion_from_All}
use Rattle.std.proofs.lemmas.List.Sorted.{sorted_far}
use Rattle.std.proofs.lemmas.Map.Text.{is_eq-slice_cmp}
use Rattle.std.proofs.lemmas.Slice.{between_is}
use Rattle.seg_common.proofs.Bytes.{bytes_eq-sym}
use Rattle.seg_common.proofs.Numbers.{nat_eq-sym, is_eq-nat_cmp}
use Rattle.seg_column_merge.specs.Cells.{is_of, rows_with}
use Rattle.seg_column_merge.specs.Groups.{IsGroup, has_key}
use Rattle.seg_column_merge.proofs.TableKeys.{key_total, less_then, row_order}
use Rattle.seg_column_merge.specs.TableOrder.{row_lt}
use Rattle.seg_column_merge_parts.specs.Tables.{Row, kind_of, row_of, table_key, table_key_cmp}
use Rattle.seg_column_merge_parts.specs.declared.tables.TableRow.{TableRow}

-- ---- lists in order

module _ {X : Type 0} (lt : X → X → Bool) (o : IsStrictWeakOrder lt) where
  then_less : (x y z : X) → lt y x ≡ false → lt y z ≡ true → lt x z ≡ true
  then_less x y z le less = by (lt x z) refl
    where
      by : (b : Bool) → lt x z ≡ b → lt x z ≡ true
      by true e = e
      by false e = absurd (false≢true (sym (o.chain y x z le e) ∙ less))

  module _ (x : X) where
    front_apart : (xs : List X) → AllByRecursion (λ b. lt b x ≡ true) xs → filter (ties lt x) xs ≡ []
    front_apart [] all = refl
    front_apart (b ∷ bs) all =
        let apart : ties lt x b ≡ false = and_right (not (lt x b)) (not (lt b x)) (ap not all.0) in
        ap (λ (c : Bool). cond c (b ∷ filter (ties lt x) bs) (filter (ties lt x) bs)) apart ∙ front_apart bs all.1

    back_apart : (xs : List X) → AllByRecursion (λ b. lt x b ≡ true) xs → filter (ties lt x) xs ≡ []
    back_apart [] all = refl
    back_apart (b ∷ bs) all =
        let apart : ties lt x b ≡ false = and_left (not (lt x b)) (not (lt b x)) (ap not all.0) in
        ap (λ (c : Bool). cond c (b ∷ filter (ties lt x) bs) (filter (ties lt x) bs)) apart ∙ back_apart bs all.1

    all_tie : (xs : List X) → AllByRecursion (λ b. ties lt x b ≡ true) xs → filter (ties lt x) xs ≡ xs
    all_tie [] all = refl
    all_tie (b ∷ bs) all =
        ap (λ (c : Bool). cond c (b ∷ filter (ties lt x) bs) (filter (ties lt x) bs)) all.0
        ∙ ap (λ (l : List X). b ∷ l) (all_tie bs all.1)

  module _ (table : List X) (up : IsSortedBy lt table) (start stop : ℕ) (x : X) (some : start < stop)
      (within : stop ≤ length table) (first : (d : X) → get_or table start d ≡ x)
      (same : (k : ℕ) (d : X) → start ≤ k → k < stop → ties lt x (get_or table k d) ≡ true)
      (other : (d : X) → stop < length table → lt x (get_or table stop d) ≡ true)
      (cut : (k : ℕ) (d : X) → k < start → lt (get_or table k d) x ≡ true) where
    -- what is between two places
    abbrev group : List X
    group = slice_range table start stop

    group_is : group ≡ drop start (take stop table)
    group_is = between_is table start stop

    parts : table ≡ take start table ++ (group ++ drop stop table)
    parts =
        sym (take-append-drop stop table)
        ∙ ap (λ (l : List X). l ++ drop stop table) (sym (take-append-drop start (take stop table)))
        ∙ append_assoc (take start (take stop table)) (drop start (take stop table)) (drop stop table)
        ∙ (λ j. take-take start stop table (omega (arith, some)) j ++ (sym group_is j ++ drop stop table))

    in_front : All (λ b. lt b x ≡ true) (take start table)
    in_front k d lt' =
        let below : k < start = omega (arith, lt', length-take start table) in
        ap (λ (b : X). lt b x) (get_or-take start table k d below) ∙ cut k d below

    in_group : All (λ b. ties lt x b ≡ true) (drop start (take stop table))
    in_group k d lt' =
        let below : start + k < stop =
        omega (arith, lt', length-drop start (take stop table), length-take stop table, within) in
        ap (ties lt x) (get_or-drop start (take stop table) k d ∙ get_or-take stop table (start + k) d below)
        ∙ same (start + k) d (omega arith) below

    later : (k : ℕ) (d : X) → stop ≤ k → k < length table → lt x (get_or table k d) ≡ true
    later k d le below =
        less_then lt o x (get_or table stop d) (get_or table k d) (other d (omega (arith, le, below)))
        (sorted_far lt o table up stop k d le below)

    in_back : All (λ b. lt x b ≡ true) (drop stop table)
    in_back k d lt' =
        ap (lt x) (get_or-drop stop table k d)
        ∙ later (stop + k) d (omega arith) (omega (arith, lt', length-drop stop table))

    pub group_ties : filter (ties lt x) table ≡ group
    group_ties =
        ap (filter (ties lt x)) parts
        ∙ filter-append (ties lt x) (take start table) (group ++ drop stop table)
        ∙ (λ j. front_apart x (take start table) (recursion_from_All (λ b. lt b x ≡ true) (take start table) in_front) j
        ++ filter-append (ties lt x) group (drop stop table) j)
        ∙ (λ j. in_both j ++ back_apart x (drop stop table)
        (recursion_from_All (λ b. lt x b ≡ true) (drop stop table) in_back) j)
        ∙ append-nil group
      where
        in_both : filter (ties lt x) group ≡ group
        in_both =
            ap (filter (ties lt x)) group_is
            ∙ all_tie x (drop start (take stop table))
            (recursion_from_All (λ b. ties lt x b ≡ true) (drop start (take stop table)) in_group)
            ∙ sym group_is

    -- all rows so far are below the next one
    pub next_cut : (k : ℕ) (d : X) → k < stop → stop < length table → lt (get_or table k d) (get_or table stop d) ≡ true
    next_cut k d below more = by (cases_lt k start)
      where
        by : (k < start) ⊎ (start ≤ k) → lt (get_or table k d) (get_or table stop d) ≡ true
        by (inl before) =
            less_then lt o (get_or table k d) x (get_or table stop d) (cut k d before)
            (o.one_way x (get_or table stop d) (other d more))
        by (inr le) =
            then_less (get_or table k d) x (get_or table stop d)
            (not_less (lt x (get_or table k d)) (lt (get_or table k d) x) (same k d le below))
            (other d more)
          where
            not_less : (a b : Bool) → (not a && not b) ≡ true → a ≡ false
            not_less true b e = absurd (false≢true e)
            not_less false b e = refl

-- ---- by keys

eq_then : (a b : Ordering) → is_eq (ordering_then a b) ≡ (is_eq a && is_eq b)
eq_then Less b = refl
eq_then Equal b = refl
eq_then Greater b = refl

keys_equal : (x y : TableRow) → is_eq (table_key_cmp (table_key x) (table_key y)) ≡ has_key x y
keys_equal x y =
    eq_then (slice_cmp nat_cmp x.path.now y.path.now) (nat_cmp (kind_of x.column_type) (kind_of y.column_type))
    ∙ (λ j. is_eq-slice_cmp x.path.now y.path.now j && is_eq-nat_cmp (kind_of x.column_type) (kind_of y.column_type) j)

has_key-sym : (x y : TableRow) → has_key x y ≡ has_key y x
has_key-sym x y = λ j. bytes_eq-sym x.path.now y.path.now j && nat_eq-sym (kind_of x.column_type)
    (kind_of y.column_type) j

abbrev compared : TableRow → TableRow → Ordering
compared x y = table_key_cmp (table_key x) (table_key y)

ties_are : (x y : TableRow) → ties row_lt x y ≡ is_eq (compared x y)
ties_are x y = by (compared x y) refl
  where
    back : compared y x ≡ ordering_reverse (compared x y)
    back = key_total.antisymm (table_key y) (table_key x)

    by : (r : Ordering) → compared x y ≡ r
        → (not (is_lt (compared x y)) && not (is_lt (compared y x))) ≡ is_eq (compared x y)
    by Less e = (λ j. not (is_lt (e j)) && not (is_lt (compared y x))) ∙ sym (ap is_eq e)
    by Equal e =
        (λ j. not (is_lt (e j)) && not (is_lt ((back ∙ ap ordering_reverse e) j))) ∙ sym (ap is_eq e)
    by Greater e =
        (λ j. not (is_lt (e j)) && not (is_lt ((back ∙ ap ordering_reverse e) j))) ∙ sym (ap is_eq e)

less_where : (x y : TableRow) → is_eq (compared x y) ≡ false → row_lt y x ≡ false → row_lt x y ≡ true
less_where x y apart le = by (compared x y) refl
  where
    back : compared y x ≡ ordering_reverse (compared x y)
    back = key_total.antisymm (table_key y) (table_key x)

    by : (r : Ordering) → compared x y ≡ r → is_lt (compared x y) ≡ true
    by Less e = ap is_lt e
    by Equal e = absurd (true≢false (sym (ap is_eq e) ∙ apart))
    by Greater e = absurd (true≢false (sym (ap is_lt (back ∙ ap ordering_reverse e)) ∙ le))

-- the rows of a path and a kind, in any table
pub with_key : (x : TableRow) (rows : List TableRow)
    → map row_of (filter (ties row_lt x) rows) ≡ rows_with x.path.now (kind_of x.column_type) (map row_of rows)
with_key x [] = refl
with_key x (r ∷ rs) =
    ap (λ (b : Bool). map row_of (cond b (r ∷ filter (ties row_lt x) rs) (filter (ties row_lt x) rs))) test
    ∙ by (is_of x.path.now (kind_of x.column_type) (row_of r)) (with_key x rs)
  where
    test : ties row_lt x r ≡ is_of x.path.now (kind_of x.column_type) (row_of r)
    test = ties_are x r ∙ keys_equal x r
        ∙ ap (λ (b : Bool). bytes_eq x.path.now r.path.now && b)
        (nat_eq-sym (kind_of x.column_type) (kind_of r.column_type))

    by : (b : Bool) → map row_of (filter (ties row_lt x) rs)
        ≡ rows_with x.path.now (kind_of x.column_type) (map row_of rs)
        → map row_of (cond b (r ∷ filter (ties row_lt x) rs) (filter (ties row_lt x) rs))
        ≡ cond b (row_of r ∷ rows_with x.path.now (kind_of x.column_type) (map row_of rs))
        (rows_with x.path.now (kind_of x.column_type) (map row_of rs))
    by true rest = ap (λ (l : List Row). row_of r ∷ l) rest
    by false rest = rest

-- ---- a group of a sorted table

module _ (old table : List TableRow) (sorted : IsSortedByKey table_key table_key_cmp table)
    (stable : IsStableByKey table_key table_key_cmp old table) (start stop : ℕ) (x : TableRow)
    (is : start < length table) (first : x ≡ get_or table start x) (group : IsGroup table start stop)
    (cut : (k : ℕ) (d : TableRow) → k < start → row_lt (get_or table k d) x ≡ true) where
  at_first : (d : TableRow) → get_or table start d ≡ x
  at_first d = get_or_default table start d x is ∙ sym first

  same : (k : ℕ) (d : TableRow) → start ≤ k → k < stop → ties row_lt x (get_or table k d) ≡ true
  same k d le lt =
      ties_are x (get_or table k d) ∙ keys_equal x (get_or table k d) ∙ has_key-sym x (get_or table k d)
      ∙ ap (has_key (get_or table k d)) (sym (at_first d)) ∙ group.same k d le lt

  other : (d : TableRow) → stop < length table → row_lt x (get_or table stop d) ≡ true
  other d more =
      less_where x (get_or table stop d)
      (keys_equal x (get_or table stop d) ∙ has_key-sym x (get_or table stop d)
      ∙ ap (has_key (get_or table stop d)) (sym (at_first d)) ∙ group.other d more)
      (ap (row_lt (get_or table stop d)) (sym (at_first d))
      ∙ sorted_far row_lt row_order table sorted start stop d (omega (arith, group.some)) more)

  -- they are all rows of their path and kind
  pub group_is_all : map row_of (slice_range table start stop)
      ≡ rows_with x.path.now (kind_of x.column_type) (map row_of old)
  group_is_all =
      ap (map row_of)
      (sym (group_ties row_lt row_order table sorted start stop x group.some group.within at_first same other cut)
      ∙ stable x)
      ∙ with_key x old

  pub cut_after : (k : ℕ) (d : TableRow) → k < stop → stop < length table
      → row_lt (get_or table k d) (get_or table stop d) ≡ true
  cut_after = next_cut row_lt row_order table sorted start stop x group.some group.within at_first same other cut

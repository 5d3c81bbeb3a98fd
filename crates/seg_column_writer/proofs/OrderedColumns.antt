-- The columns that are written, in order.
use Rattle.std.proofs.Common.{◌≡◌, ℕ, suc, ◌+◌, ◌-◌, ◌<◌, Bool, true, false, cond, List, [], ◌∷◌, ◌++◌, length, map, get_or, Option, Some, None, Ordering, Less, Equal, Greater, sym, refl, ap, subst, ◌∙◌, arith}
use Rattle.std.specs.Prelude.{◌||◌, ◌&&◌, nat_eq, not, is_some, IsUtf8}
use Rattle.std.specs.Cmp.Lexicographic.{nat_list_cmp_total, slice_cmp}
use Rattle.std.specs.FinMap.{from_entries}
use Rattle.std.specs.List.{AllByRecursion, IsDistinct, list_any}
use Rattle.std.specs.List.Sorted.{IsPermutation, IsSortedBy}
use Rattle.std.specs.Map.{keys_of}
use Rattle.std.specs.Ordering.{is_eq, is_lt, nat_cmp, ordering_reverse, ordering_then}
use Rattle.std.specs.Str.{bytes_eq}
use Rattle.std.proofs.lemmas.Bool.{false≢true, or_parts}
use Rattle.std.proofs.lemmas.Bool.Decides.{nat_tests}
use Rattle.std.proofs.lemmas.List.{map-append}
use Rattle.std.proofs.lemmas.List.Elements.{All-from_recursion, recursion_from_All}
use Rattle.std.proofs.lemmas.List.Sorted.{All-permutation, IsPermutation-map, IsPermutation-refl}
use Rattle.std.proofs.lemmas.Map.Keys.{IsDistinct-IsPermutation}
use Rattle.std.proofs.lemmas.Map.Text.{is_eq-slice_cmp}
use Rattle.seg_column_format.proofs.Exports.{Rows}
use Rattle.seg_common.specs.declared.column_type.ColumnType.{ColumnType}
use Rattle.seg_common.specs.declared.column_type.ColumnType.TheVariants as types
use Rattle.seg_column_file.specs.ColumnTable.{are_apart}
use Rattle.seg_columns.specs.declared.error.ColumnError.TheVariants.{Mixed, OutOfMemory}
use Rattle.seg_model.specs.Columns.{ColumnKey, column_cmp, type_place}
use Rattle.seg_column_format.specs.FileBytes.{AreInOrder, code_of, may_stand_after}
use Rattle.seg_column_writer.specs.ValueKinds.{kind_of, kind_place}
use Rattle.seg_column_writer.specs.NamedColumns.{AreNamed, IsSound, PathKind, column_in, name_eq, named, records_in}
use Rattle.seg_column_writer.specs.RecordedColumns.{IsRecorded, column_type_of, entries_in, entry_of, is_there, lacks_type, recorded_columns, rows_in, typed_entry}
use Rattle.seg_column_writer.specs.ColumnRecords.{ColumnRecord, Recording, RowedValue}
use Rattle.seg_column_writer.specs.TypedColumns.{AreReady, AreTyped, IsFileOf, IsRecordedFile, IsTyped, IsWithin, entry_at, in_table, key_at, path_in, refusal_of, typed_at, typed_from, written_type}
use Rattle.seg_column_writer.specs.declared.known_columns.KnownColumns.{KnownColumns}
use Rattle.seg_column_writer.specs.declared.typed_column.TypedColumn.{TypedColumn}
use Rattle.seg_column_writer.proofs.RecordedKeys.{AreApart, AreOfKind, IsGood, NoneNamed, place_is_code}
use Rattle.seg_column_writer.proofs.ValuesOfRows.{is_good, type_is}
use Rattle.seg_column_writer.proofs.MixedNumbers.{AreFree, undefined}
use Rattle.seg_column_writer.proofs.WholeFiles.{names_distinct, recorded_is, same_name, same_name-sym}
use Rattle.seg_column_writer.proofs.DocumentRows.{below_type}

-- ---- names

none_like : (n : PathKind) (r : Recording) → n.head ≡ kind_place r.kind → (names : List PathKind) (rs : List Recording)
    → AreNamed names rs → AllByRecursion (λ m. name_eq n m ≡ false) names
    → NoneNamed n.bytes r.kind (named names rs)
none_like n r is [] [] are none = tt
none_like n r is [] (s ∷ rs) are none = absurd are
none_like n r is (m ∷ names) [] are none = absurd are
none_like n r is (m ∷ names) (s ∷ rs) are none = (
  (λ j. nat_eq (sym is j) (sym are.0.kind j) && bytes_eq n.bytes m.bytes) ∙ none.0,
  none_like n r is names rs are.1 none.1,
)

-- distinct names are those of columns apart
pub named_apart : (names : List PathKind) (rs : List Recording) → AreNamed names rs → IsDistinct name_eq names
    → AreApart (named names rs)
unfolding IsDistinct
named_apart [] [] are distinct = tt
named_apart [] (r ∷ rs) are distinct = absurd are
named_apart (n ∷ names) [] are distinct = absurd are
named_apart (n ∷ names) (r ∷ rs) are distinct =
    (none_like n r are.0.kind names rs are.1 distinct.0, named_apart names rs are.1 distinct.1)

pub named_kinds : (names : List PathKind) (rs : List Recording) → AllByRecursion IsRecorded rs → AreOfKind (named names rs)
named_kinds [] rs each = tt
named_kinds (n ∷ names) [] each = tt
named_kinds (n ∷ names) (r ∷ rs) each = (each.0.kind, named_kinds names rs each.1)

within_each : (count : ℕ) (r : Recording) → IsWithin count r → AllByRecursion (λ (v : RowedValue). v.row < count) r.values
within_each count r within = recursion_from_All (λ (v : RowedValue). v.row < count) r.values within

pub named_free : (count : ℕ) (names : List PathKind) (rs : List Recording) → AllByRecursion IsRecorded rs
    → AllByRecursion (IsWithin count) rs → AreFree count (named names rs)
named_free count [] rs each within = tt
named_free count (n ∷ names) [] each within = tt
named_free count (n ∷ names) (r ∷ rs) each within =
    (type_is r count each.0.rise (within_each count r within.0), named_free count names rs each.1 within.1)

typed_is : (o : Option ColumnType) → not (is_some o) ≡ false → is_some o ≡ true
typed_is None none = absurd (false≢true (sym none))
typed_is (Some t) none = refl

pub named_good : (count : ℕ) (names : List PathKind) (rs : List Recording) → AllByRecursion IsRecorded rs
    → AllByRecursion (IsWithin count) rs → list_any lacks_type rs ≡ false → AllByRecursion (IsGood count) (named names rs)
named_good count [] rs each within typed = tt
named_good count (n ∷ names) [] each within typed = tt
named_good count (n ∷ names) (r ∷ rs) each within typed =
    let both = or_parts (lacks_type r) (list_any lacks_type rs) typed in (
      is_good count (record { path = n.bytes; recording = r }) each.0.kind each.0.rise (within_each count r within.0)
          (typed_is (column_type_of r) both.0),
      named_good count names rs each.1 within.1 both.1,
    )

any_lacks : (names : List PathKind) (rs : List Recording) → AreNamed names rs
    → list_any (λ c. lacks_type c.recording) (named names rs) ≡ list_any lacks_type rs
any_lacks [] [] are = refl
any_lacks [] (r ∷ rs) are = absurd are
any_lacks (n ∷ names) [] are = absurd are
any_lacks (n ∷ names) (r ∷ rs) are = ap (λ (b : Bool). lacks_type r || b) (any_lacks names rs are.1)

-- ---- columns by their places

-- names and columns are those at places from one on
abbrev Places : (ℕ → PathKind) → (ℕ → Recording) → ℕ → List PathKind → List Recording → Type 0
Places p q k [] [] = Unit {0}
Places p q k [] (r ∷ rs) = ⊥
Places p q k (n ∷ names) [] = ⊥
Places p q k (n ∷ names) (r ∷ rs) = (p k ≡ n) × (q k ≡ r) × Places p q (suc k) names rs

shifted : (p : ℕ → PathKind) (q : ℕ → Recording) (k : ℕ) (names : List PathKind) (rs : List Recording)
    → Places (λ i. p (suc i)) (λ i. q (suc i)) k names rs → Places p q (suc k) names rs
shifted p q k [] [] are = tt
shifted p q k [] (r ∷ rs) are = absurd are
shifted p q k (n ∷ names) [] are = absurd are
shifted p q k (n ∷ names) (r ∷ rs) are = (are.0, are.1, shifted p q (suc k) names rs are.2)

abbrev name_in : List PathKind → ℕ → PathKind
name_in names place = get_or names place (record { head = 0; bytes = [] })

all_places : (names : List PathKind) (rs : List Recording) → AreNamed names rs
    → Places (name_in names) (column_in rs) 0 names rs
all_places [] [] are = tt
all_places [] (r ∷ rs) are = absurd are
all_places (n ∷ names) [] are = absurd are
all_places (n ∷ names) (r ∷ rs) are =
    (refl, refl, shifted (name_in (n ∷ names)) (column_in (r ∷ rs)) 0 names rs (all_places names rs are.1))

module _ (count : ℕ) (p : ℕ → PathKind) (q : ℕ → Recording) where
  abbrev entry : TypedColumn → ColumnKey × Rows
  entry t = (record { path = (p t.place).bytes; type = t.column_type }, rows_in count (q t.place))

  one_entry : (k : ℕ) (n : PathKind) (r : Recording) → p k ≡ n → q k ≡ r
      → map entry (typed_at k (written_type r)) ≡ entry_of count (record { path = n.bytes; recording = r })
  one_entry k n r named is = by (is_there r) (column_type_of r)
    where
      by : (b : Bool) (o : Option ColumnType) → map entry (typed_at k (cond b o None))
          ≡ cond b (typed_entry count (record { path = n.bytes; recording = r }) o) []
      by false o = refl
      by true None = refl
      by true (Some t) = λ j. (record { path = (named j).bytes; type = t }, rows_in count (is j)) ∷ []

  entries_are : (k : ℕ) (names : List PathKind) (rs : List Recording) → Places p q k names rs
      → map entry (typed_from k rs) ≡ entries_in count (named names rs)
  entries_are k [] [] are = refl
  entries_are k [] (r ∷ rs) are = absurd are
  entries_are k (n ∷ names) [] are = absurd are
  entries_are k (n ∷ names) (r ∷ rs) are =
      map-append entry (typed_at k (written_type r)) (typed_from (suc k) rs)
      ∙ (λ j. one_entry k n r are.0 are.1 j ++ entries_are (suc k) names rs are.2 j)

pub entries_typed : (count : ℕ) (names : List PathKind) (rs : List Recording) → AreNamed names rs
    → map (entry_at count names rs) (typed_from 0 rs) ≡ entries_in count (named names rs)
entries_typed count names rs are =
    entries_are count (name_in names) (column_in rs) 0 names rs (all_places names rs are)

-- ---- each column

some_type : (b : Bool) (o : Option ColumnType) (t : ColumnType) → cond b o None ≡ Some t → o ≡ Some t
some_type true o t e = e
some_type false o t e = absurd cc

module _ (count : ℕ) (all : List PathKind) (columns : List Recording) where
  each_typed : (k : ℕ) (names : List PathKind) (rs : List Recording) → k + length rs ≡ length columns
      → Places (name_in all) (column_in columns) k names rs → AreNamed names rs → AllByRecursion (IsWithin count) rs
      → AllByRecursion (IsTyped count all columns) (typed_from k rs)
  each_typed k [] [] many places are within = tt
  each_typed k [] (r ∷ rs) many places are within = absurd are
  each_typed k (n ∷ names) [] many places are within = absurd are
  each_typed k (n ∷ names) (r ∷ rs) many places are within =
      by (written_type r) refl
      (each_typed (suc k) names rs (omega (arith, many)) places.2 are.1 within.1)
    where
      by : (o : Option ColumnType) → written_type r ≡ o
          → AllByRecursion (IsTyped count all columns) (typed_from (suc k) rs)
          → AllByRecursion (IsTyped count all columns) (typed_at k o ++ typed_from (suc k) rs)
      by None e rest = rest
      by (Some t) e rest = (
        record {
          place = omega (arith, many);
          type = ap column_type_of places.1 ∙ some_type (is_there r) (column_type_of r) t e;
          utf8 = subst (λ (m : PathKind). IsUtf8 m.bytes) (sym places.0) are.0.utf8;
          within = subst (IsWithin count) (sym places.1) within.0;
        },
        rest,
      )

-- ---- their order

apart_places : (m n : ℕ) → nat_eq (m - 1) (n - 1) ≡ false → is_lt (nat_cmp n m) ≡ false → are_apart m n ≡ true
apart_places m n other up = grind (arith, nat_tests)

apart_types : (t u : ColumnType) → nat_eq (kind_place (kind_of t)) (kind_place (kind_of u)) ≡ false
    → is_lt (nat_cmp (type_place u) (type_place t)) ≡ false → are_apart (code_of t) (code_of u) ≡ true
apart_types t u other up =
    (λ j. are_apart (sym (place_is_code t) j) (sym (place_is_code u) j))
    ∙ apart_places (type_place t) (type_place u)
    ((λ j. nat_eq (sym (below_type t) j) (sym (below_type u) j)) ∙ other) up

and_true : (a b : Bool) → b ≡ true → (a && b) ≡ false → a ≡ false
and_true true b e h = sym e ∙ h
and_true false b e h = refl

tail_sorted : {X : Type 0} (below : X → X → Bool) (x : X) (xs : List X) → IsSortedBy below (x ∷ xs)
    → IsSortedBy below xs
tail_sorted below x xs up k d le lt =
    let e : suc k + 1 ≡ suc (k + 1) = omega arith in
    subst (λ (n : ℕ). below (get_or (x ∷ xs) n d) (get_or xs k d) ≡ false) e
    (up (suc k) d (omega arith) (omega (arith, lt)))

module _ (names : List PathKind) where
  stands : (t u : TypedColumn) → is_lt (column_cmp (key_at names u) (key_at names t)) ≡ false
      → same_name (key_at names t) (key_at names u) ≡ false
      → may_stand_after (in_table names t) (in_table names u) ≡ true
  stands t u up other = by (slice_cmp nat_cmp (path_in names t.place) (path_in names u.place)) refl
    where
      back : slice_cmp nat_cmp (path_in names u.place) (path_in names t.place)
          ≡ ordering_reverse (slice_cmp nat_cmp (path_in names t.place) (path_in names u.place))
      back = nat_list_cmp_total.antisymm (path_in names u.place) (path_in names t.place)

      by : (r : Ordering) → slice_cmp nat_cmp (path_in names t.place) (path_in names u.place) ≡ r
          → (is_lt r || (is_eq r && are_apart (code_of t.column_type) (code_of u.column_type))) ≡ true
      by Less e = refl
      by Equal e = apart_types t.column_type u.column_type
          (and_true (nat_eq (kind_place (kind_of t.column_type)) (kind_place (kind_of u.column_type)))
          (bytes_eq (path_in names t.place) (path_in names u.place))
          (sym (is_eq-slice_cmp (path_in names t.place) (path_in names u.place)) ∙ ap is_eq e) other)
          (sym (ap (λ (o : Ordering). is_lt (ordering_then o (nat_cmp (type_place u.column_type) (type_place t.column_type)))) (back ∙ ap ordering_reverse e)) ∙ up)
      by Greater e = absurd (false≢true (sym up
          ∙ ap (λ (o : Ordering). is_lt (ordering_then o (nat_cmp (type_place u.column_type) (type_place t.column_type)))) (back ∙ ap ordering_reverse e)))

  in_order : (ts : List TypedColumn)
      → IsSortedBy (λ t u. is_lt (column_cmp (key_at names t) (key_at names u))) ts
      → IsDistinct same_name (map (key_at names) ts) → AreInOrder (map (in_table names) ts)
  unfolding IsDistinct
  in_order [] up distinct = tt
  in_order (t ∷ []) up distinct = tt
  in_order (t ∷ u ∷ ts) up distinct = (
    stands t u (up 0 t (omega arith) (omega arith)) distinct.0.0,
    in_order (u ∷ ts) (tail_sorted (λ t u. is_lt (column_cmp (key_at names t) (key_at names u))) t (u ∷ ts) up) distinct.1,
  )

-- ---- the whole

module _ (count : ℕ) (names : List PathKind) (columns : List Recording) (are : AreNamed names columns)
    (distinct : IsDistinct name_eq names) (each : AllByRecursion IsRecorded columns)
    (within : AllByRecursion (IsWithin count) columns) where
  abbrev records : List ColumnRecord
  records = named names columns

  apart : AreApart records
  apart = named_apart names columns are distinct

  pub mixed_is : list_any lacks_type columns ≡ true → recorded_columns count records ≡ None
  mixed_is any = undefined count records (named_kinds names columns each) apart
      (named_free count names columns each within) (any_lacks names columns are ∙ any)

  module _ (typed : list_any lacks_type columns ≡ false) (ts : List TypedColumn)
      (moved : IsPermutation (typed_from 0 columns) ts) where
    -- the columns are those that were recorded, in whatever order
    pub whole_is : recorded_columns count records ≡ Some (from_entries (map (entry_at count names columns) ts))
    whole_is = recorded_is count records (named_good count names columns each within typed) apart
        (map (entry_at count names columns) ts)
        (subst (λ (es : List (ColumnKey × Rows)). IsPermutation es (map (entry_at count names columns) ts))
        (entries_typed count names columns are)
        (IsPermutation-map (entry_at count names columns) (typed_from 0 columns) ts moved))

    keys_are : (us : List TypedColumn) → keys_of (map (entry_at count names columns) us) ≡ map (key_at names) us
    keys_are [] = refl
    keys_are (u ∷ us) = ap (λ (l : List ColumnKey). key_at names u ∷ l) (keys_are us)

    names_differ : IsDistinct same_name (map (key_at names) ts)
    names_differ = IsDistinct-IsPermutation same_name same_name-sym (map (key_at names) (typed_from 0 columns))
        (map (key_at names) ts) (IsPermutation-map (key_at names) (typed_from 0 columns) ts moved)
        (subst (IsDistinct same_name)
        (sym (ap keys_of (entries_typed count names columns are)) ∙ keys_are (typed_from 0 columns))
        (names_distinct count records (named_kinds names columns each) apart))

    -- sorted, they are in the order of a file
    pub are_typed : IsSortedBy (λ t u. is_lt (column_cmp (key_at names t) (key_at names u))) ts
        → AreTyped count names columns ts
    are_typed up = record {
      each = recursion_from_All (IsTyped count names columns) ts
          (All-permutation (IsTyped count names columns) (typed_from 0 columns) ts moved
          (All-from_recursion (IsTyped count names columns) (typed_from 0 columns)
          (each_typed count names columns 0 names columns (omega arith) (all_places names columns are) are within)));
      order = in_order names ts up names_differ;
    }

-- ---- what a writer has when it writes

-- columns that are ready are those that were recorded
pub ready_whole : (count : ℕ) (names : List PathKind) (columns : List Recording) → AreReady count names columns
    → recorded_columns count (named names columns) ≡ Some (from_entries (map (entry_at count names columns) (typed_from 0 columns)))
ready_whole count names columns ready =
    whole_is count names columns ready.are_named ready.distinct ready.recorded ready.within ready.typed
    (typed_from 0 columns) (IsPermutation-refl (typed_from 0 columns))

module _ (count : ℕ) (names : List PathKind) (columns : List Recording) (ready : AreReady count names columns)
    (given ts : List TypedColumn) (are : given ≡ typed_from 0 columns) (moved : IsPermutation given ts) where
  still : IsPermutation (typed_from 0 columns) ts
  still = subst (λ (us : List TypedColumn). IsPermutation us ts) are moved

  pub ready_typed : IsSortedBy (λ t u. is_lt (column_cmp (key_at names t) (key_at names u))) ts
      → AreTyped count names columns ts
  ready_typed up =
      are_typed count names columns ready.are_named ready.distinct ready.recorded ready.within ready.typed ts still up

  pub ready_written : (bytes : List ℕ) → IsFileOf count (map (entry_at count names columns) ts) bytes
      → IsRecordedFile count (named names columns) bytes
  ready_written bytes is = record {
    file = is.file;
    rows = is.rows;
    recorded =
        whole_is count names columns ready.are_named ready.distinct ready.recorded ready.within ready.typed ts still
        ∙ ap (λ (es : List (ColumnKey × Rows)). Some (from_entries es)) (sym is.columns);
  }

module _ (count : ℕ) (known : KnownColumns) (names : List PathKind) (columns : List Recording)
    (names_are : names ≡ known.names.keys) (columns_are : columns ≡ known.columns.items) (sound : IsSound known)
    (distinct : IsDistinct name_eq known.names.keys) (each : AllByRecursion IsRecorded columns)
    (within : AllByRecursion (IsWithin count) known.columns.items) where
  abbrev here : AreNamed names columns
  here = subst (λ (X : Type 0). X) (sym (λ j. AreNamed (names_are j) (columns_are j))) sound

  abbrev apart_here : IsDistinct name_eq names
  apart_here = subst (IsDistinct name_eq) (sym names_are) distinct

  abbrev within_here : AllByRecursion (IsWithin count) columns
  within_here = subst (AllByRecursion (IsWithin count)) (sym columns_are) within

  pub known_mixed : list_any lacks_type columns ≡ true → Mixed ≡ refusal_of (recorded_columns count (records_in known))
  known_mixed any =
      sym (ap refusal_of ((λ j. recorded_columns count (named (sym names_are j) (sym columns_are j)))
      ∙ mixed_is count names columns here apart_here each within_here any))

  module _ (typed : list_any lacks_type columns ≡ false) where
    pub known_ready : AreReady count names columns
    known_ready = record {
      are_named = here;
      distinct = apart_here;
      recorded = each;
      within = within_here;
      typed = typed;
    }

    pub known_refused : OutOfMemory ≡ refusal_of (recorded_columns count (records_in known))
    known_refused =
        sym (ap refusal_of ((λ j. recorded_columns count (named (sym names_are j) (sym columns_are j)))
        ∙ ready_whole count names columns known_ready))

pub known_written : (count : ℕ) (known : KnownColumns) (names : List PathKind) (columns : List Recording) (bytes : List ℕ)
    → names ≡ known.names.keys → columns ≡ known.columns.items → IsRecordedFile count (named names columns) bytes
    → IsRecordedFile count (records_in known) bytes
known_written count known names columns bytes names_are columns_are is =
    subst (λ (X : Type 0). X) (λ j. IsRecordedFile count (named (names_are j) (columns_are j)) bytes) is

-- the values of all columns are of this many rows
pub within_known : (count : ℕ) (names : List PathKind) (rs : List Recording) → AreNamed names rs
    → AllByRecursion (λ c. IsWithin count c.recording) (named names rs) → AllByRecursion (IsWithin count) rs
within_known count [] [] are within = tt
within_known count [] (r ∷ rs) are within = absurd are
within_known count (n ∷ names) [] are within = absurd are
within_known count (n ∷ names) (r ∷ rs) are within = (within.0, within_known count names rs are.1 within.1)

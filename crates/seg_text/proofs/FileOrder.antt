-- The columns of a file are the entries of its columns, in the same order.
use Rattle.std.proofs.Common.{◌≡◌, ℕ, ◌<◌, ◌≤◌, ◌++◌, T, List, [], ◌∷◌, map, true, refl, sym, ap, subst, ◌∙◌, arith}
use Rattle.std.specs.Cmp.{nat_cmp_is}
use Rattle.std.specs.Cmp.Lexicographic.{slice_cmp}
use Rattle.std.specs.FinMap.{entries, entries-from_sorted, from_entries, from_sorted, get-from_entries, get-from_sorted, is_sorted, same_map}
use Rattle.std.specs.FinMap.Entries.{below_all}
use Rattle.std.specs.List.{AllByRecursion, flat_map}
use Rattle.std.specs.List.Sorted.{IsStrictlySortedBy}
use Rattle.std.specs.Ordering.{is_lt, nat_cmp, ordering_then}
use Rattle.std.specs.declared.cmp.Ordering.{Ordering}
use Rattle.std.specs.declared.cmp.Ordering.TheVariants.{Less, Equal, Greater}
use Rattle.std.proofs.lemmas.Bool.{and_from}
use Rattle.std.proofs.lemmas.Cmp.{ranked}
use Rattle.seg_common.specs.declared.column_type.ColumnType.{ColumnType}
use Rattle.seg_common.specs.declared.column_type.ColumnType.TheVariants as types
use Rattle.seg_columns.specs.DynamicColumns.{type_of}
use Rattle.seg_column_file.specs.ColumnFiles.{ColumnFile, IsOfFile, NamedColumn}
use Rattle.seg_column_format.specs.ModelColumns.{column_key, column_rows, columns_in}
use Rattle.seg_model.specs.Columns.{ColumnKey, ColumnValue, column_cmp, type_place}
use Rattle.seg_model.proofs.Exports.{column_cmp_total, columns_apart}
use Rattle.seg_column_format.proofs.Exports.{keys_ascend, kind_cmp, kind_place}
use Rattle.seg_text.specs.ColumnText.{column_line, columns_text}

-- ---- keys that ascend by kind ascend by type

-- a type is at most at the place of its kind, and at it where some kind is before its own
low : (a : ColumnType) → type_place a ≤ kind_place a
low types.I64 = omega arith
low types.U64 = omega arith
low types.Bytes = omega arith
low types.Str = omega arith
low types.Bool = omega arith
low types.IpAddr = omega arith
low types.DateTime = omega arith

some : (a : ColumnType) → 1 ≤ kind_place a
some types.I64 = omega arith
some types.U64 = omega arith
some types.Bytes = omega arith
some types.Str = omega arith
some types.Bool = omega arith
some types.IpAddr = omega arith
some types.DateTime = omega arith

above : (a b : ColumnType) → kind_place a < kind_place b → kind_place b ≡ type_place b
above a types.I64 lt = absurd (omega (arith, lt, some a))
above a types.U64 lt = refl
above a types.Bytes lt = refl
above a types.Str lt = refl
above a types.Bool lt = refl
above a types.IpAddr lt = refl
above a types.DateTime lt = refl

types_rise : (a b : ColumnType) → nat_cmp (kind_place a) (kind_place b) ≡ Less
    → nat_cmp (type_place a) (type_place b) ≡ Less
types_rise a b less =
    let lt : kind_place a < kind_place b = ranked (kind_place a) (kind_place b) Less (sym less) in
    sym (nat_cmp_is (type_place a) (type_place b) Less (omega (arith, lt, low a, above a b lt)))

keys_rise : (a b : ColumnKey) → kind_cmp a b ≡ Less → column_cmp a b ≡ Less
keys_rise a b = by (slice_cmp nat_cmp a.path b.path)
  where
    by : (o : Ordering) → ordering_then o (nat_cmp (kind_place a.type) (kind_place b.type)) ≡ Less
        → ordering_then o (nat_cmp (type_place a.type) (type_place b.type)) ≡ Less
    by Less less = refl
    by Equal less = types_rise a.type b.type less
    by Greater less = less

-- ---- the entries of columns

abbrev entry : NamedColumn → ColumnKey × List (List ColumnValue)
entry c = (column_key c, column_rows c.stored.column)

all_below : (k : ColumnKey) (cs : List NamedColumn)
    → AllByRecursion (λ q. kind_cmp k q ≡ Less) (map column_key cs)
    → below_all column_cmp k (map entry cs) ≡ true
all_below k [] all = refl
all_below k (c ∷ cs) all =
    and_from (is_lt (column_cmp k (column_key c))) (below_all column_cmp k (map entry cs))
    (ap is_lt (keys_rise k (column_key c) all.0)) (all_below k cs all.1)

sorted : (cs : List NamedColumn) → IsStrictlySortedBy kind_cmp (map column_key cs)
    → is_sorted column_cmp (map entry cs) ≡ true
unfolding IsStrictlySortedBy
sorted [] up = refl
sorted (c ∷ cs) up =
    and_from (below_all column_cmp (column_key c) (map entry cs)) (is_sorted column_cmp (map entry cs))
    (all_below (column_key c) cs up.0) (sorted cs up.1)

entries_are : (cs : List NamedColumn) → IsStrictlySortedBy kind_cmp (map column_key cs)
    → entries (from_entries {R = column_cmp} (map entry cs)) ≡ map entry cs
entries_are cs up =
    let es : List (ColumnKey × List (List ColumnValue)) = map entry cs in
    let in_order = subst T (sym (sorted cs up)) tt in
    ap entries (same_map column_cmp_total columns_apart (from_entries es) (from_sorted es)
    (λ q. get-from_entries column_cmp_total es q ∙ sym (get-from_sorted column_cmp es q in_order)))
    ∙ entries-from_sorted column_cmp es in_order

-- ---- their lines

abbrev pub line : NamedColumn → List ℕ
line c = column_line c.path (type_of c.stored.column) (column_rows c.stored.column)

lines_are : (cs : List NamedColumn)
    → flat_map (λ c. column_line c.0.path c.0.type c.1) (map entry cs) ≡ flat_map line cs
lines_are [] = refl
lines_are (c ∷ cs) = ap (λ (l : List ℕ). line c ++ l) (lines_are cs)

pub file_lines : (file : ColumnFile) → IsOfFile file → columns_text (columns_in file) ≡ flat_map line file.columns
file_lines file of =
    let up : IsStrictlySortedBy kind_cmp (map column_key file.columns)
    = subst (λ (f : ColumnFile). IsStrictlySortedBy kind_cmp (map column_key f.columns)) (sym of.read)
    (keys_ascend of.bytes of.is_file) in
    ap (flat_map (λ (c : ColumnKey × List (List ColumnValue)). column_line c.0.path c.0.type c.1))
    (entries_are file.columns up)
    ∙ lines_are file.columns

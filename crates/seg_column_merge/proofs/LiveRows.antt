-- The values of all live rows at a key.
use Rattle.std.proofs.Common.{◌≡◌, ℕ, zero, suc, ◌+◌, ◌<◌, Bool, true, false, cond, ◌||◌, List, [], ◌∷◌, ◌++◌, length, map, get_or, Option, Some, None, refl, sym, ap, subst, ◌∙◌, arith}
use Rattle.std.specs.Prelude.{replicate, unwrap_or, if◌then◌else◌}
use Rattle.std.specs.FinMap.{from_entries, get, get-from_entries}
use Rattle.std.specs.FinMap.Entries.{find}
use Rattle.std.specs.List.{AllByRecursion, range_with_len}
use Rattle.std.specs.List.Sorted.{IsStrictlySortedBy}
use Rattle.std.specs.Ordering.{eq_by_cmp}
use Rattle.std.proofs.lemmas.Bool.{false≢true}
use Rattle.std.proofs.lemmas.List.{length-replicate, map-append}
use Rattle.seg_common.specs.Marks.{kept}
use Rattle.seg_common.specs.declared.column_type.ColumnType.{ColumnType}
use Rattle.seg_common.specs.declared.column_type.ColumnType.TheVariants as types
use Rattle.seg_common.proofs.Numbers.{zero_plus}
use Rattle.seg_column_file.specs.ColumnFiles.{ColumnFile, IsColumnFile, IsOfFile, NamedColumn, column_file_of, columns_from, row_count}
use Rattle.seg_column_file.specs.RowOrders.{Place}
use Rattle.seg_column_merge.specs.MergedColumns.{columns_of_file, rows_at, values_in_row}
use Rattle.seg_column_format.specs.ModelColumns.{column_key, columns_in}
use Rattle.seg_model.proofs.Exports.{column_cmp_total, kept-map}
use Rattle.seg_model.specs.Columns.{ColumnKey, ColumnValue, Columns, column_cmp, is_number}
use Rattle.seg_model.specs.Fields.{Schema}
use Rattle.seg_model.specs.Join.{Part, live_of, part_column, part_rows, side_by_side}
use Rattle.seg_column_format.proofs.Exports.{HasShape, Rows, entry, have_shape, keys_ascend, kind_cmp, rows_at as rows_of_column, signed_key, unsigned_key}
use Rattle.seg_column_merge.specs.LiveColumns.{HasColumnsOf, HaveColumnsOf, live_rows}
use Rattle.seg_column_merge.proofs.RowValues.{found_at, number_values, numbers_at, plain_values, unsigned_values}

-- ---- one file

module _ (schema : Schema) (file : ColumnFile) (p : Part) (has : HasColumnsOf schema file p) where
  abbrev columns : List NamedColumn
  columns = file.columns

  ascend : IsStrictlySortedBy kind_cmp (map column_key columns)
  ascend = subst (λ (f : ColumnFile). IsStrictlySortedBy kind_cmp (map column_key f.columns)) (sym has.of_file.read)
      (keys_ascend has.of_file.bytes has.of_file.is_file)

  shaped : AllByRecursion (HasShape file.rows) columns
  shaped = subst (λ (f : ColumnFile). AllByRecursion (HasShape f.rows) f.columns) (sym has.of_file.read)
      (have_shape has.of_file.bytes has.of_file.is_file)

  rows_only : (count : ℕ) (cs : List NamedColumn) → AllByRecursion (HasShape count) cs
      → AllByRecursion (λ c. length (rows_of_column c) ≡ count) cs
  rows_only count [] all = tt
  rows_only count (c ∷ cs) all = (all.0.rows, rows_only count cs all.1)

  part_column_is : (q : ColumnKey) → part_column q p ≡ found_at file.rows columns q
  part_column_is q =
      (λ j. unwrap_or (get (has.columns j) q) (replicate (has.documents j) []))
      ∙ ap (λ (o : Option Rows). unwrap_or o (replicate file.rows [])) (get-from_entries column_cmp_total (map entry columns) q)

  -- the values of a row are those of the part's row
  pub row_is : (q : ColumnKey) (row : ℕ) → values_in_row q columns row ≡ get_or (part_rows q p) row []
  row_is q row = by (is_number q.type) refl
    where
      numbers : values_in_row (signed_key q.path) columns row
          ≡ get_or (side_by_side (part_column (signed_key q.path) p) (part_column (unsigned_key q.path) p)) row []
      numbers = number_values file.rows q.path columns ascend (rows_only file.rows columns shaped) row
          ∙ (λ j. get_or (side_by_side (sym (part_column_is (signed_key q.path)) j) (sym (part_column_is (unsigned_key q.path)) j)) row [])

      of_type : (t : ColumnType) → is_number t ≡ true → values_in_row (record { path = q.path; type = t }) columns row
          ≡ values_in_row (signed_key q.path) columns row
      of_type types.I64 h = refl
      of_type types.U64 h = unsigned_values file.rows q.path columns row
      of_type types.Bytes h = absurd (false≢true h)
      of_type types.Str h = absurd (false≢true h)
      of_type types.Bool h = absurd (false≢true h)
      of_type types.IpAddr h = absurd (false≢true h)
      of_type types.DateTime h = absurd (false≢true h)

      by : (b : Bool) → is_number q.type ≡ b → values_in_row q columns row
          ≡ get_or (if b then side_by_side (part_column (signed_key q.path) p) (part_column (unsigned_key q.path) p) else part_column q p) row []
      by true on = of_type q.type on ∙ numbers
      by false off = plain_values file.rows q off columns ascend row ∙ ap (λ (l : Rows). get_or l row []) (sym (part_column_is q))

  -- as many rows as documents
  long_column : (q : ColumnKey) (cs : List NamedColumn) → AllByRecursion (HasShape file.rows) cs → length (found_at file.rows cs q) ≡ file.rows
  long_column q [] all = length-replicate file.rows []
  long_column q (c ∷ cs) all = by (eq_by_cmp column_cmp q (column_key c)) (long_column q cs all.1)
    where
      by : (b : Bool) → length (found_at file.rows cs q) ≡ file.rows
          → length (unwrap_or (cond b (Some (rows_of_column c)) (find column_cmp q (map entry cs))) (replicate file.rows [])) ≡ file.rows
      by true rest = all.0.rows
      by false rest = rest

  beside_long : (xs ys : Rows) (n : ℕ) → length xs ≡ n → length ys ≡ n → length (side_by_side xs ys) ≡ n
  beside_long [] ys n long also = also
  beside_long (x ∷ xs) [] n long also = long
  beside_long (x ∷ xs) (y ∷ ys) zero long also = absurd (omega (arith, long))
  beside_long (x ∷ xs) (y ∷ ys) (suc n) long also =
      let rest = beside_long xs ys n (omega (arith, long)) (omega (arith, also)) in omega (arith, rest)

  pub rows_long : (q : ColumnKey) → length (part_rows q p) ≡ file.rows
  rows_long q = by (is_number q.type)
    where
      own : (k : ColumnKey) → length (part_column k p) ≡ file.rows
      own k = ap length (part_column_is k) ∙ long_column k columns shaped

      by : (b : Bool) → length (if b then side_by_side (part_column (signed_key q.path) p) (part_column (unsigned_key q.path) p) else part_column q p) ≡ file.rows
      by true = beside_long (part_column (signed_key q.path) p) (part_column (unsigned_key q.path) p) file.rows (own (signed_key q.path)) (own (unsigned_key q.path))
      by false = own q

-- ---- what is kept of a list, by places

none_more : (n : ℕ) → n ≡ n + 0
none_more n = omega arith

one_more : (n i : ℕ) → n + 1 + i ≡ n + suc i
one_more n i = omega arith

all_places : {X : Type 0} (d : X) (xs : List X) (start : ℕ) (all : List X) → ((i : ℕ) → get_or all (start + i) d ≡ get_or xs i d)
    → map (λ i. get_or all i d) (range_with_len start (length xs)) ≡ xs
all_places d [] start all at = refl
all_places d (x ∷ xs) start all at =
    λ j. (ap (λ i. get_or all i d) (none_more start) ∙ at 0) j
    ∷ all_places d xs (start + 1) all (λ i. ap (λ k. get_or all k d) (one_more start i) ∙ at (suc i)) j

kept_rows : (alive : List Bool) (rows : Rows) → length alive ≡ length rows
    → map (λ row. get_or rows row []) (kept alive (range_with_len 0 (length alive))) ≡ kept alive rows
kept_rows alive rows long =
    sym (kept-map (λ row. get_or rows row []) alive (range_with_len 0 (length alive)))
    ∙ (ap (λ n. kept alive (map (λ row. get_or rows row []) (range_with_len 0 n))) long
    ∙ ap (kept alive) (all_places [] rows 0 rows (λ i. ap (λ k. get_or rows k []) (zero_plus i))))

-- ---- all files

map_same : {X Y : Type 0} (f g : X → Y) → ((x : X) → f x ≡ g x) → (xs : List X) → map f xs ≡ map g xs
map_same f g same xs = λ j. map (λ x. same x j) xs

map_map : {X Y Z : Type 0} (f : Y → Z) (g : X → Y) (xs : List X) → map f (map g xs) ≡ map (λ x. f (g x)) xs
map_map f g [] = refl
map_map f g (x ∷ xs) = ap (λ l. f (g x) ∷ l) (map_map f g xs)

module _ (schema : Schema) (all : List ColumnFile) (q : ColumnKey) where
  abbrev at_place : Place → List ColumnValue
  at_place p = values_in_row q (columns_of_file all p.0) p.1

  pub live_values : (offset : ℕ) (files : List ColumnFile) (parts : List Part) → HaveColumnsOf schema files parts
      → ((i : ℕ) → columns_of_file all (offset + i) ≡ columns_of_file files i)
      → map at_place (live_rows offset parts) ≡ live_of (part_rows q) parts
  live_values offset [] [] have same = refl
  live_values offset [] (p ∷ parts) have same = absurd have
  live_values offset (f ∷ files) [] have same = absurd have
  live_values offset (f ∷ files) (p ∷ parts) have same =
      map-append at_place (map (λ row. (offset, row)) (kept p.alive (range_with_len 0 (length p.alive)))) (live_rows (offset + 1) parts)
      ∙ (λ j. first j ++ live_values (offset + 1) files parts have.1 (λ i. ap (columns_of_file all) (one_more offset i) ∙ same (suc i)) j)
    where
      own : columns_of_file all offset ≡ f.columns
      own = ap (columns_of_file all) (none_more offset) ∙ same 0

      first : map at_place (map (λ row. (offset, row)) (kept p.alive (range_with_len 0 (length p.alive)))) ≡ kept p.alive (part_rows q p)
      first =
          map_map at_place (λ row. (offset, row)) (kept p.alive (range_with_len 0 (length p.alive)))
          ∙ (map_same _ (λ row. get_or (part_rows q p) row []) (λ row. ap (λ (cs : List NamedColumn). values_in_row q cs row) own ∙ row_is schema f p have.0 q row)
          (kept p.alive (range_with_len 0 (length p.alive)))
          ∙ kept_rows p.alive (part_rows q p) (have.0.marked ∙ sym (rows_long schema f p have.0 q)))

  pub live_rows_are : (files : List ColumnFile) (parts : List Part) → HaveColumnsOf schema files parts → all ≡ files
      → rows_at all (live_rows 0 parts) q ≡ live_of (part_rows q) parts
  live_rows_are files parts have is = live_values 0 files parts have (λ i. ap (λ (l : List ColumnFile). columns_of_file l (0 + i)) is ∙ ap (columns_of_file files) (zero_plus i))

-- The type of a merged column, by the range of its numbers and by its values.
use Rattle.std.proofs.Common.{◌≡◌, ℕ, zero, suc, ◌<◌, Bool, true, false, List, [], ◌∷◌, length, map, drop, get_or, Option, Some, None, refl, sym, ap, ◌∙◌, arith}
use Rattle.std.specs.Prelude.{is_some, if◌then◌else◌, not}
use Rattle.std.specs.List.{AllByRecursion, list_any}
use Rattle.std.proofs.lemmas.Bool.{false≢true}
use Rattle.std.proofs.lemmas.List.Elements.{recursion_from_All}
use Rattle.seg_common.proofs.Lists.{list_any-map}
use Rattle.seg_common.specs.declared.column_type.ColumnType.{ColumnType}
use Rattle.seg_common.specs.declared.column_type.ColumnType.TheVariants.{I64, U64}
use Rattle.seg_model.specs.Columns.{ColumnValue, fits_i64, free_number_type, is_filled, is_not_negative, is_number}
use Rattle.seg_column_merge.specs.Cells.{cells, is_absent}
use Rattle.seg_column_merge.specs.Decisions.{AreDecidable, as_there, free_type, has_value, merged_type, range_of, range_type}
use Rattle.seg_column_merge.specs.Groups.{AreOfFiles, FileFits}
use Rattle.seg_column_merge_parts.specs.KeptColumns.{there}
use Rattle.seg_column_file.specs.KeptRows.{AreMarks}
use Rattle.seg_column_merge.specs.MergedBytes.{HasNumbers, HasType, RowFits}
use Rattle.seg_column_merge_parts.specs.NumberRanges.{no_numbers, type_of_range}
use Rattle.seg_column_file.specs.RowOrders.{Place}
use Rattle.seg_column_merge_parts.specs.Tables.{column_in, kind_of, row_of}
use Rattle.seg_column_merge_parts.specs.declared.number_range.NumberRange.{NumberRange}
use Rattle.seg_column_merge_parts.specs.declared.tables.FileColumn.{FileColumn}
use Rattle.seg_column_merge_parts.specs.declared.tables.TableRow.{TableRow}
use Rattle.seg_column_merge.proofs.KeptCells.{Counted, HasOthers, any_of, filled_are, large_is, negative_is, some_is, value_is}
use Rattle.seg_column_merge_parts.proofs.Exports.{type_of_rows}
use Rattle.seg_column_merge.proofs.TermColumnBytes.{cells_are}
use Rattle.seg_column_merge.proofs.SourceRows.{column_cells}

counted_one : (counts : List ℕ) (places : List Place) (kept : List (List Bool)) (marks : AreMarks counts places kept)
    (first next : ℕ) (o : Option FileColumn) → FileFits counts first o next → Counted counts places kept marks o
counted_one counts places kept marks first next None fits = tt
counted_one counts places kept marks first next (Some c) fits = fits.2

pub same_kind_number : (t u : ColumnType) → kind_of t ≡ kind_of u → is_number t ≡ is_number u
same_kind_number t u e = number_kind t ∙ ap is_zero e ∙ sym (number_kind u)
  where
    is_zero : ℕ → Bool
    is_zero zero = true
    is_zero (suc n) = false

    number_kind : (v : ColumnType) → is_number v ≡ is_zero (kind_of v)
    number_kind I64 = refl
    number_kind U64 = refl
    number_kind _ = refl

pub all_numbers : (t : ColumnType) → is_number t ≡ true → (rows : List TableRow)
    → AllByRecursion (λ r. HasType r.column_type r.column) rows
    → AllByRecursion (λ r. kind_of r.column_type ≡ kind_of t) rows → AllByRecursion (λ r. HasNumbers r.column) rows
all_numbers t n [] typed kinds = tt
all_numbers t n (r ∷ rs) typed kinds = (one r.column typed.0, all_numbers t n rs typed.1 kinds.1)
  where
    one : (o : Option FileColumn) → HasType r.column_type o → HasNumbers o
    one None is = tt
    one (Some c) is = ap is_number is ∙ same_kind_number r.column_type t kinds.0 ∙ n

module _ (counts : List ℕ) (places : List Place) (kept : List (List Bool)) (marks : AreMarks counts places kept) where
  counted : (first : ℕ) (rows : List TableRow) → AreOfFiles counts first rows
      → AllByRecursion (λ r. Counted counts places kept marks r.column) rows
  counted first [] are = tt
  counted first (r ∷ rs) are = (counted_one counts places kept marks first are.0 r.column are.1, counted are.0 rs are.2)

  others : (t : ColumnType) → is_number t ≡ false → (rows : List TableRow)
      → AllByRecursion (λ r. HasType r.column_type r.column) rows
      → AllByRecursion (λ r. kind_of r.column_type ≡ kind_of t) rows
      → AllByRecursion (λ r. HasOthers counts places kept marks r.column) rows
  others t n [] typed kinds = tt
  others t n (r ∷ rs) typed kinds = (one r.column typed.0, others t n rs typed.1 kinds.1)
    where
      one : (o : Option FileColumn) → HasType r.column_type o → HasOthers counts places kept marks o
      one None is = tt
      one (Some c) is = ap is_number is ∙ same_kind_number r.column_type t kinds.0 ∙ n

  module _ (rows : List TableRow) (files : AreOfFiles counts 0 rows)
      (typed : AllByRecursion (λ r. HasType r.column_type r.column) rows)
      (fits : AllByRecursion (λ r. RowFits kept r.column) rows) (t : ColumnType)
      (kinds : AllByRecursion (λ r. kind_of r.column_type ≡ kind_of t) rows) where
    abbrev values : List (List ColumnValue)
    values = cells (map row_of rows) places

    abbrev columns : List (Option FileColumn)
    columns = map (λ (r : TableRow). r.column) rows

    filled_is : list_any is_filled values ≡ any_of there places columns
    filled_is = ap (list_any is_filled) (sym (cells_are rows places)) ∙ filled_are places columns

    any_test : (test : ColumnValue → Bool) → any_of test places columns ≡ list_any (list_any test) values
    any_test test =
        sym (list_any-map (list_any test) (column_cells columns) places)
        ∙ ap (list_any (list_any test)) (cells_are rows places)

    -- of numbers
    pub range_tells : is_number t ≡ true → range_type (range_of kept no_numbers rows) ≡ free_type t values
    range_tells n =
        let range = range_of kept no_numbers rows in
        let a = counted 0 rows files in
        let b = all_numbers t n rows typed kinds in
        let some : range.some ≡ list_any is_filled values =
        some_is counts places kept marks rows a b fits ∙ sym filled_is in
        let type : type_of_range range ≡ free_number_type values =
        type_of_rows range values
        (large_is counts places kept marks rows a b fits ∙ any_test (λ v. not (fits_i64 v)))
        (negative_is counts places kept marks rows a b fits ∙ any_test (λ v. not (is_not_negative v))) in
        (λ j. if some j then as_there (type j) else Some None)
        ∙ sym (ap (λ (x : Bool). if list_any is_filled values then (if x then as_there (free_number_type values)
        else Some (Some t)) else Some None) n)

    -- of other values
    pub value_tells : is_number t ≡ false
        → list_any (λ r. has_value kept r.column) rows ≡ list_any is_filled values
    value_tells n = value_is counts places kept marks rows (counted 0 rows files) (others t n rows typed kinds)
        ∙ sym filled_is

-- ---- the first row

pub first_row : (rows : List TableRow) (r : TableRow) → 0 < length rows → r ≡ get_or rows 0 r → rows ≡ r ∷ drop 1 rows
first_row [] r some is = absurd (omega (arith, some))
first_row (x ∷ xs) r some is = ap (λ (y : TableRow). y ∷ xs) (sym is)

by_first : (rows : List TableRow) (r : TableRow) (rest : List TableRow) (values : List (List ColumnValue))
    → rows ≡ r ∷ rest
    → is_absent (column_in r.column) ≡ false → merged_type (map row_of rows) values ≡ free_type r.column_type values
by_first rows r rest values is present =
    ap (λ (rs : List TableRow). merged_type (map row_of rs) values) is
    ∙ ap (λ (b : Bool). if b then Some (Some r.column_type) else free_type r.column_type values) present

pub all_kinds : (kind : ℕ) (t : ColumnType) → kind_of t ≡ kind → (rows : List TableRow)
    → AllByRecursion (λ r. kind_of r.column_type ≡ kind) rows
    → AllByRecursion (λ r. kind_of r.column_type ≡ kind_of t) rows
all_kinds kind t is [] all = tt
all_kinds kind t is (r ∷ rs) all = (all.0 ∙ sym is, all_kinds kind t is rs all.1)

pub present_is : (o : Option FileColumn) → is_some o ≡ true → is_absent (column_in o) ≡ false
present_is None is = absurd (false≢true is)
present_is (Some c) is = refl

module _ (counts : List ℕ) (places : List Place) (kept : List (List Bool)) (marks : AreMarks counts places kept)
    (rows : List TableRow) (are : AreDecidable counts kept rows) (r : TableRow) (some : 0 < length rows)
    (is : r ≡ get_or rows 0 r) (present : is_absent (column_in r.column) ≡ false) where
  abbrev all_values : List (List ColumnValue)
  all_values = cells (map row_of rows) places

  kinds : AllByRecursion (λ s. kind_of s.column_type ≡ kind_of r.column_type) rows
  kinds =
      let first : kind_of (get_or rows 0 r).column_type ≡ are.kinds.0 = are.kinds.1 0 r some in
      all_kinds are.kinds.0 r.column_type (ap (λ (s : TableRow). kind_of s.column_type) is ∙ first) rows
      (recursion_from_All (λ (s : TableRow). kind_of s.column_type ≡ are.kinds.0) rows are.kinds.1)

  decided : merged_type (map row_of rows) all_values ≡ free_type r.column_type all_values
  decided = by_first rows r (drop 1 rows) all_values (first_row rows r some is) present

  pub number_decides : is_number r.column_type ≡ true → (range : NumberRange) → range ≡ range_of kept no_numbers rows
      → range_type range ≡ merged_type (map row_of rows) all_values
  number_decides number range told =
      ap range_type told
      ∙ range_tells counts places kept marks rows are.files
      (recursion_from_All (λ (s : TableRow). HasType s.column_type s.column) rows are.types)
      (recursion_from_All (λ (s : TableRow). RowFits kept s.column) rows are.fits) r.column_type kinds number
      ∙ sym decided

  pub value_decides : is_number r.column_type ≡ false → (any : Bool)
      → any ≡ list_any (λ s. has_value kept s.column) rows
      → merged_type (map row_of rows) all_values ≡ (if any then Some (Some r.column_type) else Some None)
  value_decides other any told =
      decided
      ∙ (λ j. if (sym (told ∙ value_tells counts places kept marks rows are.files
      (recursion_from_All (λ (s : TableRow). HasType s.column_type s.column) rows are.types)
      (recursion_from_All (λ (s : TableRow). RowFits kept s.column) rows are.fits) r.column_type kinds other)) j
      then (if other j then as_there (free_number_type all_values) else Some (Some r.column_type)) else Some None)

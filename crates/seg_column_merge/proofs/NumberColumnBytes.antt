-- The bytes of a merged column of numbers, moments or truth values.
use Rattle.std.proofs.Common.{◌≡◌, ℕ, zero, suc, ◌<◌, ◌^◌, true, List, [], ◌∷◌, ◌++◌, length, map, get_or, Option, Some, None, inl, inr, refl, sym, ap, subst, ◌∙◌, arith}
use Rattle.std.specs.Prelude.{pos, replicate}
use Rattle.std.specs.List.{AllByRecursion}
use Rattle.std.proofs.lemmas.List.{length-map, length-replicate}
use Rattle.std.proofs.lemmas.List.Elements.{All-from_recursion}
use Rattle.std.proofs.lemmas.Option.{none-some}
use Rattle.seg_common.specs.MappableValues.{is_bit, is_one, lowered}
use Rattle.seg_common.specs.declared.column_type.ColumnType.{ColumnType}
use Rattle.seg_common.specs.declared.column_type.ColumnType.TheVariants.{I64, U64, Bool as Boolean, DateTime}
use Rattle.seg_common.proofs.Lists.{map_map-map_map}
use Rattle.seg_model.specs.Columns.{boolean_value, date_value, number}
use Rattle.seg_columns.specs.DynamicColumns.{type_of}
use Rattle.seg_column_format.specs.ColumnBytes.{column_bytes, total}
use Rattle.seg_column_merge.specs.Cells.{cells}
use Rattle.seg_column_merge_parts.specs.ColumnSources.{number_map, number_source, source_of, with_column, with_map, with_maps, with_rows}
use Rattle.seg_column_merge.specs.Groups.{AreOfFiles}
use Rattle.seg_column_merge_parts.specs.ImageValues.{value_in}
use Rattle.seg_column_merge_parts.specs.JoinedNumbers.{IsNumeric, joined_numbers, row_numbers}
use Rattle.seg_column_merge_parts.specs.KeptColumns.{row_count_of}
use Rattle.seg_column_merge.specs.MergedBytes.{AddsMerged, HasType, IsNumberType}
use Rattle.seg_column_file.specs.RowOrders.{Place, IsRow}
use Rattle.seg_column_merge_parts.specs.SourceRows.{CanMap, CanPut, IsPut, joined, mapped}
use Rattle.seg_column_merge_parts.specs.Tables.{row_of}
use Rattle.seg_column_merge_parts.specs.declared.number_map.NumberMap.{NumberMap}
use Rattle.seg_column_merge_parts.specs.declared.number_map.NumberMap.TheVariants.{Same}
use Rattle.seg_column_merge_parts.specs.declared.source.Source.{Source}
use Rattle.seg_column_merge_parts.specs.declared.source.Source.TheVariants.{Nothing, Numbers}
use Rattle.seg_column_merge_parts.specs.declared.tables.FileColumn.{FileColumn}
use Rattle.seg_column_merge_parts.specs.declared.tables.TableRow.{TableRow}
use Rattle.seg_column_merge_parts.proofs.Exports.{joined_column, joined_rows}
use Rattle.seg_column_file.proofs.Exports.{file_below}
use Rattle.seg_column_merge.proofs.KeptPlaces.{IsKept, all_kept}
use Rattle.seg_column_merge.proofs.NumberColumns.{IsNumberRow, RowSuits, is_image_of, number_row}
use Rattle.seg_column_merge.proofs.TermColumnBytes.{cells_are}
use Rattle.seg_column_merge.proofs.SourceRows.{FilesRise, IsFrom, column_cells, files_rise, is_from, length-with_maps, nothing_at, values_in}
use Rattle.seg_column_merge.proofs.TermColumns.{rows_of_file}

-- ---- what is written for each row's column

abbrev pub maps_of : ColumnType → List TableRow → List NumberMap
maps_of to rows = map (λ r. number_map r.column_type to) rows

one_column : (to from : ColumnType) (o : Option FileColumn) (sources : List Source)
    → with_column from to sources o
    ≡ with_map sources o (number_map from to)
one_column to from None sources = refl
one_column to from (Some c) sources = refl

pub with_rows_are : (to : ColumnType) (rows : List TableRow) (sources : List Source)
    → with_rows to sources rows ≡ with_maps sources (map (λ r. r.column) rows) (maps_of to rows)
with_rows_are to [] sources = refl
with_rows_are to (r ∷ rs) sources =
    ap (λ (s : List Source). with_rows to s rs) (one_column to r.column_type r.column sources)
    ∙ with_rows_are to rs (with_map sources r.column (number_map r.column_type to))

-- its own type decides
pub map_at : (to : ColumnType) (rows : List TableRow) → AllByRecursion (λ r. HasType r.column_type r.column) rows
    → (at : ℕ)
    (c : FileColumn) → get_or (map (λ r. r.column) rows) at None ≡ Some c
    → get_or (maps_of to rows) at Same ≡ number_map (type_of (c.handle).column) to
map_at to [] typed at c is = absurd (none-some c is)
map_at to (r ∷ rs) typed zero c is =
    ap (λ (t : ColumnType). number_map t to) (sym (subst (HasType r.column_type) is typed.0))
map_at to (r ∷ rs) typed (suc at) c is = map_at to rs typed.1 at c is

module _ (counts : List ℕ) (places : List Place) (there : AllByRecursion (IsRow counts) places) (rows : List TableRow)
    (files : AreOfFiles counts 0 rows) (typed : AllByRecursion (λ r. HasType r.column_type r.column) rows)
    (to : ColumnType)
    (suits : (p : Place) → IsKept counts places p → (at : ℕ) (c : FileColumn)
    → get_or (map (λ r. r.column) rows) at None ≡ Some c → c.file ≡ p.0 → RowSuits to (c.handle).column p.1) where
  abbrev columns : List (Option FileColumn)
  columns = map (λ (r : TableRow). r.column) rows

  abbrev rise : FilesRise counts 0 columns
  rise = files_rise counts 0 rows files

  abbrev start : List Source
  start = replicate (length counts) Nothing

  abbrev sources : List Source
  sources = with_maps start columns (maps_of to rows)

  as_many_maps : length columns ≡ length (maps_of to rows)
  as_many_maps =
      length-map rows (λ (r : TableRow). r.column)
      ∙ sym (length-map rows (λ (r : TableRow). number_map r.column_type to))

  long : length sources ≡ length counts
  long = length-with_maps columns (maps_of to rows) start ∙ length-replicate (length counts) Nothing

  -- ---- one column

  module _ (p : Place) (kept_here : IsKept counts places p) (at : ℕ) (c : FileColumn)
      (is : get_or columns at None ≡ Some c) (file : c.file ≡ p.0) (s : Source)
      (its : s ≡ source_of (get_or (maps_of to rows) at Same) (c.handle).column) where
    abbrev map_of : NumberMap
    map_of = number_map (type_of (c.handle).column) to

    row : IsNumberRow to (c.handle).column p.1
    row = number_row to (c.handle).column p.1 (suits p kept_here at c is file)

    source_is : s ≡ Numbers (record { numbers = row.numbers; written = map_of })
    source_is =
        its ∙ ap (λ (m : NumberMap). source_of m (c.handle).column) (map_at to rows typed at c is)
        ∙ ap (number_source map_of (c.handle).column) row.is

    within : p.1 < length row.numbers
    within =
        let count : row_count_of (c.handle).column ≡ get_or counts p.0 0 =
        rows_of_file counts 0 columns rise at c is ∙ ap (λ (f : ℕ). get_or counts f 0) file in
        omega (arith, kept_here.row, count, row.long)

    can_put : CanPut s p.1
    can_put =
        subst (λ (t : Source). CanPut t p.1) (sym source_is)
        (within, All-from_recursion (CanMap map_of) (get_or row.numbers p.1 []) row.are.can)

    numbers_are : row_numbers s p.1 ≡ map (mapped map_of) (get_or row.numbers p.1 [])
    numbers_are = ap (λ (t : Source). row_numbers t p.1) source_is

    column_read : map (value_in to) (row_numbers s p.1) ≡ values_in c p.1
    column_read = ap (map (value_in to)) numbers_are ∙ row.are.read

    images : AllByRecursion (λ n. (n < 2 ^ 64) × (is_image_of to n ≡ true)) (row_numbers s p.1)
    images = subst (AllByRecursion (λ n. (n < 2 ^ 64) × (is_image_of to n ≡ true))) (sym numbers_are) row.are.images

  -- ---- one place

  module _ (p : Place) (kept_here : IsKept counts places p) where
    abbrev at_place : Source
    at_place = get_or sources p.0 Nothing

    from : IsFrom columns (maps_of to rows) at_place p
    from = is_from counts p 0 columns (maps_of to rows) start rise as_many_maps
        (length-replicate (length counts) Nothing) (λ file le. nothing_at (length counts) file) (omega arith)

    put_here : IsFrom columns (maps_of to rows) at_place p → CanPut at_place p.1
    put_here (inl i) = can_put p kept_here i.at i.column i.there i.file at_place i.source_is
    put_here (inr i) = subst (λ (s : Source). CanPut s p.1) (sym i.source_is) tt

    is_put : IsPut sources p
    is_put = record { file = omega (arith, file_below counts p.0 p.1 kept_here.row, long); row = put_here from }

    read_here : IsFrom columns (maps_of to rows) at_place p
        → map (value_in to) (row_numbers at_place p.1) ≡ column_cells columns p
    read_here (inl i) = column_read p kept_here i.at i.column i.there i.file at_place i.source_is ∙ sym i.cell_is
    read_here (inr i) = ap (λ (s : Source). map (value_in to) (row_numbers s p.1)) i.source_is ∙ sym i.cell_is

    images_here : IsFrom columns (maps_of to rows) at_place p
        → AllByRecursion (λ n. (n < 2 ^ 64) × (is_image_of to n ≡ true)) (row_numbers at_place p.1)
    images_here (inl i) = images p kept_here i.at i.column i.there i.file at_place i.source_is
    images_here (inr i) =
        subst (λ (s : Source). AllByRecursion (λ n. (n < 2 ^ 64) × (is_image_of to n ≡ true)) (row_numbers s p.1))
        (sym i.source_is) tt

  -- ---- all places

  put_from : (ps : List Place) → AllByRecursion (IsKept counts places) ps → AllByRecursion (IsPut sources) ps
  put_from [] here = tt
  put_from (p ∷ ps) here = (is_put p here.0, put_from ps here.1)

  read_from : (ps : List Place) → AllByRecursion (IsKept counts places) ps
      → map (map (value_in to)) (joined_numbers sources ps) ≡ map (column_cells columns) ps
  read_from [] here = refl
  read_from (p ∷ ps) here = λ j. read_here p here.0 (from p here.0) j ∷ read_from ps here.1 j

  images_from : (ps : List Place) → AllByRecursion (IsKept counts places) ps
      → AllByRecursion (AllByRecursion (λ n. (n < 2 ^ 64) × (is_image_of to n ≡ true))) (joined_numbers sources ps)
  images_from [] here = tt
  images_from (p ∷ ps) here = (images_here p here.0 (from p here.0), images_from ps here.1)

  pub numbers_put : AllByRecursion (IsPut sources) places
  numbers_put = put_from places (all_kept counts places there)

  pub numbers_read : map (map (value_in to)) (joined_numbers sources places) ≡ cells (map row_of rows) places
  numbers_read = read_from places (all_kept counts places there) ∙ cells_are rows places

  pub numbers_images : AllByRecursion (AllByRecursion (λ n. (n < 2 ^ 64) × (is_image_of to n ≡ true)))
      (joined_numbers sources places)
  numbers_images = images_from places (all_kept counts places there)

-- ---- the bytes

pub numbers_added : (to : ColumnType) → IsNumberType to → (sources : List Source) (places : List Place)
    (rows : List TableRow) → AllByRecursion IsNumeric sources → total (joined sources places) < 2 ^ 64
    → AllByRecursion (AllByRecursion (λ n. (n < 2 ^ 64) × (is_image_of to n ≡ true))) (joined_numbers sources places)
    → map (map (value_in to)) (joined_numbers sources places) ≡ cells (map row_of rows) places → (out new : List ℕ)
    → new ≡ out ++ column_bytes {T = List ℕ} (λ code. code) (joined sources places)
    → AddsMerged to (map row_of rows) places out new
numbers_added I64 is sources places rows numeric few images read out new added = record {
  bytes = column_bytes {T = List ℕ} (λ code. code) (joined sources places);
  added = added;
  column = joined_column (λ _. true) lowered sources places numeric few images;
  read = ap (map (map number)) (joined_rows (λ _. true) lowered sources places numeric few images)
      ∙ map_map-map_map lowered number (joined_numbers sources places) ∙ read;
}
numbers_added U64 is sources places rows numeric few images read out new added = record {
  bytes = column_bytes {T = List ℕ} (λ code. code) (joined sources places);
  added = added;
  column = joined_column (λ _. true) (λ (n : ℕ). n) sources places numeric few images;
  read = ap (map (map (λ n. number (pos n)))) (joined_rows (λ _. true) (λ (n : ℕ). n) sources places numeric few images)
      ∙ map_map-map_map (λ (n : ℕ). n) (λ n. number (pos n)) (joined_numbers sources places) ∙ read;
}
numbers_added Boolean is sources places rows numeric few images read out new added = record {
  bytes = column_bytes {T = List ℕ} (λ code. code) (joined sources places);
  added = added;
  column = joined_column is_bit is_one sources places numeric few images;
  read = ap (map (map boolean_value)) (joined_rows is_bit is_one sources places numeric few images)
      ∙ map_map-map_map is_one boolean_value (joined_numbers sources places) ∙ read;
}
numbers_added DateTime is sources places rows numeric few images read out new added = record {
  bytes = column_bytes {T = List ℕ} (λ code. code) (joined sources places);
  added = added;
  column = joined_column (λ _. true) lowered sources places numeric few images;
  read = ap (map (map date_value)) (joined_rows (λ _. true) lowered sources places numeric few images)
      ∙ map_map-map_map lowered date_value (joined_numbers sources places) ∙ read;
}
numbers_added _ is sources places rows numeric few images read out new added = absurd is

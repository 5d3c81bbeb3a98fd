-- The values of kept rows suit the type of their merged column.
use Rattle.std.proofs.Common.{◌≡◌, ℕ, zero, suc, ◌<◌, ◌^◌, Bool, true, false, ◌||◌, List, [], ◌∷◌, ◌++◌, length, map, get_or, Option, Some, None, inl, inr, refl, sym, ap, subst, ◌∙◌, arith}
use Rattle.std.specs.Prelude.{◌&&◌, nat_eq, replicate}
use Rattle.std.specs.List.{AllByRecursion, list_all}
use Rattle.std.proofs.lemmas.Bool.{and_parts, false≢true}
use Rattle.std.proofs.lemmas.Bool.Decides.{nat_tests}
use Rattle.std.proofs.lemmas.List.Elements.{recursion_from_All}
use Rattle.std.proofs.lemmas.Option.{none-some}
use Rattle.seg_common.specs.declared.column_type.ColumnType.{ColumnType}
use Rattle.seg_common.specs.declared.column_type.ColumnType.TheVariants.{I64, U64}
use Rattle.seg_model.specs.Columns.{ColumnValue, fits_i64, is_not_negative, is_number}
use Rattle.seg_columns.specs.DynamicColumns.{numbers_of, type_of}
use Rattle.seg_columns.specs.declared.dynamic_column.DynamicColumn.{DynamicColumn}
use Rattle.seg_columns.specs.declared.dynamic_column.DynamicColumn.TheVariants as columns
use Rattle.seg_column_format.specs.ColumnBytes.{column_bytes, total}
use Rattle.seg_column_merge.specs.Cells.{cell, cells}
use Rattle.seg_column_merge_parts.specs.ColumnSources.{number_source, with_maps, with_rows}
use Rattle.seg_column_merge.specs.Groups.{AreOfFiles}
use Rattle.seg_column_merge_parts.specs.JoinedNumbers.{IsNumeric}
use Rattle.seg_column_file.specs.KeptRows.{AreMarks, is_kept}
use Rattle.seg_column_merge.specs.MergedBytes.{AddsMerged, HasNumbers, HasType, HoldsAll, IsNumberType, RowFits, SuitsType}
use Rattle.seg_column_file.specs.RowOrders.{Place, IsRow}
use Rattle.seg_column_merge_parts.specs.SourceRows.{IsPut, joined}
use Rattle.seg_column_merge_parts.specs.Tables.{row_of}
use Rattle.seg_column_merge_parts.specs.declared.source.Source.{Source}
use Rattle.seg_column_merge_parts.specs.declared.source.Source.TheVariants.{Nothing}
use Rattle.seg_column_merge_parts.specs.declared.tables.FileColumn.{FileColumn}
use Rattle.seg_column_merge_parts.specs.declared.tables.TableRow.{TableRow}
use Rattle.seg_column_merge.proofs.KeptPlaces.{IsKept}
use Rattle.seg_column_merge.proofs.NumberColumns.{RowSuits}
use Rattle.seg_column_merge.proofs.NumberColumnBytes.{maps_of, numbers_added, numbers_images, numbers_put, numbers_read, with_rows_are}
use Rattle.seg_column_merge.proofs.TermColumnBytes.{type_at}
use Rattle.seg_column_merge.proofs.SourceRows.{all_replicate, all_with_maps, cell_by_columns, files_rise, values_in}
use Rattle.seg_column_merge.proofs.ValueTypes.{all_pass, cell_at, own_type, signed_holds, unsigned_holds}

-- ---- what holds of the columns of all rows

pub fit_at : (kept : List (List Bool)) (rows : List TableRow) → AllByRecursion (λ r. RowFits kept r.column) rows
    → (at : ℕ)
    (c : FileColumn) → get_or (map (λ r. r.column) rows) at None ≡ Some c → RowFits kept (Some c)
fit_at kept [] all at c is = absurd (none-some c is)
fit_at kept (r ∷ rs) all zero c is = subst (RowFits kept) is all.0
fit_at kept (r ∷ rs) all (suc at) c is = fit_at kept rs all.1 at c is

numbers_at : (rows : List TableRow) → AllByRecursion (λ r. HasNumbers r.column) rows → (at : ℕ)
    (c : FileColumn) → get_or (map (λ r. r.column) rows) at None ≡ Some c → is_number (type_of (c.handle).column) ≡ true
numbers_at [] all at c is = absurd (none-some c is)
numbers_at (r ∷ rs) all zero c is = subst HasNumbers is all.0
numbers_at (r ∷ rs) all (suc at) c is = numbers_at rs all.1 at c is

-- what holds of all places holds of one among them
same_place : (P : Place → Type 0) (q : Place) (file row : ℕ) → P q → (nat_eq file q.0 && nat_eq row q.1) ≡ true
    → P (file, row)
same_place P q file row here both =
    let parts = and_parts (nat_eq file q.0) (nat_eq row q.1) both in
    let same_file : q.0 ≡ file = grind (arith, nat_tests, parts.0) in
    let same_row : q.1 ≡ row = grind (arith, nat_tests, parts.1) in
    subst (λ (f : ℕ). P (f, row)) same_file (subst (λ (r : ℕ). P (q.0, r)) same_row here)

kept_place : (P : Place → Type 0) (ps : List Place) → AllByRecursion P ps → (file row : ℕ)
    → is_kept ps file row ≡ true → P (file, row)
kept_place P [] all file row is = absurd (false≢true is)
kept_place P (q ∷ qs) all file row is =
    by (λ more. kept_place P qs all.1 file row more) (nat_eq file q.0 && nat_eq row q.1) refl is
  where
    by : (is_kept qs file row ≡ true → P (file, row)) → (b : Bool) → (nat_eq file q.0 && nat_eq row q.1) ≡ b
        → (b || is_kept qs file row) ≡ true → P (file, row)
    by later true e any = same_place P q file row all.0 e
    by later false e any = later any

number_is : (t : ColumnType) → is_number t ≡ true → IsNumberType t
number_is I64 is = tt
number_is U64 is = tt
number_is _ is = absurd (false≢true is)

-- a column has numbers
record IsOfNumbers (column : DynamicColumn) : Type 0 where
  numbers : List (List ℕ)
  is : numbers_of column ≡ Some numbers

of_numbers : (column : DynamicColumn) (numbers : List (List ℕ)) → numbers_of column ≡ Some numbers → IsOfNumbers column
of_numbers column numbers is = record { numbers = numbers; is = is }

numeric_column : (column : DynamicColumn) → IsNumberType (type_of column) → IsOfNumbers column
numeric_column (columns.I64 rows) a = of_numbers (columns.I64 rows) _ refl
numeric_column (columns.U64 rows) a = of_numbers (columns.U64 rows) _ refl
numeric_column (columns.Bool rows) a = of_numbers (columns.Bool rows) _ refl
numeric_column (columns.DateTime rows) a = of_numbers (columns.DateTime rows) _ refl
numeric_column (columns.Bytes c) a = absurd a
numeric_column (columns.Str c) a = absurd a
numeric_column (columns.IpAddr rows) a = absurd a

module _ (counts : List ℕ) (places : List Place) (kept : List (List Bool)) (marks : AreMarks counts places kept)
    (there : AllByRecursion (IsRow counts) places) (rows : List TableRow) (files : AreOfFiles counts 0 rows)
    (typed : AllByRecursion (λ r. HasType r.column_type r.column) rows)
    (fits : AllByRecursion (λ r. RowFits kept r.column) rows)
    (to : ColumnType) (number : IsNumberType to) (suits : SuitsType to rows places) where
  abbrev row_columns : List (Option FileColumn)
  row_columns = map (λ (r : TableRow). r.column) rows

  -- ---- a column is of a type of numbers

  type_is : (at : ℕ) (c : FileColumn) → get_or row_columns at None ≡ Some c → IsNumberType (type_of (c.handle).column)
  type_is at c is = by suits
    where
      by : SuitsType to rows places → IsNumberType (type_of (c.handle).column)
      by (inl same) =
          subst IsNumberType
          (sym (type_at to rows (recursion_from_All (λ (r : TableRow). HasType to r.column) rows same) at c is)) number
      by (inr other) =
          number_is (type_of (c.handle).column)
          (numbers_at rows (recursion_from_All (λ (r : TableRow). HasNumbers r.column) rows other.0) at c is)

  -- ---- its values suit

  module _ (p : Place) (kept_here : IsKept counts places p) (at : ℕ) (c : FileColumn)
      (is : get_or row_columns at None ≡ Some c) (file : c.file ≡ p.0) where
    row_kept : get_or (get_or kept c.file []) p.1 false ≡ true
    row_kept =
        ap (λ (f : ℕ). get_or (get_or kept f []) p.1 false) file
        ∙ marks.marks p.0 p.1 kept_here.row ∙ kept_here.kept

    here : RowFits kept (Some c)
    here = fit_at kept rows fits at c is

    values_here : cell (map row_of rows) p ≡ values_in c p.1
    values_here = cell_by_columns rows p ∙ cell_at counts p 0 row_columns (files_rise counts 0 rows files) at c is file

    all_hold : (f : List ColumnValue → Bool) → list_all f (cells (map row_of rows) places) ≡ true
        → f (values_in c p.1) ≡ true
    all_hold f all =
        ap f (sym values_here)
        ∙ kept_place (λ (q : Place). f (cell (map row_of rows) q) ≡ true) places
        (all_pass f (cell (map row_of rows)) places all)
        p.0 p.1 kept_here.kept

    by_holding : (t : ColumnType) → is_number (type_of (c.handle).column) ≡ true
        → HoldsAll t (cells (map row_of rows) places) → RowSuits t (c.handle).column p.1
    by_holding I64 n holds =
        signed_holds (get_or kept c.file []) p.1 row_kept (c.handle).column n here (all_hold (list_all fits_i64) holds)
    by_holding U64 n holds =
        unsigned_holds (get_or kept c.file []) p.1 row_kept (c.handle).column n here
        (all_hold (list_all is_not_negative) holds)
    by_holding _ n holds = absurd holds

    by_type : SuitsType to rows places → RowSuits to (c.handle).column p.1
    by_type (inl same) =
        subst (λ (t : ColumnType). RowSuits t (c.handle).column p.1)
        (type_at to rows (recursion_from_All (λ (r : TableRow). HasType to r.column) rows same) at c is)
        (own_type (get_or kept c.file []) p.1 row_kept (c.handle).column (type_is at c is) here)
    by_type (inr other) =
        by_holding to (numbers_at rows (recursion_from_All
        (λ (r : TableRow). HasNumbers r.column) rows other.0) at c is)
        other.1

    row_suits : RowSuits to (c.handle).column p.1
    row_suits = by_type suits

  -- ---- the sources

  abbrev sources : List Source
  sources = with_rows to (replicate (length counts) Nothing) rows

  same_sources : sources ≡ with_maps (replicate (length counts) Nothing) row_columns (maps_of to rows)
  same_sources = with_rows_are to rows (replicate (length counts) Nothing)

  numeric : AllByRecursion IsNumeric sources
  numeric = subst (AllByRecursion IsNumeric) (sym same_sources)
      (all_with_maps IsNumeric row_columns (maps_of to rows) (replicate (length counts) Nothing)
      (all_replicate IsNumeric (length counts) Nothing tt)
      (λ at c m is. subst IsNumeric
      (sym (ap (number_source m (c.handle).column) (numeric_column (c.handle).column (type_is at c is)).is)) tt))

  pub sources_put : AllByRecursion (IsPut sources) places
  sources_put = subst (λ (ss : List Source). AllByRecursion (IsPut ss) places) (sym same_sources)
      (numbers_put counts places there rows files typed to row_suits)

  pub values_added : total (joined sources places) < 2 ^ 64 → (out new : List ℕ)
      → new ≡ out ++ column_bytes {T = List ℕ} (λ code. code) (joined sources places)
      → AddsMerged to (map row_of rows) places out new
  values_added few out new added =
      let ss = with_maps (replicate (length counts) Nothing) row_columns (maps_of to rows) in
      numbers_added to number ss places rows (subst (AllByRecursion IsNumeric) same_sources numeric)
      (subst (λ (s : List Source). total (joined s places) < 2 ^ 64) same_sources few)
      (numbers_images counts places there rows files typed to row_suits)
      (numbers_read counts places there rows files typed to row_suits) out new
      (added ∙ ap (λ (s : List Source). out ++ column_bytes {T = List ℕ} (λ code. code) (joined s places)) same_sources)

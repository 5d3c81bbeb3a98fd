-- The bytes of a merged column of addresses.
use Rattle.std.proofs.Common.{◌≡◌, ℕ, ◌+◌, ◌<◌, ◌^◌, Bool, true, false, List, [], ◌∷◌, ◌++◌, length, map, get_or, Option, Some, None, inl, inr, refl, sym, ap, subst, ◌∙◌, arith}
use Rattle.std.specs.Prelude.{replicate}
use Rattle.std.specs.List.{AllByRecursion}
use Rattle.std.specs.Net.Addr.{ipv6_octets}
use Rattle.std.specs.declared.net.ipv6_addr.Ipv6Addr.{Ipv6Addr}
use Rattle.std.proofs.lemmas.List.{length-map, length-replicate}
use Rattle.seg_column_writer.proofs.Exports.{same_address}
use Rattle.seg_common.specs.declared.column_type.ColumnType.TheVariants as types
use Rattle.seg_common.proofs.Lists.{get_or-map_map}
use Rattle.seg_model.specs.Columns.{ColumnValue, ip_value, type_place}
use Rattle.seg_columns.specs.Addresses.{address, address_of}
use Rattle.seg_columns.specs.Columns.{IsColumn, rows_of}
use Rattle.seg_columns.specs.DynamicColumns.{numbers_of, type_of}
use Rattle.seg_columns.specs.declared.dynamic_column.DynamicColumn.{DynamicColumn}
use Rattle.seg_columns.specs.declared.dynamic_column.DynamicColumn.TheVariants as columns
use Rattle.seg_column_format.proofs.ColumnRoundTrips.{is_column, rows_read_as}
use Rattle.seg_column_format.specs.ColumnBytes.{IsReadAs, column_bytes, total}
use Rattle.seg_column_format.specs.ModelColumns.{column_rows}
use Rattle.seg_column_merge_parts.specs.ColumnSources.{number_map, number_source, source_of, with_maps, with_rows}
use Rattle.seg_column_merge.specs.Groups.{AreOfFiles}
use Rattle.seg_column_merge_parts.specs.KeptColumns.{IsWhole, kept_fit, row_count_of}
use Rattle.seg_column_file.specs.KeptRows.{AreMarks}
use Rattle.seg_column_merge.specs.MergedBytes.{AddsMerged, HasType, RowFits}
use Rattle.seg_column_file.specs.RowOrders.{Place, IsRow}
use Rattle.seg_column_merge_parts.specs.SourceRows.{CanPut, IsPut, joined, row_codes}
use Rattle.seg_column_merge_parts.specs.Tables.{row_of}
use Rattle.seg_column_merge_parts.specs.declared.number_map.NumberMap.{NumberMap}
use Rattle.seg_column_merge_parts.specs.declared.source.Source.{Source}
use Rattle.seg_column_merge_parts.specs.declared.source.Source.TheVariants.{Nothing, Addresses}
use Rattle.seg_column_merge_parts.specs.declared.tables.FileColumn.{FileColumn}
use Rattle.seg_column_merge_parts.specs.declared.tables.TableRow.{TableRow}
use Rattle.seg_column_file.proofs.Exports.{file_below}
use Rattle.seg_column_merge.proofs.KeptPlaces.{IsKept, all_kept}
use Rattle.seg_column_merge.proofs.NumberColumnBytes.{maps_of, with_rows_are}
use Rattle.seg_column_merge.proofs.TermColumnBytes.{cells_are, type_at}
use Rattle.seg_column_merge.proofs.SuitableValues.{fit_at}
use Rattle.seg_column_merge.proofs.SourceRows.{FilesRise, IsFrom, column_cells, files_rise, is_from, length-with_maps, nothing_at, values_in}
use Rattle.seg_column_merge.proofs.ValueTypes.{kept_all}
use Rattle.seg_column_merge.proofs.TermColumns.{rows_of_file}

-- ---- one address

-- the value of bytes
abbrev value_of : List ℕ → ColumnValue
value_of code = ip_value (ipv6_octets (address_of code))

abbrev IsCode : List ℕ → Type 0
IsCode code = IsReadAs 16 address (λ (c : List ℕ). c) address_of code

codes_are : (addresses : List Ipv6Addr) → AllByRecursion IsWhole addresses
    → AllByRecursion IsCode (map ipv6_octets addresses)
codes_are [] all = tt
codes_are (a ∷ rest) all = (record { wide = all.0; read = refl }, codes_are rest all.1)

values_are : (addresses : List Ipv6Addr)
    → map value_of (map ipv6_octets addresses) ≡ map (λ a. ip_value (ipv6_octets a)) addresses
values_are [] = refl
values_are (a ∷ rest) = λ j. ip_value (ipv6_octets (same_address a j)) ∷ values_are rest j

-- ---- a column of them

-- a column's rows
record HasAddresses (column : DynamicColumn) : Type 0 where
  addresses : List (List Ipv6Addr)
  is : column ≡ columns.IpAddr addresses

has_addresses : (column : DynamicColumn) → type_place (type_of column) ≡ 5 → HasAddresses column
has_addresses (columns.IpAddr rows) e = record { addresses = rows; is = refl }
has_addresses (columns.I64 rows) e = absurd (omega (arith, e))
has_addresses (columns.U64 rows) e = absurd (omega (arith, e))
has_addresses (columns.Bytes c) e = absurd (omega (arith, e))
has_addresses (columns.Str c) e = absurd (omega (arith, e))
has_addresses (columns.Bool rows) e = absurd (omega (arith, e))
has_addresses (columns.DateTime rows) e = absurd (omega (arith, e))

module _ (counts : List ℕ) (places : List Place) (kept : List (List Bool)) (marks : AreMarks counts places kept)
    (there : AllByRecursion (IsRow counts) places) (rows : List TableRow) (files : AreOfFiles counts 0 rows)
    (fits : AllByRecursion (λ r. RowFits kept r.column) rows)
    (typed : AllByRecursion (λ r. HasType types.IpAddr r.column) rows) where
  abbrev row_columns : List (Option FileColumn)
  row_columns = map (λ (r : TableRow). r.column) rows

  abbrev rise : FilesRise counts 0 row_columns
  rise = files_rise counts 0 rows files

  abbrev start : List Source
  start = replicate (length counts) Nothing

  abbrev placed : List Source
  placed = with_maps start row_columns (maps_of types.IpAddr rows)

  long : length placed ≡ length counts
  long = length-with_maps row_columns (maps_of types.IpAddr rows) start ∙ length-replicate (length counts) Nothing

  module _ (p : Place) (kept_here : IsKept counts places p) (at : ℕ) (c : FileColumn)
      (is : get_or row_columns at None ≡ Some c) (file : c.file ≡ p.0) (m : NumberMap) (s : Source)
      (its : s ≡ source_of m (c.handle).column) where
    of_column : HasAddresses (c.handle).column
    of_column = has_addresses (c.handle).column (ap type_place (type_at types.IpAddr rows typed at c is))

    abbrev addresses : List (List Ipv6Addr)
    addresses = of_column.addresses

    source_is : s ≡ Addresses addresses
    source_is = its ∙ ap (λ (column : DynamicColumn). number_source m column (numbers_of column)) of_column.is

    within : p.1 < length addresses
    within =
        let count : row_count_of (c.handle).column ≡ get_or counts p.0 0 =
        rows_of_file counts 0 row_columns rise at c is ∙ ap (λ (f : ℕ). get_or counts f 0) file in
        let same : row_count_of (c.handle).column ≡ length addresses = ap row_count_of of_column.is in
        omega (arith, kept_here.row, count, same)

    row_kept : get_or (get_or kept c.file []) p.1 false ≡ true
    row_kept =
        ap (λ (f : ℕ). get_or (get_or kept f []) p.1 false) file
        ∙ marks.marks p.0 p.1 kept_here.row ∙ kept_here.kept

    whole : AllByRecursion IsWhole (get_or addresses p.1 [])
    whole = kept_all (get_or kept c.file []) p.1 row_kept IsWhole addresses
        (subst (kept_fit (get_or kept c.file [])) of_column.is (fit_at kept rows fits at c is))

    put_column : CanPut s p.1
    put_column = subst (λ (t : Source). CanPut t p.1) (sym source_is) within

    code_column : AllByRecursion IsCode (row_codes s p.1)
    code_column = subst (λ (t : Source). AllByRecursion IsCode (row_codes t p.1)) (sym source_is)
        (codes_are (get_or addresses p.1 []) whole)

    read_column : map value_of (row_codes s p.1) ≡ values_in c p.1
    read_column =
        ap (λ (t : Source). map value_of (row_codes t p.1)) source_is
        ∙ values_are (get_or addresses p.1 [])
        ∙ sym (get_or-map_map (λ (a : Ipv6Addr). ip_value (ipv6_octets a)) addresses p.1)
        ∙ sym (ap (λ (column : DynamicColumn). get_or (column_rows column) p.1 [])
        of_column.is)

  module _ (p : Place) (kept_here : IsKept counts places p) where
    abbrev at_place : Source
    at_place = get_or placed p.0 Nothing

    from : IsFrom row_columns (maps_of types.IpAddr rows) at_place p
    from = is_from counts p 0 row_columns (maps_of types.IpAddr rows) start rise
        (length-map rows (λ (r : TableRow). r.column)
        ∙ sym (length-map rows (λ (r : TableRow). number_map r.column_type types.IpAddr)))
        (length-replicate (length counts) Nothing) (λ file le. nothing_at (length counts) file) (omega arith)

    put_here : IsFrom row_columns (maps_of types.IpAddr rows) at_place p → CanPut at_place p.1
    put_here (inl i) = put_column p kept_here i.at i.column i.there i.file _ at_place i.source_is
    put_here (inr i) = subst (λ (s : Source). CanPut s p.1) (sym i.source_is) tt

    code_here : IsFrom row_columns (maps_of types.IpAddr rows) at_place p
        → AllByRecursion IsCode (row_codes at_place p.1)
    code_here (inl i) = code_column p kept_here i.at i.column i.there i.file _ at_place i.source_is
    code_here (inr i) = subst (λ (s : Source). AllByRecursion IsCode (row_codes s p.1)) (sym i.source_is) tt

    read_here : IsFrom row_columns (maps_of types.IpAddr rows) at_place p
        → map value_of (row_codes at_place p.1) ≡ column_cells row_columns p
    read_here (inl i) = read_column p kept_here i.at i.column i.there i.file _ at_place i.source_is ∙ sym i.cell_is
    read_here (inr i) = ap (λ (s : Source). map value_of (row_codes s p.1)) i.source_is ∙ sym i.cell_is

  put_from : (ps : List Place) → AllByRecursion (IsKept counts places) ps → AllByRecursion (IsPut placed) ps
  put_from [] here = tt
  put_from (p ∷ ps) here = (
    record {
      file = omega (arith, file_below counts p.0 p.1 here.0.row, long);
      row = put_here p here.0
          (from p here.0);
    },
    put_from ps here.1,
  )

  codes_from : (ps : List Place) → AllByRecursion (IsKept counts places) ps
      → AllByRecursion (AllByRecursion IsCode) (joined placed ps)
  codes_from [] here = tt
  codes_from (p ∷ ps) here = (code_here p here.0 (from p here.0), codes_from ps here.1)

  read_from : (ps : List Place) → AllByRecursion (IsKept counts places) ps
      → map (map value_of) (joined placed ps) ≡ map (column_cells row_columns) ps
  read_from [] here = refl
  read_from (p ∷ ps) here = λ j. read_here p here.0 (from p here.0) j ∷ read_from ps here.1 j

  -- ---- the column

  abbrev sources : List Source
  sources = with_rows types.IpAddr start rows

  same_sources : sources ≡ placed
  same_sources = with_rows_are types.IpAddr rows start

  pub addresses_put : AllByRecursion (IsPut sources) places
  addresses_put = subst (λ (ss : List Source). AllByRecursion (IsPut ss) places) (sym same_sources)
      (put_from places (all_kept counts places there))

  abbrev code : List ℕ → List ℕ
  code c = c

  map_rows : (xss : List (List (List ℕ)))
      → map (map (λ (a : Ipv6Addr). ip_value (ipv6_octets a))) (map (map address_of) xss) ≡ map (map value_of) xss
  map_rows [] = refl
  map_rows (xs ∷ xss) = λ j. in_row xs j ∷ map_rows xss j
    where
      in_row : (ys : List (List ℕ))
          → map (λ (a : Ipv6Addr). ip_value (ipv6_octets a)) (map address_of ys) ≡ map value_of ys
      in_row [] = refl
      in_row (y ∷ ys) = ap (λ (l : List ColumnValue). value_of y ∷ l) (in_row ys)

  module _ (few : total (joined placed places) < 2 ^ 64) where
    abbrev rows_joined : List (List (List ℕ))
    rows_joined = joined placed places

    as_many : length rows_joined ≡ length places
    as_many = length-map places (λ (p : Place). row_codes (get_or placed p.0 Nothing) p.1)

    codes : AllByRecursion (AllByRecursion IsCode) rows_joined
    codes = codes_from places (all_kept counts places there)

    column : IsColumn 16 address (length places) (column_bytes code rows_joined)
    column = subst (λ (n : ℕ). IsColumn 16 address n (column_bytes code rows_joined)) as_many
        (is_column 16 address code address_of rows_joined few codes)

    read : rows_of 16 address (length places) (column_bytes code rows_joined) ≡ map (map address_of) rows_joined
    read = ap (λ (n : ℕ). rows_of 16 address n (column_bytes code rows_joined)) (sym as_many)
        ∙ rows_read_as 16 address code address_of rows_joined few codes

    placed_added : (out new : List ℕ) → new ≡ out ++ column_bytes code rows_joined
        → AddsMerged types.IpAddr (map row_of rows) places out new
    placed_added out new added = record {
      bytes = column_bytes code rows_joined;
      added = added;
      column = column;
      read = ap (map (map (λ (a : Ipv6Addr). ip_value (ipv6_octets a)))) read ∙ map_rows rows_joined
          ∙ read_from places (all_kept counts places there) ∙ cells_are rows places;
    }

  pub addresses_added : total (joined sources places) < 2 ^ 64 → (out new : List ℕ)
      → new ≡ out ++ column_bytes {T = List ℕ} (λ c. c) (joined sources places)
      → AddsMerged types.IpAddr (map row_of rows) places out new
  addresses_added few out new added =
      placed_added (subst (λ (ss : List Source). total (joined ss places) < 2 ^ 64) same_sources few) out new
      (added ∙ ap (λ (ss : List Source). out ++ column_bytes {T = List ℕ} (λ c. c) (joined ss places)) same_sources)

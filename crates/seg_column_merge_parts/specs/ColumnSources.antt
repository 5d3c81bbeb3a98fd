-- The columns of one key, each in the place of its file.
use Rattle.std.specs.Prelude.{ℕ, ◌<◌, List, [], ◌∷◌, Option, Some, None, set}
use Rattle.std.specs.declared.net.ipv6_addr.Ipv6Addr.{Ipv6Addr}
use Rattle.seg_common.specs.declared.column_type.ColumnType.{ColumnType}
use Rattle.seg_common.specs.declared.column_type.ColumnType.TheVariants.{I64, U64}
use Rattle.seg_columns.specs.DynamicColumns.{numbers_of, ip_column}
use Rattle.seg_columns.specs.declared.dynamic_column.DynamicColumn.{DynamicColumn}
use Rattle.seg_column_merge_parts.specs.declared.number_map.NumberMap.{NumberMap}
use Rattle.seg_column_merge_parts.specs.declared.number_map.NumberMap.TheVariants.{Same, Raised, Lowered}
use Rattle.seg_column_merge_parts.specs.declared.source.Source.{Source}
use Rattle.seg_column_merge_parts.specs.declared.source.Source.TheVariants.{Nothing, Numbers, Addresses}
use Rattle.seg_column_merge_parts.specs.declared.tables.FileColumn.{FileColumn}
use Rattle.seg_column_merge_parts.specs.declared.tables.TableRow.{TableRow}

-- what is written for the numbers of a column of one type in a column of another
abbrev pub number_map : ColumnType → ColumnType → NumberMap
number_map I64 U64 = Lowered
number_map U64 I64 = Raised
number_map _ _ = Same

abbrev pub address_source : Option (List (List Ipv6Addr)) → Source
address_source None = Nothing
address_source (Some rows) = Addresses rows

abbrev pub number_source : NumberMap → DynamicColumn → Option (List (List ℕ)) → Source
number_source written column None = address_source (ip_column column)
number_source written column (Some numbers) = Numbers (record { numbers = numbers; written = written })

-- a column, whose numbers are written as a map tells
abbrev pub source_of : NumberMap → DynamicColumn → Source
source_of written column = number_source written column (numbers_of column)

abbrev pub with_column : ColumnType → ColumnType → List Source → Option FileColumn → List Source
with_column from to sources None = sources
with_column from to sources (Some c) = set sources c.file (source_of (number_map from to) (c.handle).column)

-- with the columns of some rows, in a column of a type
abbrev pub with_rows : ColumnType → List Source → List TableRow → List Source
with_rows to sources [] = sources
with_rows to sources (r ∷ rs) = with_rows to (with_column r.column_type to sources r.column) rs

abbrev pub FileBelow : ℕ → Option FileColumn → Type 0
FileBelow files None = Unit {0}
FileBelow files (Some c) = c.file < files

-- the file of a row is there
abbrev pub HasFile : ℕ → TableRow → Type 0
HasFile files r = FileBelow files r.column

-- ---- by what is written for each column

-- with one column that may be there
abbrev pub with_map : List Source → Option FileColumn → NumberMap → List Source
with_map sources None written = sources
with_map sources (Some c) written = set sources c.file (source_of written (c.handle).column)

abbrev pub with_maps : List Source → List (Option FileColumn) → List NumberMap → List Source
with_maps sources [] written = sources
with_maps sources (o ∷ cs) [] = sources
with_maps sources (o ∷ cs) (m ∷ ms) = with_maps (with_map sources o m) cs ms

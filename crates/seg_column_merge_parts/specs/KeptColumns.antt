-- What the rows that are kept have of columns of any type.
use Rattle.std.specs.Prelude.{◌≡◌, ℕ, ◌^◌, ◌<◌, All, Bool, true, false, FitsSigned, List, [], Option, Some, None, get_or, length}
use Rattle.std.specs.Int.{w64}
use Rattle.std.specs.Net.Addr.{ipv6_octets}
use Rattle.std.specs.declared.net.ipv6_addr.Ipv6Addr.{Ipv6Addr}
use Rattle.std.specs.List.{list_any}
use Rattle.seg_columns.specs.declared.dynamic_column.DynamicColumn.{DynamicColumn}
use Rattle.seg_columns.specs.declared.dynamic_column.DynamicColumn.TheVariants as columns
use Rattle.seg_column_merge_parts.specs.declared.number_range.NumberRange.{NumberRange}
use Rattle.seg_column_file.specs.KeptRows.{kept_values}
use Rattle.seg_column_merge_parts.specs.NumberRanges.{with_all, with_signed, with_unsigned}
use Rattle.seg_column_merge_parts.specs.declared.tables.FileColumn.{FileColumn}

-- any value passes
abbrev pub there : {T : Type 0} → T → Bool
there x = true

-- how many rows a column has
abbrev pub row_count_of : DynamicColumn → ℕ
row_count_of (columns.I64 rows) = length rows
row_count_of (columns.U64 rows) = length rows
row_count_of (columns.Bytes column) = length column.ords
row_count_of (columns.Str column) = length column.ords
row_count_of (columns.Bool rows) = length rows
row_count_of (columns.IpAddr rows) = length rows
row_count_of (columns.DateTime rows) = length rows

-- a range with the numbers of a column that are kept
abbrev pub range_with : List Bool → NumberRange → DynamicColumn → NumberRange
range_with kept range (columns.I64 rows) = with_all with_signed range (kept_values kept rows)
range_with kept range (columns.U64 rows) = with_all with_unsigned range (kept_values kept rows)
range_with kept range _ = range

-- whether a column that isn't one of numbers has a value that is kept
abbrev pub any_kept_value : List Bool → DynamicColumn → Bool
any_kept_value kept (columns.Bytes column) = list_any there (kept_values kept column.ords)
any_kept_value kept (columns.Str column) = list_any there (kept_values kept column.ords)
any_kept_value kept (columns.Bool rows) = list_any there (kept_values kept rows)
any_kept_value kept (columns.IpAddr rows) = list_any there (kept_values kept rows)
any_kept_value kept (columns.DateTime rows) = list_any there (kept_values kept rows)
any_kept_value kept _ = false

-- an address has sixteen bytes
abbrev pub IsWhole : Ipv6Addr → Type 0
IsWhole address = length (ipv6_octets address) ≡ 16

-- the values that are kept are those of their type
abbrev pub kept_fit : List Bool → DynamicColumn → Type 0
kept_fit kept (columns.I64 rows) = All (FitsSigned w64) (kept_values kept rows)
kept_fit kept (columns.U64 rows) = All (λ n. n < 2 ^ 64) (kept_values kept rows)
kept_fit kept (columns.DateTime rows) = All (FitsSigned w64) (kept_values kept rows)
kept_fit kept (columns.IpAddr rows) = All IsWhole (kept_values kept rows)
kept_fit kept _ = Unit {0}

-- a file has marks for the rows of its column
abbrev pub HasRows : List (List Bool) → Option FileColumn → Type 0
HasRows kept None = Unit {0}
HasRows kept (Some c) = (c.file < length kept) × (length (get_or kept c.file []) ≡ row_count_of (c.handle).column)

-- Columns of any type.
use Rattle.std.specs.Prelude.{ℕ, ℤ, Bool, List, length, map, Option, Some, None}
use Rattle.std.specs.declared.net.ipv6_addr.Ipv6Addr.{Ipv6Addr}
use Rattle.seg_common.specs.declared.column_type.ColumnType.{ColumnType}
use Rattle.seg_common.specs.declared.column_type.ColumnType.TheVariants as types
use Rattle.seg_common.specs.MappableValues.{raised, bit}
use Rattle.seg_columns.specs.declared.dynamic_column.DynamicColumn.{DynamicColumn}
use Rattle.seg_columns.specs.declared.dynamic_column.DynamicColumn.TheVariants as columns
use Rattle.seg_columns.specs.Addresses.{address}
use Rattle.seg_columns.specs.Columns.{IsColumn, rows_of}
use Rattle.seg_columns.specs.ValueImages.{signed, truth, unsigned}
use Rattle.seg_columns.specs.TermColumns.{IsBytesColumn, IsStrColumn, term_column_of}

-- ---- the values of a column, where they have a given type

abbrev pub u64_column : DynamicColumn → Option (List (List ℕ))
u64_column (columns.U64 rows) = Some rows
u64_column _ = None

abbrev pub i64_column : DynamicColumn → Option (List (List ℤ))
i64_column (columns.I64 rows) = Some rows
i64_column _ = None

abbrev pub bool_column : DynamicColumn → Option (List (List Bool))
bool_column (columns.Bool rows) = Some rows
bool_column _ = None

-- moments are seen as their nanoseconds
abbrev pub date_column : DynamicColumn → Option (List (List ℤ))
date_column (columns.DateTime rows) = Some rows
date_column _ = None

abbrev pub ip_column : DynamicColumn → Option (List (List Ipv6Addr))
ip_column (columns.IpAddr rows) = Some rows
ip_column _ = None

-- ---- what all columns have

abbrev pub type_of : DynamicColumn → ColumnType
type_of (columns.I64 _) = types.I64
type_of (columns.U64 _) = types.U64
type_of (columns.Bytes _) = types.Bytes
type_of (columns.Str _) = types.Str
type_of (columns.Bool _) = types.Bool
type_of (columns.IpAddr _) = types.IpAddr
type_of (columns.DateTime _) = types.DateTime

-- the numbers that stand for its values, in their order; for texts and bytes their ordinals; addresses have none
abbrev pub numbers_of : DynamicColumn → Option (List (List ℕ))
numbers_of (columns.I64 rows) = Some (map (map raised) rows)
numbers_of (columns.U64 rows) = Some rows
numbers_of (columns.Bytes column) = Some column.ords
numbers_of (columns.Str column) = Some column.ords
numbers_of (columns.Bool rows) = Some (map (map bit) rows)
numbers_of (columns.IpAddr _) = None
numbers_of (columns.DateTime rows) = Some (map (map raised) rows)

-- ---- their bytes

-- bytes are a column of a type for this many documents
abbrev pub IsColumnOf : ColumnType → ℕ → List ℕ → Type 0
IsColumnOf types.I64 docs bytes = IsColumn 8 signed docs bytes
IsColumnOf types.U64 docs bytes = IsColumn 8 unsigned docs bytes
IsColumnOf types.Bytes docs bytes = IsBytesColumn docs bytes
IsColumnOf types.Str docs bytes = IsStrColumn docs bytes
IsColumnOf types.Bool docs bytes = IsColumn 8 truth docs bytes
IsColumnOf types.IpAddr docs bytes = IsColumn 16 address docs bytes
IsColumnOf types.DateTime docs bytes = IsColumn 8 signed docs bytes

-- the column that such bytes read as
abbrev pub column_of : ColumnType → ℕ → List ℕ → DynamicColumn
column_of types.I64 docs bytes = columns.I64 (rows_of 8 signed docs bytes)
column_of types.U64 docs bytes = columns.U64 (rows_of 8 unsigned docs bytes)
column_of types.Bytes docs bytes = columns.Bytes (term_column_of docs bytes)
column_of types.Str docs bytes = columns.Str (term_column_of docs bytes)
column_of types.Bool docs bytes = columns.Bool (rows_of 8 truth docs bytes)
column_of types.IpAddr docs bytes = columns.IpAddr (rows_of 16 address docs bytes)
column_of types.DateTime docs bytes = columns.DateTime (rows_of 8 signed docs bytes)

-- a column in its bytes: what it reads as, and how many they are
pub record StoredColumn : Type 0 where
  pub column : DynamicColumn
  pub size : ℕ

abbrev pub stored_column : ColumnType → ℕ → List ℕ → StoredColumn
stored_column type docs bytes = record { column = column_of type docs bytes; size = length bytes }

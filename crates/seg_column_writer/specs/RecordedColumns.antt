-- What was declared and recorded, as columns of documents.
use Rattle.std.specs.Prelude.{◌≡◌, ℕ, ◌==◌, ◌||◌, List, [], ◌∷◌, ◌++◌, map, filter, Bool, true, false, Option, None, Some, if◌then◌else◌, not, is_some}
use Rattle.std.specs.List.{flat_map, range_with_len}
use Rattle.std.specs.Ordering.{nat_cmp, int_cmp, is_gt}
use Rattle.std.specs.Cmp.Lexicographic.{slice_cmp}
use Rattle.std.specs.declared.cmp.Ordering.{Ordering}
use Rattle.std.specs.declared.cmp.Ordering.TheVariants.{Equal}
use Rattle.std.specs.Option.{option_or}
use Rattle.seg_column_format.specs.SchemaColumns.{has_values}
use Rattle.seg_common.specs.declared.column_type.ColumnType.{ColumnType}
use Rattle.seg_common.specs.declared.column_type.ColumnType.TheVariants as types
use Rattle.seg_common.specs.MappableValues.{bit}
use Rattle.seg_model.specs.Columns.{ColumnKey, ColumnValue, Columns, number, bytes_value, text_value, boolean_value, ip_value, date_value, column_named, columns_from, free_number_type}
use Rattle.seg_column_writer.specs.ValueKinds.{kind_of}
use Rattle.seg_column_writer.specs.ColumnRecords.{ColumnRecord, Recording, is_named}
use Rattle.seg_column_format.specs.ValuesByRow.{Rise}
use Rattle.seg_column_writer.specs.declared.value_kind.ValueKind.{ValueKind}
use Rattle.seg_column_writer.specs.declared.value_kind.ValueKind.TheVariants.{Number, Bytes, Str, Bool as Boolean, IpAddr, DateTime}

-- ---- the values of rows

-- numbers and moments by their size, texts, bytes and addresses in byte order, false before true
abbrev pub value_cmp : ColumnValue → ColumnValue → Ordering
value_cmp (number x) (number y) = int_cmp x y
value_cmp (bytes_value x) (bytes_value y) = slice_cmp nat_cmp x y
value_cmp (text_value x) (text_value y) = slice_cmp nat_cmp x y
value_cmp (boolean_value x) (boolean_value y) = nat_cmp (bit x) (bit y)
value_cmp (ip_value x) (ip_value y) = slice_cmp nat_cmp x y
value_cmp (date_value x) (date_value y) = int_cmp x y
value_cmp _ _ = Equal

-- a value put before the first that isn't below it
abbrev pub put_in_order : ColumnValue → List ColumnValue → List ColumnValue
put_in_order v [] = v ∷ []
put_in_order v (w ∷ ws) = if is_gt (value_cmp v w) then w ∷ put_in_order v ws else v ∷ w ∷ ws

abbrev pub in_order : List ColumnValue → List ColumnValue
in_order [] = []
in_order (v ∷ vs) = put_in_order v (in_order vs)

-- the values of a row, in order where that is asked
abbrev pub row_values : Recording → ℕ → List ColumnValue
row_values r row =
    if r.sorts then in_order (map (λ v. v.value) (filter (λ v. v.row == row) r.values))
    else map (λ v. v.value) (filter (λ v. v.row == row) r.values)

-- and those of this many rows
abbrev pub rows_in : ℕ → Recording → List (List ColumnValue)
rows_in count r = map (row_values r) (range_with_len 0 count)

-- ---- columns

-- all types of column
abbrev pub all_types : List ColumnType
all_types = types.I64 ∷ types.U64 ∷ types.Bytes ∷ types.Str ∷ types.Bool ∷ types.IpAddr ∷ types.DateTime ∷ []

-- the keys of columns with given types
abbrev pub keys_with : List ℕ → List ColumnType → List ColumnKey
keys_with path types = map (λ type. record { path = path; type = type }) types

-- the columns that are declared
abbrev pub declared_in : List ColumnRecord → List ColumnKey
declared_in columns = flat_map (λ c. column_named c.path c.recording.declared) columns

-- the columns that there may be: of each path each type
abbrev pub keys_in : List ColumnRecord → List ColumnKey
keys_in columns = flat_map (λ c. keys_with c.path all_types) columns

-- the values of each row at a key
abbrev pub rows_at : ℕ → List ColumnRecord → ColumnKey → List (List ColumnValue)
rows_at count [] key = map (λ _. []) (range_with_len 0 count)
rows_at count (c ∷ cs) key =
    if is_named key.path (kind_of key.type) c then rows_in count c.recording else rows_at count cs key

-- the columns of this many rows: undefined where the numbers of a path have no type
abbrev pub recorded_columns : ℕ → List ColumnRecord → Option Columns
recorded_columns count columns = columns_from (declared_in columns) (rows_at count columns)
    (declared_in columns ++ keys_in columns)

-- ---- the column of a record

-- a column is there where it is declared or has a value
abbrev pub is_there : Recording → Bool
is_there r = is_some r.declared || has_values r.values

-- the type of values of a kind, if they have one
abbrev pub type_of_values : ValueKind → List ColumnValue → Option ColumnType
type_of_values Number values = free_number_type (values ∷ [])
type_of_values Bytes values = Some types.Bytes
type_of_values Str values = Some types.Str
type_of_values Boolean values = Some types.Bool
type_of_values IpAddr values = Some types.IpAddr
type_of_values DateTime values = Some types.DateTime

-- the declared type, or that of the values
abbrev pub column_type_of : Recording → Option ColumnType
column_type_of r = option_or r.declared (type_of_values r.kind (map (λ v. v.value) r.values))

-- a declared type is of the kind
abbrev pub IsOfKind : ValueKind → Option ColumnType → Type 0
IsOfKind kind None = Unit {0}
IsOfKind kind (Some t) = kind_of t ≡ kind

-- what holds of all that is recorded in a column
pub record IsRecorded (r : Recording) : Type 0 where
  pub kind : IsOfKind r.kind r.declared
  pub rise : Rise (λ v. v.row) 0 r.values

-- whether its numbers have no type
abbrev pub lacks_type : Recording → Bool
lacks_type r = not (is_some (column_type_of r))

-- a column of a type
abbrev pub typed_entry : ℕ → ColumnRecord → Option ColumnType → List (ColumnKey × List (List ColumnValue))
typed_entry count c None = []
typed_entry count c (Some type) = (record { path = c.path; type = type }, rows_in count c.recording) ∷ []

-- the column of a record, with the rows that it has in a file
abbrev pub entry_of : ℕ → ColumnRecord → List (ColumnKey × List (List ColumnValue))
entry_of count c = if is_there c.recording then typed_entry count c (column_type_of c.recording) else []

-- those of all columns, in the order in which they came
abbrev pub entries_in : ℕ → List ColumnRecord → List (ColumnKey × List (List ColumnValue))
entries_in count columns = flat_map (entry_of count) columns

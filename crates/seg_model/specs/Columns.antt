-- The columns of documents: the values that are ready by path, type and document.
use Rattle.std.specs.Prelude.{ℕ, ◌^◌, List, [], ◌∷◌, ◌++◌, map, filter, Option, Some, None, nat_eq, nat_le, nat_lt, Bool, true, false, ◌||◌, ◌&&◌, not, ℤ, pos, negsuc, if◌then◌else◌}
use Rattle.std.specs.List.{flat_map, list_any, list_all}
use Rattle.std.specs.Ordering.{nat_cmp, on, then_cmp, is_gt}
use Rattle.std.specs.declared.cmp.Ordering.{Ordering}
use Rattle.std.specs.Cmp.Lexicographic.{slice_cmp}
use Rattle.std.specs.FinMap.{FinMap}
use Rattle.seg_tokens.specs.declared.token.Token.{Token}
use Rattle.seg_common.specs.declared.column_type.ColumnType.{ColumnType}
use Rattle.seg_common.specs.declared.column_type.ColumnType.TheVariants.{I64, U64, Bytes, Str, Bool as Boolean, IpAddr, DateTime}
use Rattle.seg_common.specs.DateUnits.{cut_to, nanos_in_second, precision_unit}
use Rattle.seg_values.specs.declared.schema.FieldEntry.{FieldEntry}
use Rattle.seg_values.specs.declared.schema.FieldKind.{FieldKind}
use Rattle.seg_values.specs.declared.schema.FieldKind.TheVariants as kinds
use Rattle.seg_values.specs.Tree.{Leaf, null, text, pre_tokenized, unsigned, signed, boolean, date, facet, byte_string, ip, Tree, Document}
use Rattle.seg_model.specs.Fields.{Schema, Analyzer, is_text, is_json, fields, values_of}
use Rattle.seg_model.specs.Leaves.{PlacedLeaf, leaves_of, joined_path}
use Rattle.seg_common.specs.TabulatedMaps.{tabulated, is_among}

-- a value in a column; the columns I64 and U64 both have numbers
pub data ColumnValue : Type 0 where
  number : ℤ → ColumnValue
  bytes_value : List ℕ → ColumnValue
  text_value : List ℕ → ColumnValue
  boolean_value : Bool → ColumnValue
  ip_value : List ℕ → ColumnValue
  date_value : ℤ → ColumnValue

-- where a column is
pub record ColumnKey : Type 0 where
  pub path : List ℕ
  pub type : ColumnType

-- the place of a type in the order of types
abbrev pub type_place : ColumnType → ℕ
type_place I64 = 0
type_place U64 = 1
type_place Bytes = 2
type_place Str = 3
type_place Boolean = 4
type_place IpAddr = 5
type_place DateTime = 6

-- by the bytes of the path, and then by type
abbrev pub column_cmp : ColumnKey → ColumnKey → Ordering
column_cmp = then_cmp (on (λ k. k.path) (slice_cmp nat_cmp)) (on (λ k. type_place k.type) nat_cmp)

-- each column with the list of values of each document
abbrev pub Columns : Type 0
Columns = FinMap column_cmp (List (List ColumnValue))

-- ---- what a document records

-- a value that is recorded under a path
pub record FastValue : Type 0 where
  pub path : List ℕ
  pub value : ColumnValue

-- the text of each token
abbrev pub token_texts : List Token → List ColumnValue
token_texts tokens = map (λ t. text_value t.text) tokens

-- a text is one value, or one per token of the fast tokenizer
abbrev pub fast_texts : Analyzer → Option (List ℕ) → List ℕ → List ColumnValue
fast_texts analyzer None s = text_value s ∷ []
fast_texts analyzer (Some name) s = token_texts (analyzer name s)

-- the values of a leaf, with its moment cut; null has none, a pre-tokenized text one per token
abbrev pub leaf_values : Analyzer → Option (List ℕ) → (ℤ → ℤ) → Leaf → List ColumnValue
leaf_values analyzer tokenizer cut null = []
leaf_values analyzer tokenizer cut (text s) = fast_texts analyzer tokenizer s
leaf_values analyzer tokenizer cut (pre_tokenized p) = token_texts p.tokens
leaf_values analyzer tokenizer cut (unsigned n) = number (pos n) ∷ []
leaf_values analyzer tokenizer cut (signed z) = number z ∷ []
leaf_values analyzer tokenizer cut (boolean b) = boolean_value b ∷ []
leaf_values analyzer tokenizer cut (date nanos) = date_value (cut nanos) ∷ []
leaf_values analyzer tokenizer cut (facet encoded) = text_value encoded ∷ []
leaf_values analyzer tokenizer cut (byte_string b) = bytes_value b ∷ []
leaf_values analyzer tokenizer cut (ip octets) = ip_value octets ∷ []

-- the fast tokenizer of a fast text or JSON field; in other fields a text is one value
abbrev pub column_tokenizer : FieldEntry → Option (List ℕ)
column_tokenizer entry = if entry.fast && (is_text entry.kind || is_json entry.kind) then entry.fast_tokenizer else None

-- the values of a field with a declared column: its arrays are walked
abbrev pub declared_values : Analyzer → FieldEntry → List Tree → List ColumnValue
declared_values analyzer entry values =
    flat_map (λ p. leaf_values analyzer (column_tokenizer entry) (cut_to (precision_unit entry.precision)) p.leaf)
    (leaves_of values)

-- the text of a value
abbrev pub value_text : ColumnValue → List ℕ
value_text (text_value s) = s
value_text _ = []

-- a value put before the first that is not below it
abbrev pub inserted : ColumnValue → List ColumnValue → List ColumnValue
inserted v [] = v ∷ []
inserted v (w ∷ ws) = if is_gt (slice_cmp nat_cmp (value_text v) (value_text w)) then w ∷ inserted v ws else v ∷ w ∷ ws

-- values in the byte order of their texts
abbrev pub sorted : List ColumnValue → List ColumnValue
sorted [] = []
sorted (v ∷ vs) = inserted v (sorted vs)

-- the path of a leaf of a JSON field: the field's name, and below an object a byte 1 and the joined path
abbrev pub json_column_path : FieldEntry → List (List ℕ) → List ℕ
json_column_path entry [] = entry.name
json_column_path entry (key ∷ keys) = entry.name ++ 1 ∷ joined_path entry.expand_dots (key ∷ keys)

-- a moment outside any object is cut to seconds, one below an object not at all
abbrev pub json_cut : List (List ℕ) → ℤ → ℤ
json_cut [] nanos = cut_to nanos_in_second nanos
json_cut (key ∷ keys) nanos = nanos

-- a leaf of a JSON field; below level 20 nothing is recorded
abbrev pub json_leaf_values : Analyzer → FieldEntry → PlacedLeaf → List FastValue
json_leaf_values analyzer entry p =
    if nat_le p.level 20
    then map (λ v. record { path = json_column_path entry p.keys; value = v })
    (leaf_values analyzer entry.fast_tokenizer (json_cut p.keys) p.leaf)
    else []

-- values under the name of their field
abbrev pub under_name : FieldEntry → List ColumnValue → List FastValue
under_name entry values = map (λ v. record { path = entry.name; value = v }) values

-- what the values of a field record; those of a facet field are sorted
abbrev pub kind_fast_values : FieldKind → Analyzer → FieldEntry → List Tree → List FastValue
kind_fast_values kinds.Json analyzer entry values = flat_map (json_leaf_values analyzer entry) (leaves_of values)
kind_fast_values kinds.Facet analyzer entry values = under_name entry (sorted (declared_values analyzer entry values))
kind_fast_values _ analyzer entry values = under_name entry (declared_values analyzer entry values)

-- what the values of a fast field record
abbrev pub field_fast_values : Analyzer → Document → ℕ × FieldEntry → List FastValue
field_fast_values analyzer document f =
    if f.1.fast then kind_fast_values f.1.kind analyzer f.1 (values_of f.0 document) else []

-- what a document records, field by field
abbrev pub fast_values : Schema → Analyzer → Document → List FastValue
fast_values schema analyzer document = flat_map (field_fast_values analyzer document) (fields schema)

-- ---- declared columns

-- the type of the column that a fast field of a kind has; JSON fields have none of their own
abbrev pub declared_type : FieldKind → Option ColumnType
declared_type kinds.Text = Some Str
declared_type kinds.U64 = Some U64
declared_type kinds.I64 = Some I64
declared_type kinds.Bool = Some Boolean
declared_type kinds.Date = Some DateTime
declared_type kinds.Facet = Some Str
declared_type kinds.Bytes = Some Bytes
declared_type kinds.IpAddr = Some IpAddr
declared_type kinds.Json = None

-- the key of a column under a name, where it has a type
abbrev pub column_named : List ℕ → Option ColumnType → List ColumnKey
column_named name None = []
column_named name (Some type) = record { path = name; type = type } ∷ []

-- the columns that a schema declares: they are there without any value
abbrev pub declared_columns : Schema → List ColumnKey
declared_columns schema = flat_map (λ e. if e.fast then column_named e.name (declared_type e.kind) else []) schema

-- ---- which columns there are

-- whether a schema declares a column
abbrev pub is_declared : List ColumnKey → ColumnKey → Bool
is_declared declared key = is_among column_cmp declared key

-- the types of column in which a value may be
abbrev pub value_types : ColumnValue → List ColumnType
value_types (number z) = I64 ∷ U64 ∷ []
value_types (bytes_value b) = Bytes ∷ []
value_types (text_value s) = Str ∷ []
value_types (boolean_value b) = Boolean ∷ []
value_types (ip_value a) = IpAddr ∷ []
value_types (date_value z) = DateTime ∷ []

-- the keys of the columns in which a recorded value may be
abbrev pub value_keys : FastValue → List ColumnKey
value_keys v = map (λ type. record { path = v.path; type = type }) (value_types v.value)

-- the values that a document records at a key; at I64 and at U64 all numbers of the path
abbrev pub values_at : ColumnKey → List FastValue → List ColumnValue
values_at key values = map (λ v. v.value) (filter (λ v. is_among column_cmp (value_keys v) key) values)

-- a number from -2^63 to 2^63 - 1, or no number
abbrev pub fits_i64 : ColumnValue → Bool
fits_i64 (number (pos n)) = nat_lt n (2 ^ 63)
fits_i64 (number (negsuc n)) = nat_lt n (2 ^ 63)
fits_i64 _ = true

-- a number from 0 on, or no number
abbrev pub is_not_negative : ColumnValue → Bool
is_not_negative (number (negsuc n)) = false
is_not_negative _ = true

-- the type of the numbers of a path that is not declared: I64 where all fit, else U64 where none is negative, else none
abbrev pub free_number_type : List (List ColumnValue) → Option ColumnType
free_number_type rows =
    if list_all (list_all fits_i64) rows then Some I64
    else (if list_all (list_all is_not_negative) rows then Some U64
    else None)

-- the type of the numbers of a path: the declared one, else by the values
abbrev pub number_type : List ColumnKey → List ℕ → List (List ColumnValue) → Option ColumnType
number_type declared path rows =
    if is_declared declared (record { path = path; type = I64 }) then Some I64
    else (if is_declared declared (record { path = path; type = U64 }) then Some U64
    else free_number_type rows)

-- a type of numbers
abbrev pub is_number : ColumnType → Bool
is_number I64 = true
is_number U64 = true
is_number _ = false

-- whether this type is the one that there is
abbrev pub is_type : ColumnType → Option ColumnType → Bool
is_type type None = false
is_type type (Some other) = nat_eq (type_place type) (type_place other)

-- rows without values
abbrev pub without_values : List (List ColumnValue) → List (List ColumnValue)
without_values rows = map (λ _. []) rows

-- the rows of a column: numbers are in the one column of their type
abbrev pub rows_of : List ColumnKey → ColumnKey → List (List ColumnValue) → List (List ColumnValue)
rows_of declared key rows =
    if not (is_number key.type) || is_type key.type (number_type declared key.path rows)
    then rows else without_values rows

-- a row with a value
abbrev pub is_filled : List ColumnValue → Bool
is_filled [] = false
is_filled (v ∷ vs) = true

-- a column is there where it is declared or has a value
abbrev pub if_there : Bool → List (List ColumnValue) → Option (List (List ColumnValue))
if_there declared rows = if declared || list_any is_filled rows then Some rows else None

-- the column at a key, from all that the documents record there
abbrev pub column_at : List ColumnKey → ColumnKey → List (List ColumnValue) → Option (List (List ColumnValue))
column_at declared key rows = if_there (is_declared declared key) (rows_of declared key rows)

-- whether the numbers of a path have no type
abbrev pub is_mixed : List ColumnKey → ColumnKey → List (List ColumnValue) → Bool
is_mixed declared key rows = is_number key.type
    && not (is_type I64 (number_type declared key.path rows) || is_type U64 (number_type declared key.path rows))

-- the columns at some keys, from what the documents record at each: undefined where the numbers of a path have no type
abbrev pub columns_from : List ColumnKey → (ColumnKey → List (List ColumnValue)) → List ColumnKey → Option Columns
columns_from declared rows_at keys =
    if list_any (λ k. is_mixed declared k (rows_at k)) keys then None
    else Some (tabulated (λ k. column_at declared k (rows_at k)) keys)

-- the columns of documents that record these values, besides declared columns
abbrev pub columns_of : List ColumnKey → List (List FastValue) → Option Columns
columns_of declared documents =
    columns_from declared (λ key. map (values_at key) documents) (declared ++ flat_map (flat_map value_keys) documents)

-- the columns of documents
abbrev pub columns : Schema → Analyzer → List Document → Option Columns
columns schema analyzer documents = columns_of (declared_columns schema) (map (fast_values schema analyzer) documents)

-- The lines of columns.
use Rattle.std.specs.Prelude.{ℕ, ◌+◌, List, [], ◌∷◌, ◌++◌, Bool, true, false, codes, decimal}
use Rattle.std.specs.FinMap.{entries}
use Rattle.std.specs.List.{flat_map}
use Rattle.json.specs.Print.{quoted}
use Rattle.serde_json.specs.Written.{compact_text}
use Rattle.seg_common.specs.declared.column_type.ColumnType.{ColumnType}
use Rattle.seg_common.specs.declared.column_type.ColumnType.TheVariants as types
use Rattle.seg_values.specs.Tree.{Leaf, text, signed, boolean, date, byte_string, ip}
use Rattle.seg_values.specs.ValueJson.{leaf_json}
use Rattle.seg_model.specs.Columns.{ColumnValue, Columns, number, bytes_value, text_value, boolean_value, ip_value, date_value}

-- a value as a leaf; a facet is its encoded text
abbrev pub leaf_of : ColumnValue → Leaf
leaf_of (number z) = signed z
leaf_of (bytes_value b) = byte_string b
leaf_of (text_value s) = text s
leaf_of (boolean_value b) = boolean b
leaf_of (ip_value a) = ip a
leaf_of (date_value z) = date z

-- a value as JSON
abbrev pub printed_value : ColumnValue → List ℕ
printed_value v = compact_text (leaf_json (leaf_of v))

-- before a value: ` ID:` at the first of a document, and a comma at others
abbrev pub mark_text : Bool → ℕ → List ℕ
mark_text false id = 32 ∷ (decimal id ++ 58 ∷ [])
mark_text true id = 44 ∷ []

-- values of a document; where it has none, nothing
abbrev pub values_text : Bool → ℕ → List ColumnValue → List ℕ
values_text later id [] = []
values_text later id (v ∷ vs) = mark_text later id ++ (printed_value v ++ values_text true id vs)

-- those of documents of which the first has the id `first`
abbrev pub rows_text : ℕ → List (List ColumnValue) → List ℕ
rows_text first [] = []
rows_text first (row ∷ rows) = values_text false first row ++ rows_text (first + 1) rows

abbrev pub type_text : ColumnType → List ℕ
type_text types.I64 = codes "I64"
type_text types.U64 = codes "U64"
type_text types.Bytes = codes "Bytes"
type_text types.Str = codes "Str"
type_text types.Bool = codes "Bool"
type_text types.IpAddr = codes "IpAddr"
type_text types.DateTime = codes "DateTime"

-- `column PATH TYPE`, and ` ID:V,V` for each document with values
abbrev pub column_line : List ℕ → ColumnType → List (List ColumnValue) → List ℕ
column_line path type rows =
    codes "column " ++ (quoted path ++ 32 ∷ (type_text type ++ (rows_text 0 rows ++ 10 ∷ [])))

-- a line for each column, in order of path and type
abbrev pub columns_text : Columns → List ℕ
columns_text columns = flat_map (λ c. column_line c.0.path c.0.type c.1) (entries columns)

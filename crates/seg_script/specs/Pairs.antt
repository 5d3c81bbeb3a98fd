-- A field with its value, that a JSON value says.
use Rattle.std.specs.Prelude.{ℕ, List, if◌then◌else◌, Option, Some, None, option_map, unwrap_or, codes}
use Rattle.std.specs.List.{slice_get}
use Rattle.std.specs.Map.{lookup}
use Rattle.std.specs.Str.{bytes_eq}
use Rattle.serde_json.specs.Data.{Data, array, Items, no_items, item}
use Rattle.serde_json.specs.Find.{as_str}
use Rattle.seg_values.specs.declared.schema.FieldEntry.{FieldEntry}
use Rattle.seg_values.specs.declared.schema.FieldKind.{FieldKind}
use Rattle.seg_values.specs.declared.schema.FieldKind.TheVariants.{Json}
use Rattle.seg_values.specs.Tree.{Tree, leaf, pre_tokenized}
use Rattle.seg_meta.specs.ParsedMetaParts.{kinds}
use Rattle.seg_meta.specs.JsonReaders.{given}
use Rattle.seg_script_values.specs.TokenizedTexts.{tokenized_from}
use Rattle.seg_script_values.specs.Trees.{tree_from}
use Rattle.seg_script.specs.declared.reading.Reading.{Reading}
use Rattle.seg_script.specs.declared.reading.Reading.TheVariants.{ByKind, WithTokens}
use Rattle.seg_script.specs.Fields.{field_or_past}

-- two values, and a third where it is there
abbrev pub two_or_three : Items → Option (Data × Data × Option Data)
two_or_three (item a (item b no_items)) = Some (a, b, None)
two_or_three (item a (item b (item c no_items))) = Some (a, b, Some c)
two_or_three _ = None

-- the kind of a field that the schema has
abbrev pub kind_of : List FieldEntry → ℕ → Option FieldKind
kind_of schema field = option_map (λ (e : FieldEntry). e.kind) (slice_get schema field)

-- `tokens`, or the word for a kind
abbrev pub reading_named : List ℕ → Option Reading
reading_named word = if bytes_eq word (codes "tokens") then Some WithTokens
    else option_map ByKind (lookup (bytes_eq word) kinds)

-- as the word says in a field that the schema has, by the kind JSON in another one
abbrev pub reading_in : Option FieldKind → Reading → Reading
reading_in None named = ByKind Json
reading_in (Some kind) named = named

-- how a value is read: as the word says, where one is there, or else by the field's kind
abbrev pub reading_of : Option FieldKind → Option Data → Option Reading
reading_of kind None = Some (ByKind (unwrap_or kind Json))
reading_of kind (Some word) = option_map (reading_in kind) (given (as_str word) reading_named)

-- the tree of a value
abbrev pub tree_by : Reading → Data → Option Tree
tree_by (ByKind kind) d = tree_from kind d
tree_by WithTokens d = option_map (λ p. leaf (pre_tokenized p)) (tokenized_from d)

-- `[name, value]` or `[name, value, word]`
abbrev pub pair_from : List FieldEntry → Data → Option (ℕ × Tree)
pair_from schema (array ds) =
    given (two_or_three ds) (λ p.
    given (as_str p.0) (λ name.
    let field = field_or_past schema name in
    given (reading_of (kind_of schema field) p.2) (λ reading.
    option_map (λ t. (field, t)) (tree_by reading p.1))))
pair_from schema _ = None

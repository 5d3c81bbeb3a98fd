-- A document as a JSON object: each name of a field that occurs, with the field's values.
use Rattle.std.specs.Prelude.{ℕ, ◌+◌, nat_eq, nat_lt, List, [], ◌∷◌, map, filter, length, Bool, Option, Some, None}
use Rattle.std.specs.List.{list_all}
use Rattle.serde_json.specs.Data as json
use Rattle.serde_json.specs.Data.{Data, Items, put}
use Rattle.serde_json.specs.Find.{get_member}
use Rattle.seg_values.specs.Schemas.{Schema}
use Rattle.seg_values.specs.Tree.{Tree, Document, trees_from}
use Rattle.seg_values.specs.ValueJson.{items_json}

-- the values of a field, in order
abbrev pub values_of : ℕ → Document → List Tree
values_of field document = map (λ p. p.1) (filter (λ p. nat_eq field p.0) document)

-- the member of a field that occurs
abbrev pub put_values : List ℕ → List Tree → json.Members → json.Members
put_values name [] members = members
put_values name (t ∷ ts) members = put name (json.array (items_json (trees_from (t ∷ ts)))) members

-- the members of the fields from this one on
abbrev pub fields_json : ℕ → Schema → Document → json.Members
fields_json field [] document = json.no_members
fields_json field (e ∷ es) document = put_values e.name (values_of field document) (fields_json (field + 1) es document)

-- the object of all fields that occur, in the order of their names
abbrev pub document_object : Schema → Document → Data
document_object schema document = json.object (fields_json 0 schema document)

-- the schema has each field that occurs
abbrev pub has_fields : Schema → Document → Bool
has_fields schema document = list_all (λ p. nat_lt p.0 (length schema)) document

-- items, and one more
abbrev pub with_last : Items → Data → Items
with_last json.no_items d = json.item d json.no_items
with_last (json.item x xs) d = json.item x (with_last xs d)

-- a list, and one more item; where there is none, the item alone
abbrev pub grown : Option Data → Data → Data
grown None d = json.array (json.item d json.no_items)
grown (Some json.null) d = json.null
grown (Some (json.boolean b)) d = json.boolean b
grown (Some (json.number n)) d = json.number n
grown (Some (json.string s)) d = json.string s
grown (Some (json.array ds)) d = json.array (with_last ds d)
grown (Some (json.object ms)) d = json.object ms

-- members, and one more item in the list of a name
abbrev pub with_item : List ℕ → Data → json.Members → json.Members
with_item name d members = put name (grown (get_member name members) d) members

-- The lines of the stored documents.
use Rattle.std.specs.Prelude.{ℕ, ◌+◌, List, [], ◌∷◌, ◌++◌, slice_get, codes, decimal, unwrap_or, option_map}
use Rattle.serde_json.specs.Data.{Data, string, array, Items, no_items, item}
use Rattle.serde_json.specs.Written.{compact_text}
use Rattle.seg_values.specs.Tree.{Tree, Document}
use Rattle.seg_model.specs.Fields.{Schema}
use Rattle.seg_values.specs.ValueJson.{value_json}

-- the name of a field, which is empty where the schema has no such field
abbrev pub name_at : Schema → ℕ → List ℕ
name_at schema field = unwrap_or (option_map (λ entry. entry.name) (slice_get schema field)) []

-- `[name, value]`
abbrev pub pair_json : Schema → ℕ × Tree → Data
pair_json schema pair = array (item (string (name_at schema pair.0)) (item (value_json pair.1) no_items))

-- the pairs, in order
abbrev pub pairs_items : Schema → Document → Items
pairs_items schema [] = no_items
pairs_items schema (p ∷ ps) = item (pair_json schema p) (pairs_items schema ps)

-- the list of a document's pairs
abbrev pub document_json : Schema → Document → Data
document_json schema document = array (pairs_items schema document)

-- `doc ID LIST`
abbrev pub document_line : Schema → ℕ → Document → List ℕ
document_line schema id document = codes "doc "
    ++ (decimal id ++ 32 ∷ (compact_text (document_json schema document) ++ 10 ∷ []))

-- documents of which the first has the id `first`
abbrev pub documents_from : Schema → ℕ → List Document → List ℕ
documents_from schema first [] = []
documents_from schema first (d ∷ ds) = document_line schema first d ++ documents_from schema (first + 1) ds

-- all documents, from id 0 on
abbrev pub documents_text : Schema → List Document → List ℕ
documents_text schema documents = documents_from schema 0 documents

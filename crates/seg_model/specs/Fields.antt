-- Fields of a schema, and the values that a document has in one.
use Rattle.std.specs.Prelude.{ℕ, Bool, true, false, ◌&&◌, ◌||◌, if◌then◌else◌, List, map, filter, nat_eq, unwrap_or, codes}
use Rattle.std.specs.List.{enumerate_from}
use Rattle.seg_tokens.specs.declared.token.Token.{Token}
use Rattle.seg_values.specs.declared.schema.FieldEntry.{FieldEntry}
use Rattle.seg_values.specs.declared.schema.FieldKind.{FieldKind}
use Rattle.seg_values.specs.declared.schema.FieldKind.TheVariants.{Text, Facet, Json}
pub use Rattle.seg_values.specs.IndexedFields.{is_on, is_indexed, has_lengths}
use Rattle.seg_values.specs.Tree.{Tree, Document}
pub use Rattle.seg_values.specs.Schemas.{Schema, is_field}

-- the tokens that the analyzer with a name gives of a text
abbrev pub Analyzer : Type 0
Analyzer = List ℕ → List ℕ → List Token

-- a kind of field: texts
abbrev pub is_text : FieldKind → Bool
is_text Text = true
is_text _ = false

-- a kind of field: JSON
abbrev pub is_json : FieldKind → Bool
is_json Json = true
is_json _ = false

-- a kind of field: facets
abbrev pub is_facet : FieldKind → Bool
is_facet Facet = true
is_facet _ = false

-- the named tokenizer of an indexed text or JSON field, else `default`
abbrev pub indexing_tokenizer : FieldEntry → List ℕ
indexing_tokenizer entry = if is_indexed entry && (is_text entry.kind || is_json entry.kind)
    then unwrap_or entry.tokenizer (codes "default") else codes "default"

-- the values of a field, in the document's order
abbrev pub values_of : ℕ → Document → List Tree
values_of field document = map (λ p. p.1) (filter (λ p. nat_eq field p.0) document)

-- each field with its entry
abbrev pub fields : Schema → List (ℕ × FieldEntry)
fields schema = enumerate_from 0 schema

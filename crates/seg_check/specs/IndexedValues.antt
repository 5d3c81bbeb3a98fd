-- The values of a document in indexed fields, each as what it gives to its field.
use Rattle.std.specs.Prelude.{◌≡◌, ℕ, List, [], map, filter, Bool, Option, Some, None, IfSome}
use Rattle.std.specs.List.{slice_get}
use Rattle.seg_values.specs.declared.schema.FieldEntry.{FieldEntry}
use Rattle.seg_values.specs.declared.schema.FieldKind.{FieldKind}
use Rattle.seg_values.specs.declared.schema.FieldKind.TheVariants.{Text, Json}
use Rattle.seg_tokens.specs.declared.token.Token.{Token}
use Rattle.seg_values.specs.Tree.{Tree, Document}
use Rattle.seg_model.specs.DocumentCheck.{tree_refusal}
use Rattle.seg_model.specs.Fields.{Schema, Analyzer, is_indexed, is_field, indexing_tokenizer}
use Rattle.seg_model.specs.Leaves as model
use Rattle.seg_model.specs.Occurrences.{value_tokens, value_terms}
use Rattle.seg_check.specs.declared.indexed_value.IndexedValue.{IndexedValue}
use Rattle.seg_check.specs.declared.indexed_value.ValueForm.{ValueForm}
use Rattle.seg_check.specs.declared.indexed_value.ValueForm.TheVariants.{Cut, PreTokenized, Leaves, Whole}
use Rattle.seg_check.specs.LeafContents.{LeafContent, leaf_contents, with_texts}
use Rattle.seg_check.specs.Paths.{at_path}

-- what a value gives to its field: the tokens of a text, the leaves of a JSON value, or terms at position 0
pub data IndexedContent : Type 0 where
  tokens : List Token → IndexedContent
  leaves : List (List ℕ × LeafContent) → IndexedContent
  terms : List (List ℕ) → IndexedContent

-- what a value gives by its form
abbrev pub content_by : ValueForm → Tree → IndexedContent
content_by (Cut ts) value = tokens ts
content_by PreTokenized value = tokens (value_tokens (λ _. []) value)
content_by (Leaves expand_dots texts) value =
    leaves (with_texts texts.items (map (at_path expand_dots) (model.leaves value)))
content_by Whole value = terms (value_terms value)

-- what a value of a kind gives that was cut into tokens or not, and whose leaves have these texts
abbrev pub content_from : FieldKind → Bool → Option (List Token) → List (List Token) → Tree → IndexedContent
content_from Text expand_dots (Some ts) texts value = tokens ts
content_from Text expand_dots None texts value = tokens (value_tokens (λ _. []) value)
content_from Json expand_dots cut texts value =
    leaves (with_texts texts (map (at_path expand_dots) (model.leaves value)))
content_from _ expand_dots cut texts value = terms (value_terms value)

-- what the value of a pair gives, if it is there
abbrev pub content_there : ValueForm → Option (ℕ × Tree) → IndexedContent
content_there form None = terms []
content_there form (Some p) = content_by form p.1

-- a value of a document: its field, and what it gives
abbrev pub value_in : Document → IndexedValue → ℕ × IndexedContent
value_in document v = (v.field, content_there v.form (slice_get document v.at))

-- a value by its form has no key with a byte 0, where it gives its leaves
abbrev pub HasPlainKeys : ValueForm → Tree → Type 0
HasPlainKeys (Leaves expand_dots texts) value = tree_refusal value ≡ None
HasPlainKeys _ value = Unit {0}

-- a form gives what a value was cut into, or the texts of its leaves, and is of a value that has such keys
pub record IsFormOf (entry : FieldEntry) (cut : Option (List Token)) (texts : List (List Token))
    (form : ValueForm) : Type 0 where
  pub content : (value : Tree) → content_by form value ≡ content_from entry.kind entry.expand_dots cut texts value
  pub keys : (value : Tree) → (entry.kind ≡ Json → tree_refusal value ≡ None) → HasPlainKeys form value

-- and so the value of a pair, if it is there
abbrev pub IsPlainIn : Document → IndexedValue → Type 0
IsPlainIn document v = IfSome (slice_get document v.at) (λ p. HasPlainKeys v.form p.1)

-- what a value of a field of a kind gives
abbrev pub kind_content : FieldKind → Bool → (List ℕ → List Token) → Tree → IndexedContent
kind_content Text expand_dots analyze value = tokens (value_tokens analyze value)
kind_content Json expand_dots analyze value = leaves (leaf_contents expand_dots analyze value)
kind_content _ expand_dots analyze value = terms (value_terms value)

-- what a value of a field gives
abbrev pub content_of : Analyzer → FieldEntry → Tree → IndexedContent
content_of analyzer entry value =
    kind_content entry.kind entry.expand_dots (analyzer (indexing_tokenizer entry)) value

-- what a value of a field gives, if that is in the schema
abbrev pub content_at : Analyzer → Tree → Option FieldEntry → IndexedContent
content_at analyzer value None = terms []
content_at analyzer value (Some entry) = content_of analyzer entry value

-- the pairs of a document in indexed fields
abbrev pub indexed_part : Schema → Document → Document
indexed_part schema document = filter (λ p. is_field is_indexed (slice_get schema p.0)) document

module _ (schema : Schema) (analyzer : Analyzer) where
  -- a pair of a document as its field, and what it gives
  abbrev pub value_of : ℕ × Tree → ℕ × IndexedContent
  value_of p = (p.0, content_at analyzer p.1 (slice_get schema p.0))

  -- the values of a document in such fields, in its order
  abbrev pub document_values : Document → List (ℕ × IndexedContent)
  document_values document = map value_of (indexed_part schema document)

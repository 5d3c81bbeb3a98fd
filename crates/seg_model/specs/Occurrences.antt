-- Where the terms of a field occur in a document.
use Rattle.std.specs.Prelude.{ℕ, zero, suc, ◌+◌, List, [], ◌∷◌, ◌++◌, map, filter, length, max, nat_le, Bool, if◌then◌else◌, Option, Some, None}
use Rattle.std.specs.List.{flat_map, list_any, slice_get}
use Rattle.std.specs.Str.{bytes_eq}
use Rattle.seg_tokens.specs.declared.token.Token.{Token}
use Rattle.seg_values.specs.declared.schema.FieldEntry.{FieldEntry}
use Rattle.seg_values.specs.declared.schema.FieldKind.TheVariants.{Text, Json}
use Rattle.seg_values.specs.declared.schema.FieldKind.{FieldKind}
use Rattle.seg_values.specs.Tree.{Leaf, text, pre_tokenized, facet, Tree, leaf, array, object, Document}
pub use Rattle.seg_values.specs.JsonTerms.{coded_value}
use Rattle.seg_values.specs.ValueBytes.{value_bytes}
use Rattle.seg_model.specs.Fields.{Schema, Analyzer, is_indexed, indexing_tokenizer, values_of}
use Rattle.seg_model.specs.Leaves.{PlacedLeaf, leaves_of, joined_path}

-- one occurrence of a term: its value bytes, and its position
pub record Occurrence : Type 0 where
  pub bytes : List ℕ
  pub position : ℕ

-- the tokens that give terms: a token of more than 65,530 bytes gives none, and moves nothing
abbrev pub counted : List Token → List Token
counted tokens = filter (λ t. nat_le (length t.text) 65530) tokens

-- the greatest of `start` and all `start` + position + position length
abbrev pub reach : ℕ → List Token → ℕ
reach start [] = start
reach start (t ∷ ts) = max (start + t.position + t.position_length) (reach start ts)

-- the running start after a value that begins at `start`
abbrev pub start_after : ℕ → List Token → ℕ
start_after start tokens = 1 + reach start (counted tokens)

-- the running start after some values, of which the first begins at `start`
abbrev pub start_after_all : ℕ → List (List Token) → ℕ
start_after_all start [] = start
start_after_all start (tokens ∷ values) = start_after_all (start_after start tokens) values

-- the occurrences in a value that begins at `start`, each with these bytes before its own
abbrev pub placed_from : ℕ → List ℕ → List Token → List Occurrence
placed_from start prefix tokens =
    map (λ t. record { bytes = prefix ++ t.text; position = start + t.position }) (counted tokens)

-- the occurrences in the values of a text field, of which the first begins at `start`
abbrev pub text_occurrences : ℕ → List (List Token) → List Occurrence
text_occurrences start [] = []
text_occurrences start (tokens ∷ values) = placed_from start [] tokens
    ++ text_occurrences (start_after start tokens) values

-- the encoded texts of a facet's prefixes, of which `before` came first: one ends before each byte 0, one at the end
abbrev pub prefixes_from : List ℕ → List ℕ → List (List ℕ)
prefixes_from before [] = before ∷ []
prefixes_from before (zero ∷ rest) = before ∷ prefixes_from (before ++ 0 ∷ []) rest
prefixes_from before (suc b ∷ rest) = prefixes_from (before ++ suc b ∷ []) rest

-- the encoded text of each prefix of a facet's steps; the first is empty, and the root has no other
abbrev pub facet_prefixes : List ℕ → List (List ℕ)
facet_prefixes [] = [] ∷ []
facet_prefixes (b ∷ encoded) = [] ∷ prefixes_from [] (b ∷ encoded)

-- a term at position 0
abbrev pub at_zero : List ℕ → Occurrence
at_zero bytes = record { bytes = bytes; position = 0 }

-- the tokens of a leaf of a text field
abbrev pub leaf_tokens : (List ℕ → List Token) → Leaf → List Token
leaf_tokens analyze (text s) = analyze s
leaf_tokens analyze (pre_tokenized p) = p.tokens
leaf_tokens analyze _ = []

-- the tokens of a value of a text field
abbrev pub value_tokens : (List ℕ → List Token) → Tree → List Token
value_tokens analyze (leaf l) = leaf_tokens analyze l
value_tokens analyze (array ts) = []
value_tokens analyze (object ms) = []

-- the terms of a leaf of a field that is neither text nor JSON
abbrev pub leaf_terms : Leaf → List (List ℕ)
leaf_terms (facet encoded) = facet_prefixes encoded
leaf_terms l = value_bytes l ∷ []

-- the terms of a value of a field that is neither text nor JSON
abbrev pub value_terms : Tree → List (List ℕ)
value_terms (leaf l) = leaf_terms l
value_terms (array ts) = []
value_terms (object ms) = []

-- the text of a text leaf
abbrev pub leaf_text : Leaf → List (List ℕ)
leaf_text (text s) = s ∷ []
leaf_text _ = []

-- the text leaves of one joined path, each as its tokens
abbrev pub texts_at : Bool → (List ℕ → List Token) → List ℕ → List PlacedLeaf → List (List Token)
texts_at expand_dots analyze path found =
    flat_map (λ p. if bytes_eq path (joined_path expand_dots p.keys) then map analyze (leaf_text p.leaf) else []) found

-- the occurrences of a leaf of a JSON field, whose texts begin at `start`: path, byte 0, type code, value bytes
abbrev pub leaf_occurrences : (List ℕ → List Token) → List ℕ → ℕ → Leaf → List Occurrence
leaf_occurrences analyze path start (text s) = placed_from start (path ++ 0 ∷ 115 ∷ []) (analyze s)
leaf_occurrences analyze path start l = map (λ coded. at_zero (path ++ 0 ∷ coded)) (coded_value l)

-- the occurrences of JSON leaves, of which `before` came first: a text begins where the texts of its joined path end
abbrev pub json_occurrences : Bool → (List ℕ → List Token) → List PlacedLeaf → List PlacedLeaf → List Occurrence
json_occurrences expand_dots analyze before [] = []
json_occurrences expand_dots analyze before (p ∷ found) =
    let path = joined_path expand_dots p.keys in
    leaf_occurrences analyze path (start_after_all 0 (texts_at expand_dots analyze path before)) p.leaf
    ++ json_occurrences expand_dots analyze (before ++ p ∷ []) found

-- the occurrences in the values of a field of a kind
abbrev pub kind_occurrences : FieldKind → Bool → (List ℕ → List Token) → List Tree → List Occurrence
kind_occurrences Text expand_dots analyze values = text_occurrences 0 (map (value_tokens analyze) values)
kind_occurrences Json expand_dots analyze values = json_occurrences expand_dots analyze [] (leaves_of values)
kind_occurrences _ expand_dots analyze values = map at_zero (flat_map value_terms values)

-- the occurrences in the values of an indexed field
abbrev pub field_occurrences : Analyzer → FieldEntry → List Tree → List Occurrence
field_occurrences analyzer entry values =
    if is_indexed entry
    then kind_occurrences entry.kind entry.expand_dots (analyzer (indexing_tokenizer entry)) values else []

-- the occurrences of a document in a field of the schema
abbrev pub occurrences_at : Analyzer → Document → ℕ → Option FieldEntry → List Occurrence
occurrences_at analyzer document field None = []
occurrences_at analyzer document field (Some entry) = field_occurrences analyzer entry (values_of field document)

-- the occurrences of a document in a field
abbrev pub occurrences : Schema → Analyzer → Document → ℕ → List Occurrence
occurrences schema analyzer document field = occurrences_at analyzer document field (slice_get schema field)

-- whether a document has a term, a field with value bytes
abbrev pub has_term : Schema → Analyzer → Document → ℕ → List ℕ → Bool
has_term schema analyzer document field bytes = list_any (λ o. bytes_eq bytes o.bytes)
    (occurrences schema analyzer document field)

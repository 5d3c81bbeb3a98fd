-- The check of a document to be added: four passes over its pairs, of which the first to find something answers.
use Rattle.std.specs.Prelude.{ℕ, ◌+◌, ◌^◌, List, [], ◌∷◌, map, filter, length, Option, Some, None, Bool, true, false, ◌&&◌, ◌||◌, ◌==◌, nat_le, nat_lt, if◌then◌else◌, ◌≡◌}
use Rattle.std.specs.List.{slice_get, list_all, flat_map}
use Rattle.std.specs.Option.{option_or, option_map}
use Rattle.std.specs.Str.{bytes_eq}
use Rattle.seg_tokens.specs.declared.token.Token.{Token}
use Rattle.seg_values.specs.declared.schema.FieldEntry.{FieldEntry}
use Rattle.seg_values.specs.declared.schema.FieldKind.{FieldKind}
use Rattle.seg_values.specs.declared.schema.FieldKind.TheVariants as kinds
use Rattle.seg_values.specs.declared.error.ArgumentCause.TheVariants as argument
use Rattle.seg_values.specs.declared.error.SchemaCause.TheVariants as schema_cause
use Rattle.seg_values.specs.declared.error.TantivyError.{TantivyError}
use Rattle.seg_values.specs.declared.error.TantivyError.TheVariants.{SchemaError, InvalidArgument}
use Rattle.seg_values.specs.Tree.{Leaf, pre_tokenized, facet, byte_string, ip, Tree, leaf, array, object, Trees, no_trees, tree, Members, no_members, member, levels, Document}
use Rattle.seg_values.specs.Utf8Values.{IsUtf8Document}
use Rattle.seg_model.specs.Fields.{Schema, Analyzer, is_json, is_indexed, indexing_tokenizer, values_of, fields}
use Rattle.seg_model.specs.Leaves.{PlacedLeaf, leaves, leaves_of, joined_path}
use Rattle.seg_model.specs.AcceptedTrees.{takes}
use Rattle.seg_values.specs.StoredBytes.{most_levels_read, stored_form}
use Rattle.seg_model.specs.Occurrences.{counted, start_after_all, value_tokens, leaf_text, texts_at}

-- why a document is not taken: the error, given the place at which the document is added
abbrev pub Cause : Type 0
Cause = ℕ → TantivyError

abbrev pub unknown_field : Cause
unknown_field at = SchemaError (schema_cause.UnknownField at)

abbrev pub wrong_value : ℕ → Cause
wrong_value field at = SchemaError (schema_cause.WrongValue at field)

abbrev pub json_leaf : Cause
json_leaf at = InvalidArgument (argument.JsonLeaf at)

abbrev pub json_key : Cause
json_key at = InvalidArgument (argument.JsonKey at)

abbrev pub positions_fall : Cause
positions_fall at = InvalidArgument (argument.Positions at)

abbrev pub past_limit : Cause
past_limit at = InvalidArgument (argument.Limit at)

-- the error of a document at a place, if it is not taken
abbrev pub at_place : ℕ → Option Cause → Option TantivyError
at_place at cause = option_map (λ (c : Cause). c at) cause

-- the first answer that there is
abbrev pub first_of : {X R : Type 0} → (X → Option R) → List X → Option R
first_of f [] = None
first_of f (x ∷ xs) = option_or (f x) (first_of f xs)

-- a refusal where a test fails
abbrev pub unless : {R : Type 0} → Bool → R → Option R
unless true r = None
unless false r = Some r

-- ---- the first pass: fields, and the trees that they take

-- the refusal of a value of a field: there is no such field, or the field does not take it
abbrev pub value_refusal : ℕ → Tree → Option FieldEntry → Option Cause
value_refusal field t None = Some unknown_field
value_refusal field t (Some entry) = unless (takes entry t) (wrong_value field)

-- ---- the second pass: the leaves and keys of JSON fields

-- a leaf that a JSON field may have: none of facets, bytes, addresses and pre-tokenized texts
abbrev pub is_json_leaf : Leaf → Bool
is_json_leaf (pre_tokenized p) = false
is_json_leaf (facet s) = false
is_json_leaf (byte_string b) = false
is_json_leaf (ip a) = false
is_json_leaf _ = true

-- no byte is 0
abbrev pub has_no_zero : List ℕ → Bool
has_no_zero [] = true
has_no_zero (b ∷ bs) = if b == 0 then false else has_no_zero bs

-- from left to right, a key before its value
abbrev mutual
  pub tree_refusal : Tree → Option Cause
  tree_refusal (leaf l) = unless (is_json_leaf l) json_leaf
  tree_refusal (array ts) = trees_refusal ts
  tree_refusal (object ms) = members_refusal ms

  pub trees_refusal : Trees → Option Cause
  trees_refusal no_trees = None
  trees_refusal (tree t ts) = option_or (tree_refusal t) (trees_refusal ts)

  pub members_refusal : Members → Option Cause
  members_refusal no_members = None
  members_refusal (member key t ms) = option_or (unless (has_no_zero key) json_key)
      (option_or (tree_refusal t) (members_refusal ms))

-- a JSON field that is indexed or fast
abbrev pub is_checked_json : FieldEntry → Bool
is_checked_json entry = is_json entry.kind && (is_indexed entry || entry.fast)

-- the refusal of a value of a field, where that is a JSON field that is indexed or fast
abbrev pub json_refusal : Tree → Option FieldEntry → Option Cause
json_refusal t None = None
json_refusal t (Some entry) = if is_checked_json entry then tree_refusal t else None

-- ---- the third pass: positions in indexed texts

-- positions never decrease
abbrev pub is_rising : List Token → Bool
is_rising [] = true
is_rising (t ∷ []) = true
is_rising (t ∷ u ∷ ts) = nat_le t.position u.position && is_rising (u ∷ ts)

-- the texts of a value of an indexed field, each as its tokens
abbrev pub value_texts : FieldKind → (List ℕ → List Token) → Tree → List (List Token)
value_texts kinds.Text analyze t = value_tokens analyze t ∷ []
value_texts kinds.Json analyze t = flat_map (λ p. map analyze (leaf_text p.leaf)) (leaves t)
value_texts _ analyze t = []

-- the refusal of a value of a field, where that is indexed and the positions in one of its texts decrease
abbrev pub positions_refusal : Analyzer → Tree → Option FieldEntry → Option Cause
positions_refusal analyzer t None = None
positions_refusal analyzer t (Some entry) =
    if is_indexed entry
    then unless
    (list_all (λ tokens. is_rising (counted tokens)) (value_texts entry.kind (analyzer (indexing_tokenizer entry)) t))
    positions_fall
    else None

-- ---- the fourth pass: limits

-- a number below 2^32
abbrev pub is_u32 : ℕ → Bool
is_u32 n = nat_lt n (2 ^ 32)

-- how many tokens of some texts are counted
abbrev pub count_of : List (List Token) → ℕ
count_of [] = 0
count_of (tokens ∷ texts) = length (counted tokens) + count_of texts

-- the running start after some texts, their tokens and their number
abbrev pub texts_fit : List (List Token) → Bool
texts_fit texts = is_u32 (start_after_all 0 texts) && is_u32 (count_of texts) && is_u32 (length texts)

-- the leaves of one joined path
abbrev pub leaves_with_path : Bool → List ℕ → List PlacedLeaf → List PlacedLeaf
leaves_with_path expand_dots path found = filter (λ p. bytes_eq path (joined_path expand_dots p.keys)) found

-- the texts and the leaves of a joined path
abbrev pub path_fits : Bool → (List ℕ → List Token) → List PlacedLeaf → List ℕ → Bool
path_fits expand_dots analyze found path = texts_fit (texts_at expand_dots analyze path found)
    && is_u32 (length (leaves_with_path expand_dots path found))

-- the texts of a text field; of JSON each joined path, and the tokens of the field
abbrev pub kind_fits : FieldKind → Bool → (List ℕ → List Token) → List Tree → Bool
kind_fits kinds.Text expand_dots analyze values = texts_fit (map (value_tokens analyze) values)
kind_fits kinds.Json expand_dots analyze values =
    list_all (λ p. path_fits expand_dots analyze (leaves_of values) (joined_path expand_dots p.keys)) (leaves_of values)
    && is_u32 (count_of (flat_map (value_texts kinds.Json analyze) values))
kind_fits _ expand_dots analyze values = true

-- the values of an indexed field are within the limits
abbrev pub field_fits : Analyzer → Document → ℕ × FieldEntry → Bool
field_fits analyzer document f =
    if is_indexed f.1
    then is_u32 (length (values_of f.0 document))
    && kind_fits f.1.kind f.1.expand_dots (analyzer (indexing_tokenizer f.1)) (values_of f.0 document)
    else true

-- within the limits: those of each field, of the bytes that are stored, and of the levels
abbrev pub is_within_limits : Schema → Analyzer → Document → Bool
is_within_limits schema analyzer document =
    list_all (field_fits analyzer document) (fields schema) && is_u32 (length (stored_form schema document))
    && list_all (λ p. nat_le (levels p.1) most_levels_read) document

-- ---- all passes

-- the first pass
abbrev pub fields_refusal : Schema → Document → Option Cause
fields_refusal schema document = first_of (λ p. value_refusal p.0 p.1 (slice_get schema p.0)) document

-- the second pass
abbrev pub leaves_refusal : Schema → Document → Option Cause
leaves_refusal schema document = first_of (λ p. json_refusal p.1 (slice_get schema p.0)) document

-- the third pass
abbrev pub order_refusal : Schema → Analyzer → Document → Option Cause
order_refusal schema analyzer document = first_of (λ p. positions_refusal analyzer p.1 (slice_get schema p.0)) document

-- the fourth pass
abbrev pub limit_refusal : Schema → Analyzer → Document → Option Cause
limit_refusal schema analyzer document = unless (is_within_limits schema analyzer document) past_limit

-- why a document is not taken, if it is not
abbrev pub document_refusal : Schema → Analyzer → Document → Option Cause
document_refusal schema analyzer document =
    option_or (fields_refusal schema document)
    (option_or (leaves_refusal schema document)
    (option_or (order_refusal schema analyzer document)
    (limit_refusal schema analyzer document)))

-- a document that passes the first two passes, with texts
pub record IsSound (schema : Schema) (document : Document) : Type 0 where
  pub taken : fields_refusal schema document ≡ None
  pub json : leaves_refusal schema document ≡ None
  pub utf8 : IsUtf8Document document

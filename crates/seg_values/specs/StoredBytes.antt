-- The bytes that a document is stored as.
use Rattle.std.specs.Prelude.{ℕ, suc, List, [], ◌∷◌, ◌++◌, length}
use Rattle.std.specs.List.{flat_map}
use Rattle.std.specs.Int.{w64, to_le_bytes, cast_unsigned}
use Rattle.seg_common.specs.Varint.{varint}
use Rattle.seg_tokens.specs.declared.token.Token.{Token}
use Rattle.seg_values.specs.Tree.{Leaf, null, text, pre_tokenized, unsigned, signed, boolean, date, facet, byte_string, ip, Tree, leaf, array, object, Trees, no_trees, tree, Members, no_members, member, Document}
use Rattle.seg_values.specs.Schemas.{Schema}
use Rattle.seg_values.specs.ValueBytes.{bit}
use Rattle.seg_values.specs.StoredDocuments.{stored_document}

-- how many levels are read
abbrev pub most_levels_read : ℕ
most_levels_read = 200

-- bytes after their number
abbrev pub sized : List ℕ → List ℕ
sized bytes = varint (length bytes) ++ bytes

-- a token: its byte range, its position, how many positions it spans, and its text
abbrev pub token_form : Token → List ℕ
token_form t = varint t.offset_from
    ++ (varint t.offset_to ++ (varint t.position ++ (varint t.position_length ++ sized t.text)))

-- a tag, and what it is the tag of: numbers in 8 bytes little endian, an address as its octets
abbrev pub leaf_form : Leaf → List ℕ
leaf_form null = 0 ∷ []
leaf_form (text s) = 1 ∷ sized s
leaf_form (pre_tokenized p) = 2 ∷ (sized p.text ++ (varint (length p.tokens) ++ flat_map token_form p.tokens))
leaf_form (unsigned n) = 3 ∷ to_le_bytes w64 n
leaf_form (signed z) = 4 ∷ to_le_bytes w64 (cast_unsigned w64 z)
leaf_form (boolean b) = 6 ∷ bit b ∷ []
leaf_form (date nanos) = 7 ∷ to_le_bytes w64 (cast_unsigned w64 nanos)
leaf_form (facet encoded) = 8 ∷ sized encoded
leaf_form (byte_string b) = 9 ∷ sized b
leaf_form (ip octets) = 12 ∷ octets

-- how many trees an array has
abbrev pub tree_count : Trees → ℕ
tree_count no_trees = 0
tree_count (tree t ts) = suc (tree_count ts)

-- how many members an object has
abbrev pub member_count : Members → ℕ
member_count no_members = 0
member_count (member key t ms) = suc (member_count ms)

-- a tree: a leaf, or a tag, the number of its parts, and these one after another
abbrev mutual
  pub tree_form : Tree → List ℕ
  tree_form (leaf l) = leaf_form l
  tree_form (array ts) = 10 ∷ (varint (tree_count ts) ++ tree_forms ts)
  tree_form (object ms) = 11 ∷ (varint (member_count ms) ++ member_forms ms)

  pub tree_forms : Trees → List ℕ
  tree_forms no_trees = []
  tree_forms (tree t ts) = tree_form t ++ tree_forms ts

  pub member_forms : Members → List ℕ
  member_forms no_members = []
  member_forms (member key t ms) = sized key ++ (tree_form t ++ member_forms ms)

-- a field, and its value
abbrev pub pair_form : ℕ × Tree → List ℕ
pair_form p = varint p.0 ++ tree_form p.1

-- the number of pairs, and these one after another
abbrev pub document_form : Document → List ℕ
document_form document = varint (length document) ++ flat_map pair_form document

-- the bytes that a document is stored as: those of its stored pairs
abbrev pub stored_form : Schema → Document → List ℕ
stored_form schema document = document_form (stored_document schema document)

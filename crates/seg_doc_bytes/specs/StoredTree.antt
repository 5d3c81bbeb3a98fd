-- Trees as they are stored: a tag, and what it is the tag of.
use Rattle.std.specs.Prelude.{ℕ, zero, suc, ◌==◌, if◌then◌else◌, Bool, true, false, List, [], ◌∷◌, Some, None}
use Rattle.std.specs.Int.{w64, cast_signed}
use Rattle.seg_common.specs.Varint.{varint_at}
use Rattle.seg_tokens.specs.declared.token.Token.{Token}
use Rattle.seg_values.specs.Tree.{Leaf, null, text, pre_tokenized, unsigned, signed, boolean, date, facet, byte_string, ip, Tree, leaf, array, object, trees_from, members_from}
use Rattle.seg_doc_bytes.specs.FrontReaders.{Reader, then_read, made_of, counted_at, front, sized_at, text_at, small_at, number_at}

-- a token: its byte range, its position, how many positions it spans, and its text
abbrev pub token_at : Reader Token
token_at bytes =
    then_read (varint_at bytes) (λ from rest1.
    then_read (varint_at rest1) (λ to rest2.
    then_read (small_at rest2) (λ position rest3.
    then_read (small_at rest3) (λ span rest4.
    then_read (text_at rest4) (λ text after. Some (
      record { offset_from = from; offset_to = to; position = position; position_length = span; text = text },
      after,
    ))))))

-- a text with its tokens
abbrev pub pre_tokenized_at : Reader Leaf
pre_tokenized_at bytes = then_read (text_at bytes) (λ text rest.
    then_read (counted_at token_at rest) (λ tokens after.
    Some (pre_tokenized (record { text = text; tokens = tokens }), after)))

-- a byte 0 or 1
abbrev pub bit_at : Reader Bool
bit_at [] = None
bit_at (b ∷ rest) = if b == 0 then Some (false, rest) else if b == 1 then Some (true, rest) else None

-- a leaf after its tag
abbrev pub leaf_at : ℕ → Reader Leaf
leaf_at tag bytes =
    if tag == 0 then Some (null, bytes) else
    if tag == 1 then made_of text (text_at bytes) else
    if tag == 2 then pre_tokenized_at bytes else
    if tag == 3 then made_of unsigned (number_at bytes) else
    if tag == 4 then made_of (λ n. signed (cast_signed w64 n)) (number_at bytes) else
    if tag == 6 then made_of boolean (bit_at bytes) else
    if tag == 7 then made_of (λ n. date (cast_signed w64 n)) (number_at bytes) else
    if tag == 8 then made_of facet (text_at bytes) else
    if tag == 9 then made_of byte_string (sized_at bytes) else
    if tag == 12 then made_of ip (front 16 bytes) else None

-- a key with its tree
abbrev pub member_at : Reader Tree → Reader (List ℕ × Tree)
member_at inner bytes = then_read (text_at bytes)
    (λ key rest. then_read (inner rest) (λ t after. Some ((key, t), after)))

-- a tree, of which `inner` reads the trees below
abbrev pub tree_at : Reader Tree → Reader Tree
tree_at inner [] = None
tree_at inner (tag ∷ bytes) =
    if tag == 10 then made_of (λ ts. array (trees_from ts)) (counted_at inner bytes) else
    if tag == 11 then made_of (λ ms. object (members_from ms)) (counted_at (member_at inner) bytes) else
    made_of leaf (leaf_at tag bytes)

-- a tree of at most this many levels
unfoldable pub stored_tree_at : ℕ → Reader Tree
stored_tree_at zero bytes = None
stored_tree_at (suc levels) bytes = tree_at (stored_tree_at levels) bytes

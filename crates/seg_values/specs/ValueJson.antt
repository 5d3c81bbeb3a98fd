-- The JSON form of a value.
use Rattle.std.specs.Prelude.{ℕ, ℤ, pos, negsuc, List, [], ◌∷◌, codes}
use Rattle.base64.specs.Engines.{standard}
use Rattle.base64.specs.GeneralPurpose.{encode_of}
use Rattle.serde_json.specs.Data as json
use Rattle.serde_json.specs.Data.{Data, Items, put}
use Rattle.seg_common.specs.DateText.{date_text}
use Rattle.seg_tokens.specs.declared.token.Token.{Token}
use Rattle.seg_values.specs.AddressText.{address_text}
use Rattle.seg_values.specs.Facets.{path_of}
use Rattle.seg_values.specs.Tree.{Leaf, null, text, pre_tokenized, unsigned, signed, boolean, date, facet, byte_string, ip, Tree, leaf, array, object, Trees, no_trees, tree, Members, no_members, member}

-- a natural number
abbrev pub unsigned_json : ℕ → Data
unsigned_json n = json.number (json.unsigned n)

-- an integer, by its sign
abbrev pub signed_json : ℤ → Data
signed_json (pos n) = json.number (json.unsigned n)
signed_json (negsuc n) = json.number (json.negative (negsuc n))

-- a token: its members in byte order
abbrev pub token_json : Token → Data
token_json t =
    json.object (json.member (codes "offset_from") (unsigned_json t.offset_from)
    (json.member (codes "offset_to") (unsigned_json t.offset_to)
    (json.member (codes "position") (unsigned_json t.position)
    (json.member (codes "position_length") (unsigned_json t.position_length)
    (json.member (codes "text") (json.string t.text) json.no_members)))))

-- tokens, in order
abbrev pub tokens_items : List Token → Items
tokens_items [] = json.no_items
tokens_items (t ∷ ts) = json.item (token_json t) (tokens_items ts)

-- bytes are standard base64 with padding; an address, a moment and a facet are texts
abbrev pub leaf_json : Leaf → Data
leaf_json null = json.null
leaf_json (text s) = json.string s
leaf_json (pre_tokenized p) = json.object (json.member (codes "text") (json.string p.text)
    (json.member (codes "tokens") (json.array (tokens_items p.tokens)) json.no_members))
leaf_json (unsigned n) = unsigned_json n
leaf_json (signed z) = signed_json z
leaf_json (boolean b) = json.boolean b
leaf_json (date nanos) = json.string (date_text nanos)
leaf_json (facet encoded) = json.string (path_of encoded)
leaf_json (byte_string bytes) = json.string (encode_of standard bytes)
leaf_json (ip octets) = json.string (address_text octets)

-- a tree: a leaf, a list or an object
abbrev mutual
  pub value_json : Tree → Data
  value_json (leaf l) = leaf_json l
  value_json (array ts) = json.array (items_json ts)
  value_json (object ms) = json.object (members_json json.no_members ms)

  pub items_json : Trees → Items
  items_json no_trees = json.no_items
  items_json (tree t ts) = json.item (value_json t) (items_json ts)

  -- these members put into those before them, so of equal keys the last stays, and keys are in byte order
  pub members_json : json.Members → Members → json.Members
  members_json before no_members = before
  members_json before (member key t ms) = members_json (put key (value_json t) before) ms

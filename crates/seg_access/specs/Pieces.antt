-- Pieces, and the trees that they spell.
use Rattle.std.specs.Prelude.{◌≡◌, ℕ, List, [], ◌∷◌, ◌++◌}
use Rattle.std.specs.Net.Addr.{ipv6_octets}
pub use Rattle.seg_values.specs.StoredBytes.{member_count, tree_count}
use Rattle.seg_values.specs.Tree.{Tree, Leaf, leaf, array, object, null, text, pre_tokenized, unsigned, signed, boolean, date, facet, byte_string, ip, Trees, no_trees, tree, Members, no_members, member, Document}
use Rattle.seg_access.specs.JsonTrees.{whole}
use Rattle.seg_access.specs.declared.pieces.Piece.{Piece}
use Rattle.seg_access.specs.declared.pieces.Piece.TheVariants.{Null, Str, PreTokStr, U64, I64, Bool, Date, Facet, Bytes, IpAddr, Array, Object, Key, FieldOf}

-- what a piece says: a leaf, how many values or members follow, a key or a field; `unknown` is no part of a tree
pub data Mark : Type 0 where
  value : Leaf → Mark
  values : ℕ → Mark
  members : ℕ → Mark
  key : List ℕ → Mark
  field : ℕ → Mark
  unknown : Mark

abbrev pub mark_of : Piece → Mark
mark_of Null = value null
mark_of (Str s) = value (text s)
mark_of (PreTokStr p) = value (pre_tokenized p)
mark_of (U64 n) = value (unsigned n)
mark_of (I64 z) = value (signed z)
mark_of (Bool b) = value (boolean b)
mark_of (Date z) = value (date z)
mark_of (Facet s) = value (facet s)
mark_of (Bytes b) = value (byte_string b)
mark_of (IpAddr a) = value (ip (ipv6_octets a))
mark_of (Array n) = values n
mark_of (Object n) = members n
mark_of (Key s) = key s
mark_of (FieldOf f) = field f

-- the pieces of a tree: a leaf; the number of values and then each; the number of members and then each key with its value
abbrev mutual
  pub spelling : Tree → List Mark
  spelling (leaf l) = value l ∷ []
  spelling (array ts) = values (tree_count ts) ∷ spellings ts
  spelling (object ms) = members (member_count ms) ∷ member_spellings ms

  pub spellings : Trees → List Mark
  spellings no_trees = []
  spellings (tree t ts) = spelling t ++ spellings ts

  pub member_spellings : Members → List Mark
  member_spellings no_members = []
  member_spellings (member k t ms) = key k ∷ (spelling t ++ member_spellings ms)

-- no tree is spelled from the first piece on
abbrev pub SpellsNone : List Mark → Type 0
SpellsNone marks = (t : Tree) (rest : List Mark) → marks ≡ spelling t ++ rest → ⊥

-- the first piece is no key
abbrev pub SpellsNoKey : List Mark → Type 0
SpellsNoKey marks = (k : List ℕ) (rest : List Mark) → marks ≡ key k ∷ rest → ⊥

-- not this many values are spelled from the first piece on
abbrev pub SpellsNoValues : ℕ → List Mark → Type 0
SpellsNoValues count marks = (ts : Trees) (rest : List Mark) → tree_count ts ≡ count → marks ≡ spellings ts ++ rest → ⊥

abbrev pub SpellsNoMembers : ℕ → List Mark → Type 0
SpellsNoMembers count marks = (ms : Members) (rest : List Mark) → member_count ms ≡ count
    → marks ≡ member_spellings ms ++ rest → ⊥

-- what a leaf says to JSON: whole numbers have one type, and a leaf that JSON lacks says nothing
abbrev pub json_value : Leaf → Mark
json_value null = value null
json_value (text s) = value (text s)
json_value (unsigned n) = value (whole n)
json_value (signed z) = value (signed z)
json_value (boolean b) = value (boolean b)
json_value (pre_tokenized p) = unknown
json_value (date z) = unknown
json_value (facet s) = unknown
json_value (byte_string b) = unknown
json_value (ip a) = unknown

abbrev pub json_mark : Mark → Mark
json_mark (value l) = json_value l
json_mark (values n) = values n
json_mark (members n) = members n
json_mark (key s) = key s
json_mark (field f) = field f
json_mark unknown = unknown

-- the pieces of a document: each field and then its value
abbrev pub document_spelling : Document → List Mark
document_spelling [] = []
document_spelling (p ∷ ps) = field p.0 ∷ (spelling p.1 ++ document_spelling ps)

-- they are not the pieces of a document
abbrev pub SpellsNoDocument : List Mark → Type 0
SpellsNoDocument marks = (document : Document) → marks ≡ document_spelling document → ⊥

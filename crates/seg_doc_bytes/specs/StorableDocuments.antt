-- What the types give: numbers that fit, texts in UTF-8, and sizes below 2^64.
use Rattle.std.specs.Prelude.{◌≡◌, ◌<◌, ◌≤◌, ◌^◌, ℕ, true, List, length, IsUtf8, FitsSigned}
use Rattle.std.specs.List.{AllByRecursion}
use Rattle.std.specs.Int.{w64}
use Rattle.seg_tokens.specs.declared.token.Token.{Token}
use Rattle.seg_values.specs.Tree.{Leaf, null, text, pre_tokenized, unsigned, signed, boolean, date, facet, byte_string, ip, Tree, leaf, array, object, Trees, no_trees, tree, Members, no_members, member, levels, Document}
use Rattle.seg_values.specs.StoredBytes.{tree_count, member_count}
use Rattle.seg_doc_bytes.specs.StoredDocument.{is_top, most_levels_read}

-- a text
pub record IsText (bytes : List ℕ) : Type 0 where
  pub utf8 : IsUtf8 bytes
  pub small : length bytes < 2 ^ 64

-- a token
pub record IsToken (t : Token) : Type 0 where
  pub from : t.offset_from < 2 ^ 64
  pub to : t.offset_to < 2 ^ 64
  pub position : t.position < 2 ^ 32
  pub span : t.position_length < 2 ^ 32
  pub text : IsText t.text

-- tokens, one by one
abbrev pub AreTokens : List Token → Type 0
AreTokens tokens = AllByRecursion IsToken tokens

-- a leaf
abbrev pub IsLeaf : Leaf → Type 0
IsLeaf null = Unit {0}
IsLeaf (text s) = IsText s
IsLeaf (pre_tokenized p) = IsText p.text × (length p.tokens < 2 ^ 64) × AreTokens p.tokens
IsLeaf (unsigned n) = n < 2 ^ 64
IsLeaf (signed z) = FitsSigned w64 z
IsLeaf (boolean b) = Unit {0}
IsLeaf (date z) = FitsSigned w64 z
IsLeaf (facet s) = IsText s
IsLeaf (byte_string b) = length b < 2 ^ 64
IsLeaf (ip octets) = length octets ≡ 16

-- a tree, with all below it
abbrev mutual
  pub IsStorable : Tree → Type 0
  IsStorable (leaf l) = IsLeaf l
  IsStorable (array ts) = (tree_count ts < 2 ^ 64) × AreStorable ts
  IsStorable (object ms) = (member_count ms < 2 ^ 64) × AreStorableMembers ms

  pub AreStorable : Trees → Type 0
  AreStorable no_trees = Unit {0}
  AreStorable (tree t ts) = IsStorable t × AreStorable ts

  pub AreStorableMembers : Members → Type 0
  AreStorableMembers no_members = Unit {0}
  AreStorableMembers (member key t ms) = IsText key × IsStorable t × AreStorableMembers ms

-- the fields and trees of a document, and how many they are
pub record IsStorableDocument (document : Document) : Type 0 where
  pub fields : AllByRecursion (λ p. p.0 < 2 ^ 32) document
  pub trees : AllByRecursion (λ p. IsStorable p.1) document
  pub few : length document < 2 ^ 64

-- a field with a tree, as it may be stored
pub record IsStoredPair (p : ℕ × Tree) : Type 0 where
  pub field : p.0 < 2 ^ 32
  pub storable : IsStorable p.1
  pub shallow : levels p.1 ≤ most_levels_read
  pub top : is_top p.1 ≡ true

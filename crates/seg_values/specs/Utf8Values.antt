-- Values whose texts are UTF-8.
use Rattle.std.specs.Prelude.{IsUtf8}
use Rattle.std.specs.List.{AllByRecursion}
use Rattle.seg_values.specs.Tree.{Leaf, text, pre_tokenized, facet, Tree, leaf, array, object, Trees, no_trees, tree, Members, no_members, member, Document}
use Rattle.seg_tokens.specs.Utf8Tokens.{AreUtf8Tokens}

-- bytes need not be a text, and what is no text is
abbrev pub IsUtf8Leaf : Leaf → Type 0
IsUtf8Leaf (text s) = IsUtf8 s
IsUtf8Leaf (pre_tokenized p) = IsUtf8 p.text × AreUtf8Tokens p.tokens
IsUtf8Leaf (facet s) = IsUtf8 s
IsUtf8Leaf _ = Unit {0}

-- each text and each key is
abbrev mutual
  pub IsUtf8Tree : Tree → Type 0
  IsUtf8Tree (leaf l) = IsUtf8Leaf l
  IsUtf8Tree (array ts) = AreUtf8Trees ts
  IsUtf8Tree (object ms) = AreUtf8Members ms

  pub AreUtf8Trees : Trees → Type 0
  AreUtf8Trees no_trees = Unit {0}
  AreUtf8Trees (tree t ts) = IsUtf8Tree t × AreUtf8Trees ts

  pub AreUtf8Members : Members → Type 0
  AreUtf8Members no_members = Unit {0}
  AreUtf8Members (member key t ms) = IsUtf8 key × IsUtf8Tree t × AreUtf8Members ms

-- the texts of each value are
abbrev pub IsUtf8Document : Document → Type 0
IsUtf8Document document = AllByRecursion (λ p. IsUtf8Tree p.1) document

-- The number of a value's kind.
use Rattle.std.specs.Prelude.{ℕ}
use Rattle.seg_values.specs.Tree.{Leaf, null, text, pre_tokenized, unsigned, signed, boolean, date, facet, byte_string, ip, Tree, leaf, array, object}

-- 5 was the number of floats
abbrev pub leaf_tag : Leaf → ℕ
leaf_tag null = 0
leaf_tag (text s) = 1
leaf_tag (pre_tokenized p) = 2
leaf_tag (unsigned n) = 3
leaf_tag (signed z) = 4
leaf_tag (boolean b) = 6
leaf_tag (date nanos) = 7
leaf_tag (facet encoded) = 8
leaf_tag (byte_string b) = 9
leaf_tag (ip octets) = 12

abbrev pub tag : Tree → ℕ
tag (leaf l) = leaf_tag l
tag (array ts) = 10
tag (object ms) = 11

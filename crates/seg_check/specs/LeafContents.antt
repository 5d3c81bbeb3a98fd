-- What the leaves of a JSON value give to their field.
use Rattle.std.specs.Prelude.{ℕ, List, [], ◌∷◌, map, drop, Bool}
use Rattle.std.specs.List.{slice_index_or}
use Rattle.seg_values.specs.Tree.{Leaf, text, Tree}
use Rattle.seg_tokens.specs.declared.token.Token.{Token}
use Rattle.seg_model.specs.Leaves.{leaves}
use Rattle.seg_model.specs.Occurrences.{coded_value}
use Rattle.seg_check.specs.Paths.{at_path}

-- what a leaf gives: the tokens of a text, or else its type code and value bytes, if it has these
pub data LeafContent : Type 0 where
  text_leaf : List Token → LeafContent
  coded_leaf : List (List ℕ) → LeafContent

-- what a leaf gives where texts are cut so
abbrev pub leaf_content : (List ℕ → List Token) → Leaf → LeafContent
leaf_content analyze (text s) = text_leaf (analyze s)
leaf_content analyze l = coded_leaf (coded_value l)

-- what the leaves of a value give, each with its joined path
abbrev pub leaf_contents : Bool → (List ℕ → List Token) → Tree → List (List ℕ × LeafContent)
leaf_contents expand_dots analyze value =
    map (λ (p : List ℕ × Leaf). (p.0, leaf_content analyze p.1)) (map (at_path expand_dots) (leaves value))

-- ---- texts that were cut already, in the order of the leaves

-- what a leaf gives, where a text has the first of these
abbrev pub leaf_with : List (List Token) → Leaf → LeafContent
leaf_with texts (text s) = text_leaf (slice_index_or texts 0 [])
leaf_with texts l = coded_leaf (coded_value l)

-- those of the leaves after it
abbrev pub texts_after : List (List Token) → Leaf → List (List Token)
texts_after texts (text s) = drop 1 texts
texts_after texts l = texts

-- what leaves give, each with its joined path
abbrev pub with_texts : List (List Token) → List (List ℕ × Leaf) → List (List ℕ × LeafContent)
with_texts texts [] = []
with_texts texts (p ∷ found) = (p.0, leaf_with texts p.1) ∷ with_texts (texts_after texts p.1) found

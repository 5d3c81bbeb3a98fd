-- What is stored of a document.
use Rattle.std.specs.Prelude.{map, filter}
use Rattle.std.specs.List.{slice_get}
use Rattle.seg_values.specs.Tree.{Leaf, text, pre_tokenized, Tree, leaf, array, object, Document}
use Rattle.seg_values.specs.Schemas.{Schema, is_field}

-- a leaf as it is stored: a pre-tokenized text is kept as its text
abbrev pub stored_leaf : Leaf → Leaf
stored_leaf (pre_tokenized p) = text p.text
stored_leaf l = l

-- a value as it is stored: a pre-tokenized text is kept as its text
abbrev pub stored_value : Tree → Tree
stored_value (leaf l) = leaf (stored_leaf l)
stored_value (array ts) = array ts
stored_value (object ms) = object ms

-- the pairs of stored fields, in the document's order
abbrev pub stored_document : Schema → Document → Document
stored_document schema document =
    map (λ p. (p.0, stored_value p.1)) (filter (λ p. is_field (λ e. e.stored) (slice_get schema p.0)) document)

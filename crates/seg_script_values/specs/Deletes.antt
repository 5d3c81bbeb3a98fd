-- The term that a delete names by a JSON value.
use Rattle.std.specs.Prelude.{ℕ, [], ◌∷◌, ◌++◌, List, Bool, Option, Some, None, option_map}
use Rattle.std.specs.List.{slice_get}
use Rattle.serde_json.specs.Data.{Data}
use Rattle.seg_values.specs.declared.schema.FieldKind.{FieldKind}
use Rattle.seg_values.specs.declared.schema.FieldKind.TheVariants.{Json}
use Rattle.seg_values.specs.Tree.{Leaf, text, Tree, leaf, array, object}
use Rattle.seg_values.specs.ValueBytes.{value_bytes}
use Rattle.seg_values.specs.JsonPathTexts.{path_keys}
use Rattle.seg_values.specs.JsonTerms.{coded_token, coded_value}
use Rattle.seg_model.specs.Leaves.{joined_path}
use Rattle.seg_model.specs.AcceptedTrees.{is_own_leaf}
use Rattle.seg_meta.specs.JsonReaders.{given, provided}
use Rattle.seg_script_values.specs.Trees.{tree_from}

-- the bytes of a leaf: those of a text that isn't cut, of a date in whole seconds, of a facet's one path
abbrev pub leaf_bytes : Tree → List ℕ
leaf_bytes (leaf l) = value_bytes l
leaf_bytes (array ts) = []
leaf_bytes (object ms) = []

-- of a leaf of the kind's own
abbrev pub own_bytes : FieldKind → Tree → Option (List ℕ)
own_bytes kind t = provided (is_own_leaf kind t) (Some (leaf_bytes t))

-- the term of a value in a field of a kind other than JSON
abbrev pub plain_term : FieldKind → Data → Option (List ℕ)
plain_term kind d = given (tree_from kind d) (own_bytes kind)

-- the type code and the bytes of a leaf in a JSON field; a text is one token
abbrev pub coded_leaf : Leaf → Option (List ℕ)
coded_leaf (text s) = Some (coded_token s)
coded_leaf l = slice_get (coded_value l) 0

abbrev pub coded_tree : Tree → Option (List ℕ)
coded_tree (leaf l) = coded_leaf l
coded_tree (array ts) = None
coded_tree (object ms) = None

-- the term of a value under a path in a JSON field
abbrev pub json_term : Bool → List ℕ → Data → Option (List ℕ)
json_term expand_dots path d = option_map (λ coded. joined_path expand_dots (path_keys path) ++ 0 ∷ coded)
    (given (tree_from Json d) coded_tree)

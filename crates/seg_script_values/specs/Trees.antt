-- The tree that a JSON value is, by the kind that it is read by.
use Rattle.std.specs.Prelude.{ℕ, List, [], ◌∷◌, Option, Some, option_map}
use Rattle.serde_json.specs.Data.{Data, null, boolean, number, string, array as json_array, object as json_object, Items, no_items, item, Members, no_members, member}
use Rattle.seg_values.specs.declared.schema.FieldKind.{FieldKind}
use Rattle.seg_values.specs.declared.schema.FieldKind.TheVariants.{Json}
use Rattle.seg_values.specs.Tree as tree
use Rattle.seg_values.specs.Tree.{Tree, leaf, trees_from, members_from}
use Rattle.seg_meta.specs.JsonReaders.{given}
use Rattle.seg_script_values.specs.Leaves.{text_leaf, number_leaf}

-- a value by a kind; the values of an array by the same kind, the members of an object by the kind JSON
abbrev mutual
  pub tree_from : FieldKind → Data → Option Tree
  tree_from how null = Some (leaf tree.null)
  tree_from how (boolean b) = Some (leaf (tree.boolean b))
  tree_from how (number n) = option_map leaf (number_leaf how n)
  tree_from how (string s) = Some (leaf (text_leaf how s))
  tree_from how (json_array ds) = option_map (λ ts. tree.array (trees_from ts)) (values_from how ds)
  tree_from how (json_object ms) = option_map (λ ts. tree.object (members_from ts)) (members_read ms)

  pub values_from : FieldKind → Items → Option (List Tree)
  values_from how no_items = Some []
  values_from how (item d ds) = given (tree_from how d) (λ t. option_map (λ ts. t ∷ ts) (values_from how ds))

  pub members_read : Members → Option (List (List ℕ × Tree))
  members_read no_members = Some []
  members_read (member key d ms) = given (tree_from Json d) (λ t. option_map (λ ts. (key, t) ∷ ts) (members_read ms))

-- The trees of JSON values.
use Rattle.std.specs.Prelude.{ℕ, ℤ, List, [], ◌∷◌, Option, Some, None, unwrap_or, slice_index, if◌then◌else◌}
use Rattle.std.specs.Char.{is_ascii_digit}
use Rattle.std.specs.Option.{option_map, option_or}
use Rattle.serde_json.specs.Data as json
use Rattle.serde_json.specs.Data.{Num, Data, Items}
use Rattle.serde_json.specs.Find.{as_i64, as_u64}
use Rattle.seg_common.specs.ParsedDates.{date_of}
use Rattle.seg_values.specs.declared.reading.Reading.{Reading}
use Rattle.seg_values.specs.declared.reading.Reading.TheVariants.{Plain, Telling}
use Rattle.seg_values.specs.Tree.{Leaf, null, text, unsigned, signed, boolean, date, Tree, leaf, array, object, trees_from, members_from}

-- the leaf of a whole number: a u64 where it isn't negative, or an i64 where it fits one
abbrev pub number_leaf : Reading → Num → Option Leaf
number_leaf Plain n = option_or (option_map unsigned (as_u64 n)) (option_map signed (as_i64 n))
number_leaf Telling n = option_or (option_map signed (as_i64 n)) (option_map unsigned (as_u64 n))

-- the moment that a text tells
abbrev pub told_moment : Reading → List ℕ → Option ℤ
told_moment Plain s = None
told_moment Telling s = if is_ascii_digit (slice_index s 0) then date_of s else None

-- the moment that a text tells, else the text
abbrev pub text_leaf : Reading → List ℕ → Leaf
text_leaf how s = unwrap_or (option_map date (told_moment how s)) (text s)

-- a list with one more before it, where both are there
abbrev pub put_first : {A : Type 0} → Option A → Option (List A) → Option (List A)
put_first None rest = None
put_first (Some x) rest = option_map (λ xs. x ∷ xs) rest

-- the tree of a value in which all numbers are whole
abbrev mutual
  pub tree_read : Reading → Data → Option Tree
  tree_read how json.null = Some (leaf null)
  tree_read how (json.boolean b) = Some (leaf (boolean b))
  tree_read how (json.number n) = option_map leaf (number_leaf how n)
  tree_read how (json.string s) = Some (leaf (text_leaf how s))
  tree_read how (json.array ds) = option_map (λ ts. array (trees_from ts)) (trees_read how ds)
  tree_read how (json.object ms) = option_map (λ found. object (members_from found)) (members_read how ms)

  pub trees_read : Reading → Items → Option (List Tree)
  trees_read how json.no_items = Some []
  trees_read how (json.item d ds) = put_first (tree_read how d) (trees_read how ds)

  pub members_read : Reading → json.Members → Option (List (List ℕ × Tree))
  members_read how json.no_members = Some []
  members_read how (json.member k d ms) = put_first (option_map (λ t. (k, t)) (tree_read how d)) (members_read how ms)

-- a number is unsigned, or signed where it is negative, and a text is itself
abbrev pub json_tree : Data → Option Tree
json_tree d = tree_read Plain d

-- a number is signed, or unsigned where no i64 holds it, and a text that tells a moment is a date
abbrev pub told_tree : Data → Option Tree
told_tree d = tree_read Telling d

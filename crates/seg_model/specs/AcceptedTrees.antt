-- Which trees a field takes.
use Rattle.std.specs.Prelude.{Bool, true, false, ◌&&◌, ◌||◌, if◌then◌else◌}
use Rattle.seg_values.specs.declared.schema.FieldEntry.{FieldEntry}
use Rattle.seg_values.specs.declared.schema.FieldKind.{FieldKind}
use Rattle.seg_values.specs.declared.schema.FieldKind.TheVariants.{Text, U64, I64, Bool as Boolean, Date, Facet, Bytes, IpAddr}
use Rattle.seg_values.specs.Tree.{Leaf, null, text, pre_tokenized, unsigned, signed, boolean, date, facet, byte_string, ip, Tree, leaf, array, object, Trees, no_trees, tree}
use Rattle.seg_model.specs.Fields.{is_json, is_indexed}

-- a leaf of the kind's own; a text field has pre-tokenized texts too
abbrev pub is_of_kind : FieldKind → Leaf → Bool
is_of_kind Text (text s) = true
is_of_kind Text (pre_tokenized p) = true
is_of_kind U64 (unsigned n) = true
is_of_kind I64 (signed z) = true
is_of_kind Boolean (boolean b) = true
is_of_kind Date (date z) = true
is_of_kind Facet (facet s) = true
is_of_kind Bytes (byte_string b) = true
is_of_kind IpAddr (ip a) = true
is_of_kind _ _ = false

-- the leaf without a value
abbrev pub is_null : Leaf → Bool
is_null null = true
is_null _ = false

-- what an indexed field takes: its own kind alone
abbrev pub is_own_leaf : FieldKind → Tree → Bool
is_own_leaf kind (leaf l) = is_of_kind kind l
is_own_leaf kind (array ts) = false
is_own_leaf kind (object ms) = false

-- what a field takes that is only fast: its own kind, null, and arrays of these, nested
abbrev mutual
  pub is_own_array : FieldKind → Tree → Bool
  is_own_array kind (leaf l) = is_null l || is_of_kind kind l
  is_own_array kind (array ts) = are_own_arrays kind ts
  is_own_array kind (object ms) = false

  pub are_own_arrays : FieldKind → Trees → Bool
  are_own_arrays kind no_trees = true
  are_own_arrays kind (tree t ts) = is_own_array kind t && are_own_arrays kind ts

-- whether a field takes a tree: a field that is neither indexed nor fast takes every one, and so does a JSON field
abbrev pub takes : FieldEntry → Tree → Bool
takes entry t =
    if is_json entry.kind then true
    else (if is_indexed entry then is_own_leaf entry.kind t
    else (if entry.fast then is_own_array entry.kind t
    else true))

-- What the values of fast fields record, pair by pair of a document.
use Rattle.std.specs.Prelude.{◌≡◌, ◌⊎◌, ◌<◌, ℕ, zero, suc, ℤ, List, [], ◌∷◌, map, length, true, false, Option, None, Some, if◌then◌else◌, IsSomeAnd, IfSome, IsTrue}
use Rattle.std.specs.List.{flat_map, slice_get, AllByRecursion}
use Rattle.seg_common.specs.JsonPaths.{JsonPath, written_key}
use Rattle.seg_common.specs.DateUnits.{cut_to, nanos_in_second, precision_unit}
use Rattle.seg_values.specs.declared.schema.FieldEntry.{FieldEntry}
use Rattle.seg_values.specs.Tree.{Document, Leaf, Tree}
use Rattle.seg_model.specs.Columns.{ColumnValue, FastValue, column_tokenizer, json_leaf_values, leaf_values, under_name}
use Rattle.seg_model.specs.Fields.{Analyzer, Schema, is_json}
use Rattle.seg_model.specs.Leaves.{PlacedLeaf, leaves}
use Rattle.seg_model.specs.AcceptedTrees.{takes}
use Rattle.seg_model.specs.ValidInputs.{Known, has_unknown_fast_tokenizer}

-- ---- what is recorded

-- a leaf of a fast field
abbrev pub entry_leaf : Analyzer → FieldEntry → PlacedLeaf → List FastValue
entry_leaf analyzer entry p =
    if is_json entry.kind then json_leaf_values analyzer entry p
    else under_name entry
    (leaf_values analyzer (column_tokenizer entry) (cut_to (precision_unit entry.precision)) p.leaf)

abbrev pub entry_values : Analyzer → FieldEntry → Tree → List FastValue
entry_values analyzer entry t = flat_map (entry_leaf analyzer entry) (leaves t)

-- a value of a field
abbrev pub pair_values : Analyzer → Tree → Option FieldEntry → List FastValue
pair_values analyzer t None = []
pair_values analyzer t (Some entry) = if entry.fast then entry_values analyzer entry t else []

-- a document, pair by pair; facets in the order in which they come
abbrev pub recorded_values : Schema → Analyzer → Document → List FastValue
recorded_values schema analyzer document = flat_map (λ p. pair_values analyzer p.1 (slice_get schema p.0)) document

-- ---- a leaf by its path

abbrev pub values_under : List ℕ → List ColumnValue → List FastValue
values_under path values = map (λ v. record { path = path; value = v }) values

-- in a JSON field moments outside of objects are cut to seconds, and others not at all
abbrev pub json_cut_at : ℕ → ℤ → ℤ
json_cut_at zero nanos = cut_to nanos_in_second nanos
json_cut_at (suc level) nanos = nanos

abbrev pub cut_at : FieldEntry → ℕ → ℤ → ℤ
cut_at entry level nanos =
    if is_json entry.kind then json_cut_at level nanos else cut_to (precision_unit entry.precision) nanos

abbrev pub values_of_leaf : Analyzer → FieldEntry → List ℕ → ℕ → Leaf → List FastValue
values_of_leaf analyzer entry path level leaf =
    values_under path (leaf_values analyzer (column_tokenizer entry) (cut_at entry level) leaf)

-- the path of keys of a field, as it is written
abbrev pub path_at : FieldEntry → List (List ℕ) → JsonPath
path_at entry keys = record {
  keys = entry.name ∷ map (written_key entry.expand_dots) keys;
  expand_dots = entry.expand_dots;
}

-- a place outside of objects has no keys, and one below them has some
abbrev pub IsLevelOf : List (List ℕ) → ℕ → Type 0
IsLevelOf keys level = ((keys ≡ []) × (level ≡ 0)) ⊎ ((0 < length keys) × (0 < level))

-- ---- documents that are taken

-- a value is of a field of the schema, which takes it
abbrev pub IsTaken : Schema → ℕ × Tree → Type 0
IsTaken schema p = IsSomeAnd (slice_get schema p.0) (λ e. takes e p.1 ≡ true)

abbrev pub IsKnown : Known → FieldEntry → Type 0
IsKnown known entry = IfSome (column_tokenizer entry) (λ name. IsTrue (known name))

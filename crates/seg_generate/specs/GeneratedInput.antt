-- The input that a number generates.
use Rattle.std.specs.Prelude.{ℕ, ◌+◌, ◌*◌, ◌%◌, List, [], ◌∷◌, ◌++◌, map, replicate, None}
use Rattle.std.specs.List.{flat_map, range_with_len}
use Rattle.seg_values.specs.Tree.{unsigned}
use Rattle.seg_values.specs.ValueBytes.{value_bytes}
use Rattle.seg_model.specs.Input.{Input}
pub use Rattle.seg_model.specs.Input.{default_settings as settings}
use Rattle.seg_model.specs.Operations.{Operation, add, delete}
use Rattle.seg_generate.specs.Documents.{document, schema}

-- the document that a group deletes: by the seed one of the eight of the group that is 25 before it, around the 250
abbrev pub deleted_number : ℕ → ℕ → ℕ
deleted_number seed group = 8 * ((group + 225) % 250) + seed % 8

-- a group adds the next eight documents, and then deletes one by its `id`
abbrev pub group_operations : ℕ → ℕ → List Operation
group_operations seed group =
    map (λ place. add (document (8 * group + place))) (range_with_len 0 8)
    ++ delete (record { field = 0; bytes = value_bytes (unsigned (deleted_number seed group)) }) ∷ []

-- 250 groups of nine operations, in order
unfoldable pub operations : ℕ → List Operation
operations seed = flat_map (group_operations seed) (range_with_len 0 250)

-- five batches of 50 groups
abbrev pub cuts : List ℕ
cuts = 450 ∷ 900 ∷ 1350 ∷ 1800 ∷ []

-- all of it: no batch has a filter, and the ids count up from 1
unfoldable pub generated : ℕ → Input
generated seed = record {
  schema = schema;
  settings = settings;
  operations = operations seed;
  cuts = cuts;
  filters = replicate 5 None;
  ids = range_with_len 1 6;
}

-- What every script holds.
use Rattle.std.specs.Prelude.{◌≡◌, ℕ, ◌^◌, ◌-◌, List, length, Bool, false, nat_le, nat_lt, true, Option, None, Some}
use Rattle.std.specs.List.{list_all}
use Rattle.seg_values.specs.SchemaRules.{is_entry}
use Rattle.seg_model.specs.Fields.{Schema}
use Rattle.seg_model.specs.Input.{Filter, Input}
use Rattle.seg_model.specs.Operations.{Operation, add, delete, delete_all}
use Rattle.seg_script.specs.Fields.{are_distinct}
use Rattle.seg_script.specs.Script.{script}

-- each field of an operation is one of the schema's, or the one just past them
abbrev pub names_fields : Schema → Operation → Bool
names_fields schema (add document) = list_all (λ p. nat_le p.0 (length schema)) document
names_fields schema (delete term) = nat_le term.field (length schema)
names_fields schema (delete_all terms) = false

-- the documents of a filter have numbers of 32 bits
abbrev pub is_small_filter : Option Filter → Bool
is_small_filter None = true
is_small_filter (Some filter) = nat_lt (length filter) (2 ^ 32)

-- a number of 128 bits
abbrev pub is_id : ℕ → Bool
is_id n = nat_lt n (2 ^ 128)

-- fields whose options go with their kinds, under distinct names, operations on them, a block size and filters of 32
-- bits, and where there are fewer than 2^64 cuts, ids of 128 bits
pub record IsWellFormed (input : Input) : Type 0 where
  pub entries : list_all is_entry input.schema ≡ true
  pub names : are_distinct input.schema ≡ true
  pub few : nat_lt (length input.schema) (2 ^ 32 - 1) ≡ true
  pub operations : list_all (names_fields input.schema) input.operations ≡ true
  pub block_size : nat_lt input.settings.block_size (2 ^ 32) ≡ true
  pub filters : list_all is_small_filter input.filters ≡ true
  pub ids : nat_lt (length input.cuts) (2 ^ 64) ≡ true → list_all is_id input.ids ≡ true

-- every script does
abbrev pub ScriptsAreWellFormed : Type 0
ScriptsAreWellFormed = (bytes : List ℕ) (input : Input) → script bytes ≡ Some input → IsWellFormed input

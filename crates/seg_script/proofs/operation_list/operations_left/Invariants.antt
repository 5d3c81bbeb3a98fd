use Rattle.std.proofs.Common.{◌≡◌, ℕ, ◌≤◌, List, ◌++◌, length, map, Some}
use Rattle.json.specs.Token.{Token}
use Rattle.json.specs.Json.{items, value}
use Rattle.serde_json.specs.Data.{Items}
use Rattle.serde_json.specs.Read.{of_items, converted}
use Rattle.seg_model.specs.Operations.{Operation}
use Rattle.seg_meta.specs.JsonReaders.{each}
use Rattle.seg_check.specs.UserOperations.{operation_of}
use Rattle.seg_script.specs.Operations.{operation_from}
use Rattle.seg_script.proofs.operation_list.operations_left.Given as goal

abbrev pub invariant-loop-alloc : goal.invariant-loop-alloc
invariant-loop-alloc l =
    (n : ℕ) × (length l.reader ≤ n)
    × ((ds : Items) (xs : List Operation) (r : List Token) → converted of_items (items (value 125) n l.reader) ≡ Some (ds, r) → each (operation_from l.schema) ds ≡ Some xs
    → (all : Items) × (converted of_items (items (value 125) (length l.initial.reader) l.initial.reader) ≡ Some (all, r))
    × (each (operation_from l.schema) all ≡ Some (map operation_of l.operations.items ++ xs)))

abbrev pub decreases-loop-alloc : goal.decreases-loop-alloc
decreases-loop-alloc l = length l.reader

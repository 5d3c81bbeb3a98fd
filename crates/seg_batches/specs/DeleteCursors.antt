-- Deletes that wait, and a cursor that passes over them from batch to batch.
use Rattle.std.specs.Prelude.{ℕ, ◌≡◌, ◌≤◌, ◌<◌, ◌++◌, List, [], ◌∷◌, take, drop, Bool, false}
use Rattle.std.specs.List.{AllByRecursion}
use Rattle.seg_model.specs.Operations.{Operation}
use Rattle.seg_model.specs.Stamps.{stamped_deletes}
use Rattle.seg_batches.specs.Queues.{Queue}
use Rattle.seg_batches.specs.declared.operation.DeleteOperation.{DeleteOperation}
use Rattle.seg_batches.specs.Laws.{as_operations}
use Rattle.seg_batches.specs.declared.term_target.TermTarget.{TermTarget}

-- an operation at a place is queued: where it is a delete it waits after the others, with its place as its stamp
pub record IsQueued (at : ℕ) (operation : Operation) (old new : Queue TermTarget) : Type 0 where
  pub deletes : as_operations new.operations ≡ as_operations old.operations ++ stamped_deletes at (operation ∷ [])
  pub flushed : new.flushed ≡ old.flushed

-- the deletes of all operations wait, each with its place as its stamp, and none is flushed yet
pub record AllWait (operations : List Operation) (queue : Queue TermTarget) : Type 0 where
  pub deletes : as_operations queue.operations ≡ stamped_deletes 0 operations
  pub unflushed : queue.flushed ≡ 0

-- each of the deletes has a stamp below the number
abbrev pub passed_below : ℕ → List (DeleteOperation TermTarget) → Type 0
passed_below number operations = AllByRecursion (λ o. o.opstamp < number) operations

-- the same deletes wait as before, and a cursor is past none but those with stamps below the number
pub record PassesEarlier (number : ℕ) (old new : Queue TermTarget) (cursor : ℕ) : Type 0 where
  pub operations : new.operations ≡ old.operations
  pub within : cursor ≤ new.flushed
  pub passed : passed_below number (take cursor old.operations)

-- so it is, and whether another delete is there is told
pub record SkipsEarlier (number : ℕ) (is_there : Bool) (old new : Queue TermTarget) (cursor : ℕ) : Type 0 where
  pub end : is_there ≡ false → drop cursor old.operations ≡ []
  pub earlier : PassesEarlier number old new cursor

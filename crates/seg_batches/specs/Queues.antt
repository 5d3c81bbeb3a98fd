-- The queue of the deletes that wait.
use Rattle.std.specs.Prelude.{◌≡◌, ℕ, ◌+◌, ◌≤◌, Bool, false, nat_lt, nat_le, if◌then◌else◌, List, length, drop, Option}
use Rattle.std.specs.List.{prefix_len}
use Rattle.std.specs.Option.{option_map_or}
use Rattle.seg_batches.specs.declared.operation.DeleteOperation.{DeleteOperation}

-- the operations, in the order that they came in, and how many of them, from the first on, are flushed
pub record Queue (T : Type 0) : Type 0 where
  pub operations : List (DeleteOperation T)
  pub flushed : ℕ

module _ {T : Type 0} where
  -- the same operations, all of them flushed where the position is past the flushed ones, else as many as before
  abbrev pub flushed_at : ℕ → Queue T → Queue T
  flushed_at position queue = record {
    operations = queue.operations;
    flushed = if nat_le queue.flushed position then length queue.operations else queue.flushed;
  }

  -- the stamp is below the target
  abbrev pub is_below : ℕ → DeleteOperation T → Bool
  is_below target operation = nat_lt operation.opstamp target

  -- an operation is there, and its stamp is below the target
  abbrev pub is_behind : ℕ → Option (DeleteOperation T) → Bool
  is_behind target operation = option_map_or (is_below target) operation false

  -- the position after all operations in a row, from a position on, whose stamps are below the target
  abbrev pub skipped : ℕ → List (DeleteOperation T) → ℕ → ℕ
  skipped target operations position = position + prefix_len (is_below target) (drop position operations)

-- what a call that comes to a position leaves of a queue: it lies within what is flushed, which is no less than before
pub record IsFlushedAt {T : Type 0} (position : ℕ) (old new : Queue T) : Type 0 where
  pub queue : new ≡ flushed_at position old
  pub within : position ≤ new.flushed
  pub rises : old.flushed ≤ new.flushed

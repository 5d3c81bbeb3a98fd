-- Laws of the definitions.
use Rattle.std.specs.Prelude.{ℕ, ◌<◌, ◌≤◌, List, length, slice_get, IfSome, IsSomeAnd}
use Rattle.seg_batches.specs.declared.operation.DeleteOperation.{DeleteOperation}
use Rattle.seg_batches.specs.Queues.{skipped}

-- from the position on the stop is the first place at which the list ends or the stamp is at least the target
pub record IsFirst {T : Type 0} (target : ℕ) (operations : List (DeleteOperation T)) (position stop : ℕ) : Type 0 where
  pub later : position ≤ stop
  pub within : stop ≤ length operations
  pub reached : IfSome (slice_get operations stop) (λ o. target ≤ o.opstamp)
  pub passed : (k : ℕ) → position ≤ k → k < stop → IsSomeAnd (slice_get operations k) (λ o. o.opstamp < target)

-- skipping stops at the first
abbrev pub SkippingFindsTheFirst : Type 0 → Type 0
SkippingFindsTheFirst T = (target : ℕ) (operations : List (DeleteOperation T)) (position : ℕ)
    → position ≤ length operations → IsFirst target operations position (skipped target operations position)

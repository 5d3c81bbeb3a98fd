-- The turns of `skip_to`.
use Rattle.std.proofs.Common.{◌≡◌, ℕ, ◌+◌, ◌≤◌, min, Bool, true, false, length, ap, sym, ◌∙◌, arith}
use Rattle.std.specs.List.{slice_get}
use Rattle.seg_batches.specs.Queues.{Queue, IsFlushedAt, flushed_at, is_behind, skipped}
use Rattle.seg_batches.proofs.Flushes.{flushed_at-again}
use Rattle.seg_batches.proofs.SkipSteps.{skipped-next, skipped-here}

-- the cursor, now at the position, stops where it would have stopped from its start on, and then leaves the same queue
pub record IsSkipping {T : Type 0} (target : ℕ) (initial : Queue T) (start : ℕ) (queue : Queue T) (position : ℕ) : Type 0 where
  pub operations : queue.operations ≡ initial.operations
  pub stop : skipped target initial.operations position ≡ skipped target initial.operations start
  pub left : flushed_at (skipped target initial.operations start) queue ≡ flushed_at (skipped target initial.operations start) initial
  pub within : position ≤ queue.flushed
  pub rises : initial.flushed ≤ queue.flushed

module _ {T : Type 0} (target : ℕ) (initial : Queue T) (start : ℕ) (queue asked : Queue T) (position : ℕ) (so_far : IsSkipping target initial start queue position) (flushed : IsFlushedAt position queue asked) where
  later : (b : Bool) → b ≡ is_behind target (slice_get queue.operations position) → is_behind target (slice_get initial.operations position) ≡ b
  later b is = ap (λ os. is_behind target (slice_get os position)) (sym so_far.operations) ∙ sym is

  -- it passes an operation below the target
  pub skips : (passed : Queue T) (next : ℕ) → true ≡ is_behind target (slice_get queue.operations position) → next ≡ min (position + 1) (length asked.operations) → passed ≡ flushed_at position asked → next ≤ passed.flushed → asked.flushed ≤ passed.flushed → IsSkipping target initial start passed next
  skips passed next is moved left within rises =
      let more = skipped-next target initial.operations position (later true is) in
      let same : asked.operations ≡ initial.operations = ap (λ q. q.operations) flushed.queue ∙ so_far.operations in
      let one : next ≡ position + 1 = omega (arith, more.1, ap length same, moved) in
      let stop = skipped target initial.operations start in
      let ahead : position ≤ stop = omega (arith, so_far.stop) in
      record {
        operations = ap (λ q. q.operations) left ∙ same;
        stop = ap (skipped target initial.operations) one ∙ more.0 ∙ so_far.stop;
        left = ap (flushed_at stop) left ∙ flushed_at-again position stop asked ahead ∙ ap (flushed_at stop) flushed.queue ∙ flushed_at-again position stop queue ahead ∙ so_far.left;
        within = within;
        rises = omega (arith, so_far.rises, flushed.rises);
      }

  -- and stops at any other one, and at the end
  pub stops : false ≡ is_behind target (slice_get queue.operations position) → (position ≡ skipped target initial.operations start) × (asked ≡ flushed_at position initial)
  stops is =
      let here : position ≡ skipped target initial.operations start = sym (skipped-here target initial.operations position (later false is)) ∙ so_far.stop in
      (here, flushed.queue ∙ ap (λ p. flushed_at p queue) here ∙ so_far.left ∙ ap (λ p. flushed_at p initial) (sym here))

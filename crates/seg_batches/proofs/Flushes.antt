-- Flushing twice.
use Rattle.std.proofs.Common.{◌≡◌, ℕ, ◌≤◌, nat_le, if◌then◌else◌, ap, arith, length}
use Rattle.std.proofs.lemmas.Bool.Decides.{nat_tests}
use Rattle.seg_batches.specs.Queues.{Queue, flushed_at}

count_again : (flushed all p q : ℕ) → p ≤ q → (if nat_le (if nat_le flushed p then all else flushed) q then all else (if nat_le flushed p then all else flushed)) ≡ (if nat_le flushed q then all else flushed)
count_again flushed all p q ahead = grind (arith, nat_tests)

-- a call farther on leaves the same, whether or not there was one before
pub flushed_at-again : {T : Type 0} (p q : ℕ) (queue : Queue T) → p ≤ q → flushed_at q (flushed_at p queue) ≡ flushed_at q queue
flushed_at-again {T} p q queue ahead = ap (λ (n : ℕ). let left : Queue T = record { operations = queue.operations; flushed = n } in left) (count_again queue.flushed (length queue.operations) p q ahead)

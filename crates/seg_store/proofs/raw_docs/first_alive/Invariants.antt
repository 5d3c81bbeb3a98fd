use Rattle.std.proofs.Common.{◌≡◌, ◌≤◌, ◌<◌, ◌-◌, ℕ, false}
use Rattle.std.specs.Prelude.{option_map}
use Rattle.seg_store.specs.AliveDocuments.{alive_at}
use Rattle.seg_store.proofs.raw_docs.first_alive.Given as goal

-- those before it are dead
abbrev pub invariant-loop-doc : goal.invariant-loop-doc
invariant-loop-doc l = record {
  above : l.from ≤ l.doc;
  dead : (k : ℕ) → l.from ≤ k → k < l.doc → alive_at (option_map (λ set. set.now) l.alive) k ≡ false;
}

abbrev pub decreases-loop-doc : goal.decreases-loop-doc
decreases-loop-doc l = l.total - l.doc

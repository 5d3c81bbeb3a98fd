use Rattle.std.proofs.Common.{◌≡◌, ℕ, ◌<◌, get_or}
use Rattle.seg_terms.specs.declared.hit.Hit.{Hit}
use Rattle.seg_terms.proofs.runs.first_run.Given as goal

abbrev pub invariant-loop-i : goal.invariant-loop-i
invariant-loop-i l = (k : ℕ) (e : Hit) → k < l.i → (get_or l.hits k e).document ≡ l.document

use Rattle.std.proofs.Common.{◌<◌, ℕ, get_or}
use Rattle.seg_values.specs.Tree.{Tree}
use Rattle.seg_values.specs.Utf8Values.{IsUtf8Tree}
use Rattle.seg_values.proofs.pairs.Pairs.texts_are_utf8.Given as goal

-- the texts that were passed
abbrev pub invariant-loop-at : goal.invariant-loop-at
invariant-loop-at l = (k : ℕ) (d : ℕ × Tree) → k < l.at → IsUtf8Tree (get_or l.self k d).1

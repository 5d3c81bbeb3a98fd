use Rattle.std.proofs.Common.{◌<◌, ap, arith}
use Rattle.seg_values.specs.Tree.{levels, array, trees_from}
use Rattle.seg_values.specs.ValueTrees.{tree_of}
use Rattle.seg_values.proofs.Exports.{levels-at}
use Rattle.seg_check.proofs.kinds.+is_own_array.Goals as goal

pub is_own_array-requires : goal.is_own_array-requires
is_own_array-requires t c =
    let below : levels (tree_of c.get.result.now) < levels (array (trees_from c.in-Array.values)) = levels-at c.in-Array.values c.loop-at.at (tree_of c.get.result.now) c.get.ensures in
    let is = ap (λ v. levels (tree_of v)) c.in-Array.is in
    (omega (arith, c.decreases, is, below), tt)

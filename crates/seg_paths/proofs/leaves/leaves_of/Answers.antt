use Rattle.std.proofs.Common.{[], map, refl, ap}
use Rattle.seg_paths.specs.NumberedLeaves.{numbered}
use Rattle.seg_paths.proofs.leaves.leaves_of.Goals as goal

pub returns-clause-leaves : goal.returns-clause-leaves
returns-clause-leaves c = c.in_ok-push_leaves.ensures.leaves [] 0 [] refl (ap (map numbered) c.new-found.ensures.items)

use Rattle.std.proofs.Common.{◌≡◌, [], length, ap, arith, subst}
use Rattle.seg_paths.specs.Nodes.{paths_with}
use Rattle.seg_paths.specs.Paths.{HaveNoZero}
use Rattle.seg_paths.proofs.NodePaths.{length-paths}
use Rattle.seg_paths.proofs.ZeroFreeKeys.{no_zero-paths}
use Rattle.seg_paths.proofs.path_table.PathTable.len.Goals as goal

pub returns-clause-length : goal.returns-clause-length
returns-clause-length c =
    let nodes = c.self.inside.nodes.keys in
    let seen : length (paths_with [] nodes) ≡ length c.args.self.now = ap length c.self.view_is in
    omega (arith, seen, length-paths [] nodes, c.len.ensures.len)

pub returns-clause-no_zero : goal.returns-clause-no_zero
returns-clause-no_zero c =
    subst HaveNoZero c.self.view_is (no_zero-paths [] c.self.inside.nodes.keys tt c.self.invariant.1)

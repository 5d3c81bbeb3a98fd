use Rattle.std.proofs.Common.{◌≤◌, ◌^◌, List, [], length, sym, subst, arith}
use Rattle.std.specs.List.{IsDistinct}
use Rattle.std.specs.Str.{bytes_eq}
use Rattle.seg_paths.specs.Nodes.{Node, AreSound, paths_with}
use Rattle.seg_paths.proofs.path_table.PathTable.new.Goals as goal

pub invariant_of-result : goal.invariant_of-result
unfolding IsDistinct
invariant_of-result c =
    subst (λ (ns : List Node). (length ns ≤ 2 ^ 32) × AreSound [] ns
    × IsDistinct bytes_eq (paths_with [] ns)) (sym c.new.ensures.empty) (omega arith, tt, tt)

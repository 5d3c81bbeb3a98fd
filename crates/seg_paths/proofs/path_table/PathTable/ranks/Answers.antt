use Rattle.std.proofs.Common.{◌≤◌, ◌^◌, ℕ, List, [], Vec, Global, length, subst, sym, ap, ◌∙◌}
use Rattle.std.specs.Prelude.{IfOk}
use Rattle.std.specs.List.{IsDistinct}
use Rattle.std.specs.Str.{bytes_eq}
use Rattle.seg_paths.specs.Nodes.{Node, AreSound, paths_with}
use Rattle.seg_paths.specs.Ranks.{AreRanks}
use Rattle.seg_paths.proofs.path_table.PathTable.ranks.Goals as goal

pub node_ranks-requires-clause-few : goal.node_ranks-requires-clause-few
node_ranks-requires-clause-few c = subst (λ (ns : List Node). length ns ≤ 2 ^ 32) (sym c.as_slice.ensures.keys)
    c.self.invariant.0

pub node_ranks-requires-clause-sound : goal.node_ranks-requires-clause-sound
node_ranks-requires-clause-sound c = subst (AreSound []) (sym c.as_slice.ensures.keys) c.self.invariant.1

pub node_ranks-requires-clause-distinct : goal.node_ranks-requires-clause-distinct
node_ranks-requires-clause-distinct c = subst (λ (ns : List Node). IsDistinct bytes_eq (paths_with [] ns))
    (sym c.as_slice.ensures.keys) c.self.invariant.2

pub returns : goal.returns
returns c = subst (λ paths. IfOk c.node_ranks.result (λ (v : Vec ℕ Global). AreRanks paths v.items))
    (ap (paths_with []) c.as_slice.ensures.keys ∙ c.self.view_is) c.node_ranks.ensures

use Rattle.std.proofs.Common.{◌≡◌, ◌<◌, List, length, get_or, sym, ap, subst, ◌∙◌}
use Rattle.seg_paths.specs.Nodes.{Node}
use Rattle.seg_paths.specs.Paths.{StepsUp}
use Rattle.seg_paths.proofs.PathAncestors.{node_within, steps-up}
use Rattle.seg_paths.proofs.path_table.PathTable.push_reversed.Goals as goal

pub bounds-nodes-number : goal.bounds-nodes-number
bounds-nodes-number c = subst (λ (nodes : List Node). c.args.number < length nodes) (sym c.as_slice-nodes.ensures.keys)
    (node_within c.self.inside.nodes.keys c.args.self.now c.args.number c.self.view_is c.requires)

pub returns : goal.returns
returns c =
    let nodes = c.self.inside.nodes.keys in
    let node = c.index-nodes-number.result in
    let is : node ≡ get_or nodes c.args.number node =
    c.index-nodes-number.is ∙ ap (λ (l : List Node). get_or l c.args.number node) c.as_slice-nodes.ensures.keys in
    let up = steps-up nodes c.args.self.now c.args.number c.self.view_is c.requires c.self.invariant.1 node is
    c.args.out.now.items c.push_reversed.new.out.items c.in_ok-push_reversed.ensures in
    subst (λ above. StepsUp c.args.self.now c.args.number above c.args.out.now.items c.push_reversed.new.out.items)
    (sym c.head.ensures) up

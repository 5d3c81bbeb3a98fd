use Rattle.std.proofs.Common.{sym}
use Rattle.seg_paths.specs.Nodes.{Node, IsSound}
use Rattle.seg_paths.proofs.NodePaths.{known-node, push-extends, push-grown, push-number}
use Rattle.seg_paths.proofs.path_table.PathTable.add_part.Goals as goal

pub invariant_of-self : goal.invariant_of-self
invariant_of-self c =
    let m : Node = record { head = c.args.above; bytes = c.args.part.now } in
    let one : IsSound c.args.self.now m = record { above = c.requires.above; part = c.requires.part } in
    push-grown c.self.inside.nodes.keys c.args.self.now m c.self.view_is c.self.invariant one
    (sym c.in_default.ensures.found)
    c.push_node.new.nodes.keys c.push_node.result (c.push_node.ensures.ok, c.push_node.ensures.err)

pub returns-in_default-clause-extends : goal.returns-in_default-clause-extends
returns-in_default-clause-extends c =
    let m : Node = record { head = c.args.above; bytes = c.args.part.now } in
    let one : IsSound c.args.self.now m = record { above = c.requires.above; part = c.requires.part } in
    push-extends c.self.inside.nodes.keys c.args.self.now m c.self.view_is c.self.invariant one
    (sym c.in_default.ensures.found)
    c.push_node.new.nodes.keys c.push_node.result (c.push_node.ensures.ok, c.push_node.ensures.err)

pub returns-in_default-clause-number : goal.returns-in_default-clause-number
returns-in_default-clause-number c =
    let m : Node = record { head = c.args.above; bytes = c.args.part.now } in
    let one : IsSound c.args.self.now m = record { above = c.requires.above; part = c.requires.part } in
    push-number c.self.inside.nodes.keys c.args.self.now m c.self.view_is c.self.invariant one
    (sym c.in_default.ensures.found)
    c.push_node.new.nodes.keys c.push_node.result (c.push_node.ensures.ok, c.push_node.ensures.err)

pub returns-clause-number : goal.returns-clause-number
returns-clause-number c =
    let m : Node = record { head = c.args.above; bytes = c.args.part.now } in
    known-node c.self.inside.nodes.keys c.args.self.now m c.in-Some.number c.self.view_is c.self.invariant.1
    c.self.invariant.2 (sym c.in-Some.ensures.index)

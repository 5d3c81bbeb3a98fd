use Rattle.std.proofs.Common.{◌<◌, map, sym, ap, ◌∙◌, arith}
use Rattle.std.proofs.lemmas.List.{drop_all}
use Rattle.serde_json.specs.Data.{no_members}
use Rattle.serde_json.specs.View.{view, members_view}
use Rattle.seg_values.specs.Tree.{levels, array, object, trees_from, members_from}
use Rattle.seg_values.specs.ValueJson.{items_json, members_json}
use Rattle.seg_values.specs.ValueTrees.{tree_of}
use Rattle.seg_values.proofs.TreeLevels.{levels-at, member_levels-at}
use Rattle.seg_values.proofs.WrittenJson.{followed, followed_none, value_more, member_more}
use Rattle.seg_values.proofs.write_json.+write_json.Goals as goal

pub items_from-json_from-requires : goal.items_from-json_from-requires
items_from-json_from-requires t c =
    let below : levels (tree_of c.get.result.now) < levels (array (trees_from c.args.values.now)) = levels-at c.args.values.now c.loop-at.at (tree_of c.get.result.now) c.get.ensures in
    (omega (arith, c.decreases, below), tt)

pub items_from-loop-at-preserved : goal.items_from-loop-at-preserved
items_from-loop-at-preserved t c =
    value_more view c.loop-at.items.items c.push.new.self.items c.in_ok-json_from.field-0 c.args.values.now c.loop-at.at (tree_of c.get.result.now) (items_json (trees_from c.args.values.now)) c.get.ensures c.in_ok-json_from.ensures c.in_ok-push.ensures.items c.loop-at.invariant

pub items_from-returns : goal.items_from-returns
items_from-returns t c =
    sym (followed_none (map view c.loop-at.items.items))
    ∙ sym (ap (λ ts. followed (map view c.loop-at.items.items) (items_json (trees_from ts))) (drop_all c.loop-at.at c.args.values.now (omega (arith, c.loop-at-test.false, c.len-at-end.ensures))))
    ∙ c.loop-at.invariant

pub map_from-json_from-requires : goal.map_from-json_from-requires
map_from-json_from-requires t c =
    let child = tree_of c.get.result.1.now in
    let below : levels child < levels (object (members_from c.args.members.now)) = member_levels-at c.args.members.now c.loop-at.at (c.get.result.0.now, child) c.get.ensures in
    (omega (arith, c.decreases, below), tt)

pub map_from-loop-at-preserved : goal.map_from-loop-at-preserved
map_from-loop-at-preserved t c =
    member_more (members_view c.loop-at.map.entries) (members_view c.put.new.map.entries) c.args.members.now c.loop-at.at c.get.result.0.now (tree_of c.get.result.1.now) (view c.in_ok-json_from.field-0) (members_json no_members (members_from c.args.members.now)) c.get.ensures c.in_ok-json_from.ensures c.in_ok-put.ensures.ok c.loop-at.invariant

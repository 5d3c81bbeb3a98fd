use Rattle.std.proofs.Common.{rules, ◌≡◌, ◌++◌, ◌<◌, OnOk, sym, subst, arith}
use Rattle.serde_json.specs.Written.{compact_text}
use Rattle.seg_values.specs.Tree.{levels, array, object, trees_from, members_from}
use Rattle.seg_values.specs.ValueTrees.{tree_of}
use Rattle.seg_values.proofs.Exports.{levels-at, member_levels-at}
use Rattle.seg_values.specs.ValueJson.{value_json}
use Rattle.seg_text.proofs.PrintedTrees.{one_item, one_member, next_place, all_members}
use Rattle.seg_text.proofs.value.+push_value.Goals as goal

pub push_array-push_value-requires : goal.push_array-push_value-requires
push_array-push_value-requires t c =
    let below : levels (tree_of c.get.result.now) < levels (array (trees_from c.args.values.now)) = levels-at c.args.values.now c.loop-at.at (tree_of c.get.result.now) c.get.ensures in
    (omega (arith, c.decreases, below), tt)

pub push_array-loop-at-preserved : goal.push_array-loop-at-preserved
push_array-loop-at-preserved t c =
    one_item _ c.loop-at.out.items c.push_comma_if.new.out.items c.push_value.new.out.items c.loop-at.later c.in_ok-push_comma_if.ensures c.args.values.now c.loop-at.at (tree_of c.get.result.now) c.get.ensures c.in_ok-push_value.ensures c.loop-at.invariant

pub push_object-get-requires : goal.push_object-get-requires
push_object-get-requires t c =
    (next_place (λ k. k.now) c.args.members.now c.loop-key.key-iterator c.next.new.self (c.in-Some.key.now, c.in-Some.place.now) c.in-Some.ensures.steps c.loop-key.invariant.1).0

pub push_object-push_member-requires : goal.push_object-push_member-requires
push_object-push_member-requires t c =
    let child = tree_of c.get.result.1.now in
    let below : levels child < levels (object (members_from c.args.members.now)) = member_levels-at c.args.members.now c.in-Some.place.now (c.get.result.0.now, child) c.get.ensures in
    (omega (arith, c.decreases, below), tt)

pub push_object-loop-key-preserved : goal.push_object-loop-key-preserved
push_object-loop-key-preserved t c = (
  one_member _ c.loop-key.out.items c.push_comma_if.new.out.items c.push_member.new.out.items c.loop-key.later c.in_ok-push_comma_if.ensures (λ k. k.now) c.args.members.now c.loop-key.key-iterator c.next.new.self (c.in-Some.key.now, c.in-Some.place.now) (c.get.result.0.now, tree_of c.get.result.1.now) c.in-Some.ensures.steps c.get.ensures c.in_ok-push_member.ensures c.loop-key.invariant.0,
  (next_place (λ k. k.now) c.args.members.now c.loop-key.key-iterator c.next.new.self (c.in-Some.key.now, c.in-Some.place.now) c.in-Some.ensures.steps c.loop-key.invariant.1).1,
)

pub push_object-returns : goal.push_object-returns
push_object-returns t c =
    let all : c.into_iter-key-iterator.result ≡ c.in_ok-places.places.entries = search rules in
    all_members (λ k. k.now) c.args.members.now c.args.out.now.items c.push.new.self.items c.loop-key.out.items c.push-2.new.self.items c.loop-key.later c.in_ok-places.places.entries c.into_iter-key-iterator.result c.loop-key.key-iterator all c.in-None.ensures.steps.0 c.in_ok-places.ensures.members c.in_ok-push.ensures.items c.loop-key.invariant.0 c.in_ok-push-2.ensures.items

pub push_value-returns-in-Date : goal.push_value-returns-in-Date
push_value-returns-in-Date t c =
    subst (λ v. OnOk c.push_date.result (c.push_date.new.out.items ≡ c.args.out.now.items ++ compact_text (value_json (tree_of v)))) (sym c.in-Date.is) c.push_date.ensures

use Rattle.std.proofs.Common.{rules, ◌∷◌, [], ◌-◌, refl, sym, subst, ◌∙◌, arith}
use Rattle.json.specs.Print.{quoted}
use Rattle.serde_json.specs.Written.{comma_if, compact_text}
use Rattle.seg_doc_bytes.specs.FrontReaders as read
use Rattle.seg_doc_bytes.specs.StoredTree as trees
use Rattle.seg_doc_bytes.proofs.Exports.{array_front, object_front, leaf_front}
use Rattle.seg_values.specs.Tree.{leaf, array, object, trees_from, members_from}
use Rattle.seg_values.specs.ValueJson.{value_json}
use Rattle.seg_text.specs.PrintedFronts.{Prints}
use Rattle.seg_text.proofs.PrintedFronts.{not_more, more_by, more_then, leaf_text, printed_text, prints_as, prints_front, tree_text}
use Rattle.seg_text.proofs.PrintedCounts.{no_item, one_item, item_given_up, all_items, listed_text, trees_listed}
use Rattle.seg_text.proofs.PrintedMembers.{no_member, one_member, member_given_up, all_members}
use Rattle.seg_text.proofs.stored_tree.+push_stored_tree.Goals as goal

pub push_stored_array-returns-in_default : goal.push_stored_array-returns-in_default
push_stored_array-returns-in_default t c = not_more c.args.out.now.items

pub push_stored_array-loop-init : goal.push_stored_array-loop-init
push_stored_array-loop-init t c = no_item (trees.stored_tree_at c.args.levels) value_json c.in-Some.count c.take_varint.new.bytes.now c.push.new.self.items

pub push_stored_array-loop-preserved : goal.push_stored_array-loop-preserved
push_stored_array-loop-preserved t c =
    let printed = subst (Prints (trees.stored_tree_at c.args.levels) tree_text c.loop.bytes.now c.push_stored_tree.new.bytes.now c.push_comma_if.new.out.items c.push_stored_tree.new.out.items) c.in-Some-2.is c.in_ok-push_stored_tree.ensures in
    one_item (trees.stored_tree_at c.args.levels) value_json c.in-Some.count c.take_varint.new.bytes.now c.loop.counter c.loop.bytes.now c.push_stored_tree.new.bytes.now c.push.new.self.items c.loop.out.items c.push_comma_if.new.out.items c.push_stored_tree.new.out.items c.loop.later c.loop-test.true c.loop.invariant c.in_ok-push_comma_if.ensures printed

pub push_stored_array-returns-in_default-2 : goal.push_stored_array-returns-in_default-2
push_stored_array-returns-in_default-2 t c =
    let more = subst (Prints (trees.stored_tree_at c.args.levels) tree_text c.loop.bytes.now c.push_stored_tree.new.bytes.now c.push_comma_if.new.out.items c.push_stored_tree.new.out.items) c.in_default-2.is c.in_ok-push_stored_tree.ensures in
    item_given_up c.args.out.now.items c.push.new.self.items c.loop.out.items c.push_comma_if.new.out.items c.push_stored_tree.new.out.items (91 ∷ []) (comma_if c.loop.later) c.in_ok-push.ensures.items c.loop.invariant.grown c.in_ok-push_comma_if.ensures more

pub push_stored_array-returns : goal.push_stored_array-returns
push_stored_array-returns t c =
    printed_text (read.counted_at (trees.stored_tree_at c.args.levels)) (listed_text value_json) (λ ts. compact_text (value_json (array (trees_from ts)))) c.args.bytes.now.now c.loop.bytes.now c.args.out.now.items c.push-2.new.self.items trees_listed
    (all_items (trees.stored_tree_at c.args.levels) value_json c.args.bytes.now.now c.in-Some.count c.take_varint.new.bytes.now c.loop.counter c.loop.bytes.now c.args.out.now.items c.push.new.self.items c.loop.out.items c.push-2.new.self.items c.loop.later c.in-Some.ensures c.in_ok-push.ensures.items c.loop-test.false c.loop.invariant c.in_ok-push-2.ensures.items)

pub push_stored_object-returns-in_default : goal.push_stored_object-returns-in_default
push_stored_object-returns-in_default t c = not_more c.args.out.now.items

pub push_stored_object-returns-in_default-take_text : goal.push_stored_object-returns-in_default-take_text
push_stored_object-returns-in_default-take_text t c =
    more_then c.args.out.now.items c.push.new.self.items c.loop.out.items (more_by c.args.out.now.items c.push.new.self.items (123 ∷ []) c.in_ok-push.ensures.items) c.loop.invariant.1.grown

pub push_stored_object-returns-then-not-is_after : goal.push_stored_object-returns-then-not-is_after
push_stored_object-returns-then-not-is_after t c =
    more_then c.args.out.now.items c.push.new.self.items c.loop.out.items (more_by c.args.out.now.items c.push.new.self.items (123 ∷ []) c.in_ok-push.ensures.items) c.loop.invariant.1.grown

pub push_stored_object-returns-in_default-2 : goal.push_stored_object-returns-in_default-2
push_stored_object-returns-in_default-2 t c =
    let more = subst (Prints (trees.stored_tree_at c.args.levels) tree_text c.take_text.new.bytes.now c.push_stored_tree.new.bytes.now c.push-in-loop.new.self.items c.push_stored_tree.new.out.items) c.in_default-2.is c.in_ok-push_stored_tree.ensures in
    member_given_up c.args.out.now.items c.push.new.self.items c.loop.out.items c.push_comma_if.new.out.items c.push_quoted.new.out.items c.push-in-loop.new.self.items c.push_stored_tree.new.out.items (123 ∷ []) (comma_if c.loop.later) (quoted c.in-Some-take_text.key.now)
    c.in_ok-push.ensures.items c.loop.invariant.1.grown c.in_ok-push_comma_if.ensures c.in_ok-push_quoted.ensures c.in_ok-push-2.ensures.items more

pub push_stored_object-loop-init : goal.push_stored_object-loop-init
push_stored_object-loop-init t c = (search rules, no_member (trees.stored_tree_at c.args.levels) c.in-Some.count c.take_varint.new.bytes.now c.push.new.self.items _)

pub push_stored_object-loop-preserved : goal.push_stored_object-loop-preserved
push_stored_object-loop-preserved t c =
    let printed = subst (Prints (trees.stored_tree_at c.args.levels) tree_text c.take_text.new.bytes.now c.push_stored_tree.new.bytes.now c.push-in-loop.new.self.items c.push_stored_tree.new.out.items) c.in-Some-2.is c.in_ok-push_stored_tree.ensures in (
      search rules,
      one_member (trees.stored_tree_at c.args.levels) c.in-Some.count c.take_varint.new.bytes.now c.loop.counter c.loop.bytes.now c.take_text.new.bytes.now c.push_stored_tree.new.bytes.now c.push.new.self.items c.loop.out.items c.push_comma_if.new.out.items c.push_quoted.new.out.items c.push-in-loop.new.self.items c.push_stored_tree.new.out.items c.in-Some-take_text.key.now c.loop.last.now c.loop.later c.loop-test.true c.loop.invariant.1
          c.in-Some-take_text.ensures (sym c.is_after.ensures ∙ c.if-not-is_after.false) c.in_ok-push_comma_if.ensures c.in_ok-push_quoted.ensures c.in_ok-push-2.ensures.items printed,
    )

pub push_stored_object-returns : goal.push_stored_object-returns
push_stored_object-returns t c =
    all_members (trees.stored_tree_at c.args.levels) c.args.bytes.now.now c.in-Some.count c.take_varint.new.bytes.now c.loop.counter c.loop.bytes.now c.args.out.now.items c.push.new.self.items c.loop.out.items c.push-2.new.self.items c.loop.last.now c.loop.later c.in-Some.ensures c.in_ok-push.ensures.items c.loop-test.false c.loop.invariant.1 c.in_ok-push-3.ensures.items

pub push_stored_tree-returns-then-levels-eq0 : goal.push_stored_tree-returns-then-levels-eq0
push_stored_tree-returns-then-levels-eq0 t c = not_more c.args.out.now.items

pub push_stored_tree-returns-in_default : goal.push_stored_tree-returns-in_default
push_stored_tree-returns-in_default t c = not_more c.args.out.now.items

pub push_stored_tree-returns-in-10 : goal.push_stored_tree-returns-in-10
push_stored_tree-returns-in-10 t c =
    let inner = trees.stored_tree_at (c.args.levels - 1) in
    prints_front (trees.stored_tree_at c.args.levels) (λ b. read.made_of (λ ts. array (trees_from ts)) (read.counted_at inner b)) tree_text c.args.bytes.now.now c.take_byte.new.bytes.now c.push_stored_array.new.bytes.now c.args.out.now.items c.push_stored_array.new.out.items c.push_stored_array.result
    (array_front c.args.levels (c.args.levels - 1) c.in-Some.tag c.args.bytes.now.now c.take_byte.new.bytes.now (omega (arith, c.if-levels-eq0.false)) c.in-Some.ensures c.in-10.is)
    (prints_as (λ ts. array (trees_from ts)) (λ ts. compact_text (value_json (array (trees_from ts)))) tree_text (read.counted_at inner) c.take_byte.new.bytes.now c.push_stored_array.new.bytes.now c.args.out.now.items c.push_stored_array.new.out.items c.push_stored_array.result (λ ts. refl) c.push_stored_array.ensures)

pub push_stored_tree-returns-in-11 : goal.push_stored_tree-returns-in-11
push_stored_tree-returns-in-11 t c =
    let inner = trees.member_at (trees.stored_tree_at (c.args.levels - 1)) in
    prints_front (trees.stored_tree_at c.args.levels) (λ b. read.made_of (λ ms. object (members_from ms)) (read.counted_at inner b)) tree_text c.args.bytes.now.now c.take_byte.new.bytes.now c.push_stored_object.new.bytes.now c.args.out.now.items c.push_stored_object.new.out.items c.push_stored_object.result
    (object_front c.args.levels (c.args.levels - 1) c.in-Some.tag c.args.bytes.now.now c.take_byte.new.bytes.now (omega (arith, c.if-levels-eq0.false)) c.in-Some.ensures c.in-11.is)
    (prints_as (λ ms. object (members_from ms)) (λ ms. compact_text (value_json (object (members_from ms)))) tree_text (read.counted_at inner) c.take_byte.new.bytes.now c.push_stored_object.new.bytes.now c.args.out.now.items c.push_stored_object.new.out.items c.push_stored_object.result (λ ms. refl) c.push_stored_object.ensures)

pub push_stored_tree-returns-in_default-tag : goal.push_stored_tree-returns-in_default-tag
push_stored_tree-returns-in_default-tag t c =
    prints_front (trees.stored_tree_at c.args.levels) (λ b. read.made_of leaf (trees.leaf_at c.in-Some.tag b)) tree_text c.args.bytes.now.now c.take_byte.new.bytes.now c.push_stored_leaf.new.bytes.now c.args.out.now.items c.push_stored_leaf.new.out.items c.push_stored_leaf.result
    (leaf_front c.args.levels (c.args.levels - 1) c.in-Some.tag c.args.bytes.now.now c.take_byte.new.bytes.now (omega (arith, c.if-levels-eq0.false)) c.in-Some.ensures (search rules) (search rules))
    (prints_as leaf leaf_text tree_text (trees.leaf_at c.in-Some.tag) c.take_byte.new.bytes.now c.push_stored_leaf.new.bytes.now c.args.out.now.items c.push_stored_leaf.new.out.items c.push_stored_leaf.result (λ l. refl) c.push_stored_leaf.ensures)

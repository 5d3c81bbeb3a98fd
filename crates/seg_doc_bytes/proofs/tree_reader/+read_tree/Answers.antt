use Rattle.std.proofs.Common.{rules, ◌-◌, subst, arith}
use Rattle.seg_values.specs.Tree.{leaf, array, object, trees_from, members_from}
use Rattle.seg_values.specs.ValueTrees.{tree_of}
use Rattle.seg_doc_bytes.specs.FrontValues.{Makes}
use Rattle.seg_doc_bytes.specs.FrontReaders as read
use Rattle.seg_doc_bytes.specs.StoredTree as trees
use Rattle.seg_doc_bytes.proofs.GatheredValues.{one_more}
use Rattle.seg_doc_bytes.proofs.MadeTrees.{makes_as, array_front, object_front, leaf_front, member_made}
use Rattle.seg_doc_bytes.proofs.PassedTrees.{no_levels, no_tag}
use Rattle.seg_doc_bytes.proofs.tree_reader.+read_tree.Goals as goal

pub read_array-loop-preserved : goal.read_array-loop-preserved
read_array-loop-preserved t c =
    let made = subst (Makes (trees.stored_tree_at c.args.levels) tree_of c.loop.bytes.now c.read_tree.new.bytes.now) c.in-Some-2.is c.in_ok-value.ensures in
    one_more (trees.stored_tree_at c.args.levels) c.in-Some.count c.take_varint.new.bytes.now c.loop.values c.push.new.self (tree_of c.in-Some-2.value) c.loop.counter c.loop.bytes.now c.read_tree.new.bytes.now c.loop-test.true c.loop.invariant made c.in_ok-push.ensures.ok

pub read_object-loop-preserved : goal.read_object-loop-preserved
read_object-loop-preserved t c =
    let key = subst (Makes read.text_at (λ k. k) c.loop.bytes.now c.read_text.new.bytes.now) c.in-Some-2.is c.in_ok-key.ensures in
    let value = subst (Makes (trees.stored_tree_at c.args.levels) tree_of c.read_text.new.bytes.now c.read_tree.new.bytes.now) c.in-Some-3.is c.in_ok-value.ensures in
    let made = member_made (trees.stored_tree_at c.args.levels) c.loop.bytes.now c.read_text.new.bytes.now c.read_tree.new.bytes.now c.in-Some-2.key (tree_of c.in-Some-3.value) key value in
    one_more (trees.member_at (trees.stored_tree_at c.args.levels)) c.in-Some.count c.take_varint.new.bytes.now c.loop.members c.push.new.self (c.in-Some-2.key, tree_of c.in-Some-3.value) c.loop.counter c.loop.bytes.now c.read_tree.new.bytes.now c.loop-test.true c.loop.invariant made c.in_ok-push.ensures.ok

pub read_tree-returns-then-levels-eq0 : goal.read_tree-returns-then-levels-eq0
read_tree-returns-then-levels-eq0 t c = no_levels c.args.levels c.args.bytes.now.now (omega (arith, c.if-levels-eq0.true))

pub read_tree-returns-in_default : goal.read_tree-returns-in_default
read_tree-returns-in_default t c = no_tag c.args.levels (c.args.levels - 1) c.args.bytes.now.now (omega (arith, c.if-levels-eq0.false)) c.in_default.ensures

pub read_tree-returns-in-10 : goal.read_tree-returns-in-10
read_tree-returns-in-10 t c =
    makes_as (trees.stored_tree_at c.args.levels) (λ b. read.made_of (λ ts. array (trees_from ts)) (read.counted_at (trees.stored_tree_at (c.args.levels - 1)) b)) tree_of c.args.bytes.now.now c.take_byte.new.bytes.now c.read_array.new.bytes.now c.read_array.result
    (array_front c.args.levels (c.args.levels - 1) c.in-Some.tag c.args.bytes.now.now c.take_byte.new.bytes.now (omega (arith, c.if-levels-eq0.false)) c.in-Some.ensures c.in-10.is) c.read_array.ensures

pub read_tree-returns-in-11 : goal.read_tree-returns-in-11
read_tree-returns-in-11 t c =
    makes_as (trees.stored_tree_at c.args.levels) (λ b. read.made_of (λ ms. object (members_from ms)) (read.counted_at (trees.member_at (trees.stored_tree_at (c.args.levels - 1))) b)) tree_of c.args.bytes.now.now c.take_byte.new.bytes.now c.read_object.new.bytes.now c.read_object.result
    (object_front c.args.levels (c.args.levels - 1) c.in-Some.tag c.args.bytes.now.now c.take_byte.new.bytes.now (omega (arith, c.if-levels-eq0.false)) c.in-Some.ensures c.in-11.is) c.read_object.ensures

pub read_tree-returns-in_default-tag : goal.read_tree-returns-in_default-tag
read_tree-returns-in_default-tag t c =
    makes_as (trees.stored_tree_at c.args.levels) (λ b. read.made_of leaf (trees.leaf_at c.in-Some.tag b)) tree_of c.args.bytes.now.now c.take_byte.new.bytes.now c.read_leaf.new.bytes.now c.read_leaf.result
    (leaf_front c.args.levels (c.args.levels - 1) c.in-Some.tag c.args.bytes.now.now c.take_byte.new.bytes.now (omega (arith, c.if-levels-eq0.false)) c.in-Some.ensures (search rules) (search rules)) c.read_leaf.ensures

use Rattle.std.proofs.Common.{◌≡◌, ◌<◌, ◌++◌, ap, ◌∙◌, arith}
use Rattle.seg_values.specs.Tree.{levels, array, object, trees_from, members_from}
use Rattle.seg_values.specs.ValueTrees.{tree_of}
use Rattle.seg_values.proofs.Exports.{levels-at, member_levels-at}
use Rattle.seg_values.specs.StoredBytes.{sized, tree_form}
use Rattle.seg_doc_bytes.proofs.TreeBytes.{one_tree, one_member, one_storable, one_storable_member, array_form, object_form, array_storable, object_storable}
use Rattle.seg_doc_bytes.proofs.tree_writer.+put_tree.Goals as goal

pub put_tree-requires : goal.put_tree-requires
put_tree-requires t c =
    let below : levels (tree_of c.get.result.now) < levels (array (trees_from c.in-Array.values)) = levels-at c.in-Array.values c.loop-at.at (tree_of c.get.result.now) c.get.ensures in
    let is = ap (λ v. levels (tree_of v)) c.in-Array.is in
    (omega (arith, c.decreases, is, below), tt)

pub loop-at-preserved : goal.loop-at-preserved
loop-at-preserved t c =
    let child = tree_of c.get.result.now in
    let values = c.in-Array.values in
    record {
      form = one_tree c.loop-at.out.items c.put_tree.new.out.items values c.loop-at.at child c.get.ensures c.in_ok-put_tree-in-Array.ensures.form ∙ c.loop-at.invariant.form;
      storable = λ others. c.loop-at.invariant.storable (one_storable values c.loop-at.at child c.get.ensures c.in_ok-put_tree-in-Array.ensures.storable others);
    }

pub put_tree-requires-in-loop-index : goal.put_tree-requires-in-loop-index
put_tree-requires-in-loop-index t c =
    let child = c.get-in-loop-index.result.1.now in
    let below : levels (tree_of child) < levels (object (members_from c.in-Object.members)) = member_levels-at c.in-Object.members c.loop-index.index (c.get-in-loop-index.result.0.now, tree_of child) c.get-in-loop-index.ensures in
    let is = ap (λ v. levels (tree_of v)) c.in-Object.is in
    (omega (arith, c.decreases, is, below), tt)

pub loop-index-preserved : goal.loop-index-preserved
loop-index-preserved t c =
    let key = c.get-in-loop-index.result.0.now in
    let child = tree_of c.get-in-loop-index.result.1.now in
    let members = c.in-Object.members in
    let text = c.in_ok-put_text-in-Object.ensures.form in
    let both : c.put_tree-in-loop-index.new.out.items ≡ (c.loop-index.out.items ++ sized key) ++ tree_form child = c.in_ok-put_tree-in-Object.ensures.form ∙ ap (λ xs. xs ++ tree_form child) text in
    record {
      form = one_member c.loop-index.out.items c.put_tree-in-loop-index.new.out.items members c.loop-index.index key child c.get-in-loop-index.ensures both ∙ c.loop-index.invariant.form;
      storable = λ others. c.loop-index.invariant.storable (one_storable_member members c.loop-index.index key child c.get-in-loop-index.ensures c.in_ok-put_text-in-Object.ensures.storable c.in_ok-put_tree-in-Object.ensures.storable others);
    }

pub returns-after-loop-at-clause-form : goal.returns-after-loop-at-clause-form
returns-after-loop-at-clause-form t c =
    rw c.in-Array.is (array_form c.args.out.now.items c.loop-at.out.items c.put_count.new.out.items c.len.result c.loop-at.at c.in-Array.values c.len.ensures c.in_ok-put_count-in-Array.ensures c.loop-at.invariant.form (omega arith))

pub returns-after-loop-at-clause-storable : goal.returns-after-loop-at-clause-storable
returns-after-loop-at-clause-storable t c =
    rw c.in-Array.is (array_storable c.len.result c.loop-at.at c.in-Array.values c.len.ensures (omega arith) c.loop-at.invariant.storable (omega arith))

pub returns-after-loop-index-clause-form : goal.returns-after-loop-index-clause-form
returns-after-loop-index-clause-form t c =
    rw c.in-Object.is (object_form c.args.out.now.items c.loop-index.out.items c.put_count-in-Object.new.out.items c.len-in-Object.result c.loop-index.index c.in-Object.members c.len-in-Object.ensures c.in_ok-put_count-in-Object.ensures c.loop-index.invariant.form (omega arith))

pub returns-after-loop-index-clause-storable : goal.returns-after-loop-index-clause-storable
returns-after-loop-index-clause-storable t c =
    rw c.in-Object.is (object_storable c.len-in-Object.result c.loop-index.index c.in-Object.members c.len-in-Object.ensures (omega arith) c.loop-index.invariant.storable (omega arith))

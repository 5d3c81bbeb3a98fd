use Rattle.std.proofs.Common.{◌<◌, [], ◌∷◌, ◌++◌, ap, sym, ◌∙◌, arith}
use Rattle.seg_values.specs.Tree.{levels, array, object, trees_from, members_from}
use Rattle.seg_values.specs.ValueTrees.{tree_of}
use Rattle.seg_values.proofs.Exports.{levels-at, member_levels-at}
use Rattle.seg_model.specs.DocumentCheck.{tree_refusal}
use Rattle.seg_model.specs.Leaves.{leaves_of_trees, leaves_of_members}
use Rattle.seg_paths.specs.declared.leaves.NumberedLeaf.{NumberedLeaf}
use Rattle.seg_paths.proofs.NodePaths.{above-kept}
use Rattle.seg_paths.proofs.KeyCuts.{deeper, is_above, path-kept}
use Rattle.seg_paths.proofs.PathNumbers.{extends-trans}
use Rattle.seg_paths.proofs.FoundLeaves.{found-kept, leaf-found, one-member, one-tree}
use Rattle.seg_paths.proofs.ZeroFreeKeys.{taken_member, taken_tree}
use Rattle.seg_paths.proofs.leaves.+push_leaves.Goals as goal

pub push_leaves-requires : goal.push_leaves-requires
push_leaves-requires t c =
    let below : levels (tree_of c.get.result.now) < levels (array
    (trees_from c.in-Array.values)) = levels-at c.in-Array.values c.loop-at.at
    (tree_of c.get.result.now) c.get.ensures in
    let is = ap (λ v. levels (tree_of v)) c.in-Array.is in (
      omega (arith, c.decreases, is, below),
      (
        above-kept c.args.table.now c.loop-at.table c.args.above c.loop-at.invariant.extends c.requires.above,
        taken_tree c.in-Array.values c.loop-at.at (tree_of c.get.result.now)
            (sym (ap (λ v. tree_refusal (tree_of v)) c.in-Array.is) ∙ c.requires.taken) c.get.ensures,
      ),
    )

pub loop-at-preserved : goal.loop-at-preserved
loop-at-preserved t c =
    let e = c.args.expand_dots in
    let inv = c.loop-at.invariant in
    let is = c.in_ok-push_leaves-in-Array.ensures in
    record {
      extends = extends-trans c.args.table.now c.loop-at.table c.push_leaves.new.table inv.extends is.extends;
      found = λ keys level found path so_far.
          let before = inv.found keys level found path so_far in
          one-tree e c.push_leaves.new.table c.push_leaves.new.out.items (found ++ leaves_of_trees keys level
          (trees_from c.in-Array.values)) keys level c.loop-at.table c.loop-at.out.items c.in-Array.values
          c.loop-at.at (tree_of c.get.result.now) c.get.ensures before
          (is.leaves keys level before.found
          (path-kept e c.args.table.now c.loop-at.table c.args.above keys inv.extends path) before.numbered);
    }

pub add_key-requires-clause-key : goal.add_key-requires-clause-key
add_key-requires-clause-key t c =
    (taken_member c.in-Object.members c.loop-index.index c.get-in-loop-index.result.0.now
    (tree_of c.get-in-loop-index.result.1.now)
    (sym (ap (λ v. tree_refusal (tree_of v)) c.in-Object.is) ∙ c.requires.taken) c.get-in-loop-index.ensures).0

pub push_leaves-requires-in-loop-index : goal.push_leaves-requires-in-loop-index
push_leaves-requires-in-loop-index t c =
    let key = c.get-in-loop-index.result.0.now in
    let child = c.get-in-loop-index.result.1.now in
    let below : levels (tree_of child) < levels (object
    (members_from c.in-Object.members)) = member_levels-at c.in-Object.members c.loop-index.index (
      key,
      tree_of child,
    ) c.get-in-loop-index.ensures in
    let is = ap (λ v. levels (tree_of v)) c.in-Object.is in (
      omega (arith, c.decreases, is, below),
      (
        is_above c.add_key.new.self c.in_ok-path-in-Object.path _ c.in_ok-path-in-Object.ensures.number,
        (taken_member c.in-Object.members c.loop-index.index key (tree_of child)
            (sym (ap (λ v. tree_refusal (tree_of v)) c.in-Object.is) ∙ c.requires.taken)
            c.get-in-loop-index.ensures).1,
      ),
    )

pub loop-index-preserved : goal.loop-index-preserved
loop-index-preserved t c =
    let e = c.args.expand_dots in
    let key = c.get-in-loop-index.result.0.now in
    let child = c.get-in-loop-index.result.1.now in
    let inv = c.loop-index.invariant in
    let old = c.loop-index.table in
    let mid = c.add_key.new.self in
    let new = c.push_leaves-in-loop-index.new.table in
    let added = c.in_ok-path-in-Object.ensures in
    let is = c.in_ok-push_leaves-in-Object.ensures in
    record {
      extends = extends-trans c.args.table.now old new inv.extends (extends-trans old mid new added.extends is.extends);
      found = λ keys level found path so_far.
          let before = inv.found keys level found path so_far in
          let here = path-kept e c.args.table.now old c.args.above keys inv.extends path in
          let there = deeper e old mid c.args.above keys key c.in_ok-path-in-Object.path here added.number in
          one-member e new c.push_leaves-in-loop-index.new.out.items (found ++ leaves_of_members keys level
          (members_from c.in-Object.members)) keys level old c.loop-index.out.items c.in-Object.members
          c.loop-index.index key (tree_of child) c.get-in-loop-index.ensures before
          (is.leaves (keys ++ key ∷ []) level before.found there
          (found-kept e old mid c.loop-index.out.items before.found added.extends before.numbered));
    }

pub returns-in_ok-push-in_default : goal.returns-in_ok-push-in_default
returns-in_ok-push-in_default t c =
    let e = c.args.expand_dots in
    let one = c.in_ok-path-in_default in
    let l : NumberedLeaf = record { path = one.path; leaf = c.args.value } in
    record {
      extends = one.ensures.extends;
      leaves = λ keys level found path so_far.
          leaf-found e keys level c.args.table.now c.leaf_path.new.table found c.args.out.now.items
          c.push.new.self.items l one.ensures.extends so_far c.in_ok-push-in_default.ensures.items
          (one.ensures.number e keys path) c.in_default.not-Array c.in_default.not-Object;
    }

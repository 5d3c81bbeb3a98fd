use Rattle.std.proofs.Common.{◌≡◌, ◌<◌, ◌+◌, length, ap, sym, ◌∙◌, arith}
use Rattle.seg_values.specs.Tree.{levels, array, object, trees_from, members_from}
use Rattle.seg_values.specs.ValueTrees.{tree_of}
use Rattle.seg_values.proofs.Exports.{levels-at, member_levels-at}
use Rattle.seg_values.specs.StoredBytes.{sized, tree_form}
use Rattle.seg_model.specs.SaturatedNumbers.{saturated}
use Rattle.seg_check.proofs.TextSizeSums.{saturated-sum}
use Rattle.seg_check.proofs.StoredLengths.{array_begins, object_begins, tree_more, member_more, sized_bytes}
use Rattle.seg_check.proofs.stored_len.+tree_len.Goals as goal

pub loop-at-init : goal.loop-at-init
loop-at-init t c = record {
  sum = ap saturated (array_begins c.in-Array.values c.len.result c.number_len-size.result c.len.ensures c.number_len-size.ensures.length) ∙ ap (λ v. saturated (length (tree_form (tree_of v)))) (sym c.in-Array.is);
  fits = omega (arith, c.number_len-size.ensures.most);
}

pub tree_len-requires : goal.tree_len-requires
tree_len-requires t c =
    let below : levels (tree_of c.get.result.now) < levels (array (trees_from c.in-Array.values)) = levels-at c.in-Array.values c.loop-at.at (tree_of c.get.result.now) c.get.ensures in
    let is = ap (λ v. levels (tree_of v)) c.in-Array.is in
    (omega (arith, c.decreases, is, below), tt)

pub loop-at-preserved : goal.loop-at-preserved
loop-at-preserved t c = record {
  sum = tree_more c.loop-at.size c.saturating_add-size.result c.in-Array.values c.loop-at.at (tree_of c.get.result.now) c.get.ensures (c.saturating_add-size.ensures ∙ ap (λ n. saturated (c.loop-at.size + n)) c.tree_len.ensures) ∙ c.loop-at.invariant.sum;
  fits = omega (arith, c.saturating_add-size.type_inv);
}

pub loop-index-init : goal.loop-index-init
loop-index-init t c = record {
  sum = ap saturated (object_begins c.in-Object.members c.len-in-Object.result c.number_len-size-in-Object.result c.len-in-Object.ensures c.number_len-size-in-Object.ensures.length) ∙ ap (λ v. saturated (length (tree_form (tree_of v)))) (sym c.in-Object.is);
  fits = omega (arith, c.number_len-size-in-Object.ensures.most);
}

pub tree_len-requires-in-loop-index : goal.tree_len-requires-in-loop-index
tree_len-requires-in-loop-index t c =
    let child = c.get-in-loop-index.result.1.now in
    let below : levels (tree_of child) < levels (object (members_from c.in-Object.members)) = member_levels-at c.in-Object.members c.loop-index.index (c.get-in-loop-index.result.0.now, tree_of child) c.get-in-loop-index.ensures in
    let is = ap (λ v. levels (tree_of v)) c.in-Object.is in
    (omega (arith, c.decreases, is, below), tt)

pub loop-index-preserved : goal.loop-index-preserved
loop-index-preserved t c =
    let key = c.get-in-loop-index.result.0.now in
    let child = tree_of c.get-in-loop-index.result.1.now in
    let sized_is : c.sized_len.result ≡ saturated (length (sized key)) = c.sized_len.ensures ∙ ap saturated (sized_bytes key) in
    let member : c.saturating_add-member.result ≡ saturated (length (sized key) + length (tree_form child)) = c.saturating_add-member.ensures
    ∙ ap (λ n. saturated (n + c.tree_len-in-loop-index.result)) sized_is
    ∙ ap (λ n. saturated (saturated (length (sized key)) + n)) c.tree_len-in-loop-index.ensures
    ∙ sym (saturated-sum (length (sized key)) (length (tree_form child))) in
    record {
      sum = member_more c.loop-index.size c.saturating_add-size-in-loop-index.result c.in-Object.members c.loop-index.index key child c.get-in-loop-index.ensures
          (c.saturating_add-size-in-loop-index.ensures ∙ ap (λ n. saturated (c.loop-index.size + n)) member) ∙ c.loop-index.invariant.sum;
      fits = omega (arith, c.saturating_add-size-in-loop-index.type_inv);
    }

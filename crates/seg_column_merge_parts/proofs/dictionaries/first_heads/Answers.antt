use Rattle.std.proofs.Common.{sym, subst}
use Rattle.seg_column_merge_parts.specs.TermHeads.{Advances}
use Rattle.seg_column_merge_parts.specs.UsedTerms.{MarkedTerms}
use Rattle.seg_column_merge_parts.proofs.HeadCalls.{item_is}
use Rattle.seg_column_merge_parts.proofs.HeadSteps.{AreBegun, all_begun, none_begun, one_begun}
use Rattle.seg_column_merge_parts.proofs.dictionaries.first_heads.Goals as goal

pub loop-place-init : goal.loop-place-init
loop-place-init c = subst (AreBegun c.args.columns.now 0) (sym c.new-heads.ensures) (none_begun c.args.columns.now)

pub loop-place-preserved : goal.loop-place-preserved
loop-place-preserved c =
    let columns = c.args.columns.now in
    let place = c.loop-place.place in
    let lt = c.loop-place-test.true in
    let m = c.index-columns-place.result in
    one_begun columns place lt c.loop-place.heads c.begin.new.heads c.loop-place.invariant
    (subst (λ (t : MarkedTerms). Advances t place 0 c.loop-place.heads c.begin.new.heads)
    (item_is columns place m lt c.index-columns-place.is) c.in_ok-begin.ensures)

pub returns : goal.returns
returns c =
    all_begun c.args.columns.now c.loop-place.place c.loop-place.heads c.loop-place-test.false c.loop-place.invariant

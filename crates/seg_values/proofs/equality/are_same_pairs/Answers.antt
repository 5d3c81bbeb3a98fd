use mathlib.Core.Bool.{false≢true}
use Rattle.seg_values.specs.ValueTrees.{tree_of}
use Rattle.seg_values.proofs.EqualLists.{more_same, same_at, same_pair, other_pair}
use Rattle.seg_values.proofs.equality.are_same_pairs.Goals as goal

pub returns-then-ne : goal.returns-then-ne
returns-then-ne c = (
  λ h. absurd (false≢true h),
  λ e. absurd (other_pair c.ne.result (c.pair.result.0, tree_of c.pair.result.1.now) (c.pair-in-loop-at.result.0, tree_of c.pair-in-loop-at.result.1.now) c.ne.ensures c.if-ne.true (same_at c.args.a.now c.args.b.now c.loop-at.at _ _ c.pair.ensures c.pair-in-loop-at.ensures e)),
)

pub loop-at-preserved : goal.loop-at-preserved
loop-at-preserved c =
    more_same c.args.a.now c.args.b.now c.loop-at.at _ _ c.pair.ensures c.pair-in-loop-at.ensures
    (same_pair c.ne.result (c.pair.result.0, tree_of c.pair.result.1.now) (c.pair-in-loop-at.result.0, tree_of c.pair-in-loop-at.result.1.now) c.ne.ensures c.if-ne.false) c.loop-at.invariant

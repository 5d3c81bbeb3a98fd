use Rattle.std.proofs.Common.{map}
use Rattle.seg_column_merge_parts.proofs.HeadSteps.{SoFar, measure}
use Rattle.seg_column_merge_parts.proofs.dictionaries.MergedTerms.of.Given as goal

abbrev pub invariant-loop-term : goal.invariant-loop-term
invariant-loop-term l =
    SoFar l.columns l.heads (map (λ t. t.now) l.terms.items) (map (λ v. v.items) l.ordinals.items)

abbrev pub decreases-loop-term : goal.decreases-loop-term
decreases-loop-term l = measure l.columns l.heads

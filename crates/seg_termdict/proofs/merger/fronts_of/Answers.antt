use Rattle.std.proofs.Common.{◌<◌, ◌++◌, List, [], length, arith, subst}
use Rattle.std.specs.List.Sorted.{IsPermutation}
use Rattle.std.proofs.lemmas.List.{get_or_read}
use Rattle.seg_common.specs.declared.term_info.TermInfo.{TermInfo}
use Rattle.seg_termdict.specs.SortedTerms.{RankedTerm}
use Rattle.seg_termdict.specs.MergerHeap.{front_at}
use Rattle.seg_termdict.proofs.FrontSums.{sum_more}
use Rattle.seg_termdict.proofs.merger.fronts_of.Goals as goal

pub loop-segment-preserved : goal.loop-segment-preserved
loop-segment-preserved c = λ f.
    let hs = c.args.heads.now in
    let i = c.loop-segment.segment in
    let lt : i < length hs = omega (arith, c.loop-segment-test.true) in
    sum_more f i hs _ _ _ lt (subst (λ (h : List (RankedTerm TermInfo)). IsPermutation (front_at i h ++ c.loop-segment.fronts) c.push_first.new.fronts) (get_or_read hs i _ lt c.index-heads-segment.is []) c.in_ok-push_first.ensures) (c.loop-segment.invariant f)

use Rattle.std.proofs.Common.{◌∙◌, ap, subst}
use Rattle.std.specs.List.{AllByRecursion}
use Rattle.seg_open.specs.OpenSegment.{IsMarked, kept_count}
use Rattle.seg_merger.proofs.FittingFilters.{of_full_shape}
use Rattle.seg_merger.proofs.KeptCounts.{HasShape}
use Rattle.seg_merger.proofs.index_merger.IndexMerger.from_readers.Goals as goal

pub invariant_of-result : goal.invariant_of-result
invariant_of-result c =
    let same = c.deref.ensures.value in
    let shaped = subst (AllByRecursion HasShape) same c.in-Some.ensures.shape in
    let marked = subst (AllByRecursion IsMarked) same c.in-Some.ensures.marked in
    let counted = c.in-Some.ensures.counted.0 ∙ ap kept_count same in
    (of_full_shape c.args.schema c.args.readers.items c.requires.schema shaped, marked, counted, c.in-Some.ensures.counted.1)

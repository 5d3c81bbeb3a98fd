use Rattle.std.proofs.Common.{length}
use Rattle.std.proofs.lemmas.Slice.Zip.{zip_end}
use Rattle.seg_index_build.proofs.MergeOutputs.{all_kept}
use Rattle.seg_index_build.proofs.filtered_merge.live_filters.Goals as goal

pub returns : goal.returns
returns c =
    let segments = c.args.segments.now in
    let filters = c.args.filters.now in
    all_kept segments filters (length c.loop-segment.yielded)
    (zip_end segments filters c.loop-segment.yielded c.into_iter-segment-iterator.result c.loop-segment.segment-iterator
    c.next.new.self c.next.result (cc) (cc) c.loop-segment.yielded_by c.in-None.is c.next.ensures.steps)
    c.loop-segment.kept.items c.loop-segment.invariant

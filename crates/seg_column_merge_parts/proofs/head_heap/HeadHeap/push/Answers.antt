use Rattle.seg_column_merge_parts.proofs.HeadHeaps.{pushed}
use Rattle.seg_column_merge_parts.proofs.head_heap.HeadHeap.push.Goals as goal

pub returns : goal.returns
returns c = pushed _ c.self.inside.heap.data.items c.push.new.self.data.items c.self.view_is
    record { 0 = (c.args.bytes, c.args.first, c.args.second) } c.in-Ok.ensures.permutation

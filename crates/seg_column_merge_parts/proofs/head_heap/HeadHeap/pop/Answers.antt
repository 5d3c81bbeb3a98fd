use Rattle.seg_column_merge_parts.proofs.HeadHeaps.{popped}
use Rattle.seg_column_merge_parts.specs.HeadHeaps.{Entry}
use Rattle.seg_column_merge_parts.proofs.head_heap.HeadHeap.pop.Goals as goal

pub returns-clause-some : goal.returns-clause-some
returns-clause-some c =
    let x : Entry = c.in-Some.field-0 in
    let h = c.in-Some.ensures in
    popped _ c.self.inside.heap.data.items c.pop.new.self.data.items c.self.view_is x h.permutation
    (h.below_top c.self.invariant)

use Rattle.seg_termdict.proofs.MergerHeap.{first_of, first_among}
use Rattle.seg_termdict.proofs.fronts.Fronts.first.Goals as goal

pub returns-clause-some : goal.returns-clause-some
returns-clause-some c =
    let x = c.in-Some.field-0.now in
    let xs = c.self.inside.heap.data.items in
    let h = c.in-Some.ensures in
    (first_of _ xs c.self.view_is x (h.greatest c.self.invariant), first_among _ xs c.self.view_is x h.item.3.0 h.lookup)

use Rattle.seg_termdict.proofs.MergerHeap.{pushed}
use Rattle.seg_termdict.proofs.fronts.Fronts.push.Goals as goal

pub returns : goal.returns
returns c = pushed _ c.self.inside.heap.data.items c.push.new.self.data.items c.self.view_is record { 0 = (c.args.key, c.args.segment) } c.in-Ok.ensures.permutation

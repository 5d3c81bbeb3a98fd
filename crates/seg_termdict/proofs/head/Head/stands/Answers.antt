use Rattle.std.proofs.Common.{◌∙◌, ap}
use Rattle.std.specs.Prelude.{nat_lt, length}
use Rattle.seg_termdict.proofs.StreamHeads.{stands_is}
use Rattle.seg_termdict.proofs.head.Head.stands.Goals as goal

pub returns : goal.returns
returns c = stands_is c.self.inside.stream c.self.inside.stands c.self.invariant ∙ ap (λ ts. nat_lt 0 (length ts)) c.self.view_is

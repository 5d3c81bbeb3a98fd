use Rattle.std.proofs.Common.{Bool, sym, ap, subst, ◌∙◌}
use Rattle.seg_termdict.specs.TermStreams.{Stream}
use Rattle.seg_termdict.specs.TermRanges.{between}
use Rattle.seg_termdict.specs.MergedStreams.{Ascends}
use Rattle.seg_termdict.proofs.StreamHeads.{between_ascends}
use Rattle.seg_termdict.proofs.streamer.TermStreamer.keys_ascend.Goals as goal

pub returns : goal.returns
returns c = λ forward.
    let i = c.self.inside in
    let terms = i.dictionary.now in
    let inside_forward = ap (λ (s : Stream). s.backward) c.self.view_is ∙ forward in
    subst (λ (s : Stream). Ascends s.terms) c.self.view_is
    (subst (λ (b : Bool). Ascends (between b terms i.start i.end)) (sym inside_forward) (between_ascends terms i.start i.end c.keys_ascend.ensures))

use Rattle.std.proofs.Common.{sym, ap, ◌∙◌, arith}
use Rattle.seg_termdict.specs.TermStreams.{Stream, current}
use Rattle.seg_termdict.proofs.RankedTerms.{stands_at}
use Rattle.seg_termdict.proofs.streamer.TermStreamer.term_ord.Goals as goal

pub returns-else-self-eq0 : goal.returns-else-self-eq0
returns-else-self-eq0 c =
    let i = c.self.inside in
    c.place.ensures.place
    ∙ sym (ap (λ t. t.ord) (stands_at i.dictionary.now i.start i.end c.self.invariant.0 i.backward i.taken (omega (arith, c.if-self-eq0.false)) c.self.invariant.1))
    ∙ ap (λ (s : Stream). (current s).ord) c.self.view_is

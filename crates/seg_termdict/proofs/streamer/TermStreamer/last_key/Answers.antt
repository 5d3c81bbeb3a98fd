use Rattle.std.proofs.Common.{sym, ap, ◌∙◌, arith}
use Rattle.seg_termdict.specs.TermStreams.{Stream, current}
use Rattle.seg_termdict.specs.TermRanges.{key_at}
use Rattle.seg_termdict.proofs.RankedTerms.{stands_at, key_there}
use Rattle.seg_termdict.proofs.streamer.TermStreamer.last_key.Goals as goal

pub returns : goal.returns
returns c =
    let i = c.self.inside in
    let terms = i.dictionary.now in
    sym (key_there terms c.place-last.result c.key.result.now (omega (arith, c.place-last.ensures.within, c.self.invariant.0)) c.key.ensures)
    ∙ ap (key_at terms) c.place-last.ensures.place
    ∙ sym (ap (λ t. t.key) (stands_at terms i.start i.end c.self.invariant.0 i.backward i.taken (omega (arith, c.requires, ap (λ (s : Stream). s.taken) c.self.view_is)) c.self.invariant.1))
    ∙ ap (λ (s : Stream). (current s).key) c.self.view_is

use Rattle.std.proofs.Common.{◌≡◌, ◌-◌, ap, ◌∙◌, arith}
use Rattle.seg_termdict.specs.SortedTerms.{TermRange, streamed}
use Rattle.seg_termdict.specs.TermRanges.{Ranged, sorted_terms}
use Rattle.seg_termdict.specs.TermStreams.{before_all}
use Rattle.seg_termdict.proofs.RankedTerms.{streamed_between}
use Rattle.seg_termdict.proofs.streamer_builder.TermStreamerBuilder.into_stream.Goals as goal

pub returns : goal.returns
returns c =
    let i = c.self.inside in
    let range : TermRange = record { lower = i.lower; upper = i.upper; backward = i.backward } in
    let last : c.max-end.result - c.start_place-start.result ≡ c.end_place.result - c.start_place-start.result = omega (arith, c.max-end.ensures) in
    c.new.ensures
    ∙ ap (before_all i.backward) (streamed_between i.dictionary.now range c.start_place-start.result c.end_place.result c.start_place-start.ensures c.end_place.ensures c.keys_ascend.ensures c.max-end.result last)
    ∙ ap (λ (r : Ranged). before_all r.range.backward (streamed r.range (sorted_terms r.terms))) c.self.view_is

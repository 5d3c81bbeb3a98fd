use Rattle.std.proofs.Common.{◌≡◌, ℕ, ◌+◌, ◌<◌, true, length, get_or, sym, ap, ◌∙◌, arith}
use Rattle.std.specs.Prelude.{nat_lt}
use Rattle.std.proofs.lemmas.Bool.{lt-ltb, cond-true}
use Rattle.seg_termdict.specs.TermStreams.{Stream, no_term, advanced}
use Rattle.seg_termdict.specs.TermRanges.{between, place_of}
use Rattle.seg_termdict.proofs.RankedTerms.{between_length, comes_to, info_there}
use Rattle.seg_termdict.proofs.streamer.TermStreamer.advance.Goals as goal

more : (c : goal.After-self-2-1) → nat_lt c.self.inside.taken (length (between c.self.inside.backward c.self.inside.dictionary.now c.self.inside.start c.self.inside.end)) ≡ true
more c =
    let i = c.self.inside in
    lt-ltb _ _ (omega (arith, c.if-self.false, between_length i.dictionary.now i.start i.end c.self.invariant.0 i.backward (omega (arith, c.if-self.false))))

pub invariant_of-self : goal.invariant_of-self
invariant_of-self c =
    let i = c.self.inside in
    let terms = i.dictionary.now in
    let there : place_of i.backward i.start i.end i.taken < length terms = omega (arith, c.place-next.ensures.place, c.place-next.ensures.within, c.self.invariant.0) in
    let info : (get_or terms (place_of i.backward i.start i.end i.taken) no_term).1 ≡ c.term_info_from_ord-self-inside.result = ap (λ (k : ℕ). (get_or terms k no_term).1) (sym c.place-next.ensures.place) ∙ info_there terms c.place-next.result _ (omega (arith, c.place-next.ensures.within, c.self.invariant.0)) c.term_info_from_ord-self-inside.ensures in
    (c.self.invariant.0, omega (arith, c.if-self.false), sym info ∙ sym (ap (λ t. t.info) (comes_to terms i.start i.end c.self.invariant.0 i.backward i.taken c.if-self.false)))

pub returns-clause-more : goal.returns-clause-more
returns-clause-more c = sym (ap (λ (s : Stream). nat_lt s.taken (length s.terms)) (sym c.self.view_is) ∙ more c)

pub returns-clause-place : goal.returns-clause-place
returns-clause-place c =
    let i = c.self.inside in
    let s : Stream = record { terms = between i.backward i.dictionary.now i.start i.end; backward = i.backward; taken = i.taken } in
    let next : Stream = record { terms = s.terms; backward = s.backward; taken = s.taken + 1 } in
    sym (ap advanced (sym c.self.view_is) ∙ cond-true (nat_lt s.taken (length s.terms)) next s (more c))

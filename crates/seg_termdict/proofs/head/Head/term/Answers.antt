use Rattle.std.proofs.Common.{◌≡◌, ◌∙◌, ◌<◌, List, length, ap, sym, subst}
use Rattle.seg_common.specs.declared.term_info.TermInfo.{TermInfo}
use Rattle.seg_termdict.specs.SortedTerms.{RankedTerm}
use Rattle.seg_termdict.specs.MergedStreams.{first}
use Rattle.seg_termdict.specs.TermStreams.{current}
use Rattle.seg_termdict.proofs.StreamHeads.{seen_as, stands_from}
use Rattle.seg_termdict.proofs.head.Head.term.Goals as goal

pub returns : goal.returns
returns c =
    let s = c.self.inside.stream in
    let stands = stands_from s c.self.inside.stands (subst (λ (ts : List (RankedTerm TermInfo)). 0 < length ts) (sym c.self.view_is) c.requires) in
    let told : (c.term_ord.result, c.value.result.now) ≡ ((current s).ord, (current s).info) = λ i. (c.term_ord.ensures i, c.value.ensures i) in
    told ∙ ap (λ (ts : List (RankedTerm TermInfo)). ((first ts).ord, (first ts).info)) (seen_as s c.self.inside.stands c.args.self.now c.self.invariant stands c.self.view_is)

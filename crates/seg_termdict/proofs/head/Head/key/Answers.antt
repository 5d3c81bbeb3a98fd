use Rattle.std.proofs.Common.{◌<◌, ◌∙◌, List, length, ap, sym, subst}
use Rattle.seg_common.specs.declared.term_info.TermInfo.{TermInfo}
use Rattle.seg_termdict.specs.SortedTerms.{RankedTerm}
use Rattle.seg_termdict.specs.MergedStreams.{first}
use Rattle.seg_termdict.proofs.StreamHeads.{seen_as, stands_from}
use Rattle.seg_termdict.proofs.head.Head.key.Goals as goal

pub returns : goal.returns
returns c =
    let s = c.self.inside.stream in
    let stands = stands_from s c.self.inside.stands (subst (λ (ts : List (RankedTerm TermInfo)). 0 < length ts) (sym c.self.view_is) c.requires) in
    c.last_key.ensures ∙ ap (λ (ts : List (RankedTerm TermInfo)). (first ts).key) (seen_as s c.self.inside.stands c.args.self.now c.self.invariant stands c.self.view_is)

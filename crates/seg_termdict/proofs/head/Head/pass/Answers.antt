use Rattle.std.proofs.Common.{◌∙◌, ◌<◌, List, length, drop, ap, sym, subst}
use Rattle.seg_common.specs.declared.term_info.TermInfo.{TermInfo}
use Rattle.seg_termdict.specs.SortedTerms.{RankedTerm}
use Rattle.seg_termdict.proofs.StreamHeads.{seen_as, stands_from, after_advance}
use Rattle.seg_termdict.proofs.head.Head.pass.Goals as goal

pub returns : goal.returns
returns c =
    let s = c.self.inside.stream in
    let stands = stands_from s c.self.inside.stands (subst (λ (ts : List (RankedTerm TermInfo)). 0 < length ts) (sym c.self.view_is) c.requires) in
    after_advance s c.advance-self-inside.new.self c.advance-self-inside.result c.advance-self-inside.ensures.more c.advance-self-inside.ensures.place
    ∙ ap (λ (ts : List (RankedTerm TermInfo)). drop 1 ts) (seen_as s c.self.inside.stands c.args.self.now c.self.invariant stands c.self.view_is)

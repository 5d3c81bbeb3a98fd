use Rattle.std.proofs.Common.{ℕ, ◌∙◌, drop, ap, sym, subst}
use Rattle.seg_termdict.specs.MergedStreams.{Ascends}
use Rattle.seg_termdict.proofs.StreamHeads.{after_advance}
use Rattle.seg_termdict.proofs.head.Head.new.Goals as goal

pub returns-clause-order : goal.returns-clause-order
returns-clause-order c =
    let s = c.args.stream in
    let e = after_advance s c.advance-stands.new.self c.advance-stands.result c.advance-stands.ensures.more c.advance-stands.ensures.place in
    subst Ascends (sym (e ∙ ap (λ (n : ℕ). drop n s.terms) c.requires.fresh)) (c.keys_ascend.ensures c.requires.forward)

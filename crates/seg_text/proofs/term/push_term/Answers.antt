use Rattle.std.proofs.Common.{◌≡◌, ◌<◌, true, length, sym, ◌∙◌, arith, rules}
use Rattle.std.specs.List.{list_all}
use Rattle.seg_text.specs.TermText.{is_plain}
use Rattle.seg_text.proofs.PlainTerms.{term_text-plain}
use Rattle.seg_text.proofs.term.push_term.Goals as goal

pub returns-then-are_plain : goal.returns-then-are_plain
returns-then-are_plain c =
    let some : 0 < length c.args.bytes.now = grind arith in
    let plain : list_all is_plain c.args.bytes.now ≡ true = sym c.are_plain.ensures ∙ c.if-are_plain.true in
    rw (term_text-plain c.args.bytes.now plain some) (search rules)

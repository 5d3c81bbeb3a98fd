use Rattle.std.proofs.Common.{sym, length, arith}
use Rattle.std.specs.Char.{is_ascii_digit}
use Rattle.std.proofs.lemmas.List.Sums.{prefix_len_is}
use Rattle.seg_common.proofs.date_numeral.leading_digits.Goals as goal

pub returns-then-not-is_ascii_digit : goal.returns-then-not-is_ascii_digit
returns-then-not-is_ascii_digit c =
    sym (prefix_len_is is_ascii_digit c.args.text.now c.loop-at.at 0 (omega arith) c.loop-at.invariant (λ _. sym c.if-not-is_ascii_digit.ensures.value))

pub returns : goal.returns
returns c =
    sym (prefix_len_is is_ascii_digit c.args.text.now (length c.args.text.now) 0 (omega arith) (λ k h. c.loop-at.invariant k (omega arith)) (λ h. absurd (omega arith)))

use Rattle.std.proofs.Common.{◌≡◌, ◌+◌, ◌*◌, ◌-ℤ◌, ◌∙◌, ℤ, pos, neg_ℤ, Some, ap, sym, arith, w64, of_z, to_z}
use Rattle.std.proofs.lemmas.Int.{ints}
use Rattle.seg_common.proofs.ParsedDates.{west_read}
use Rattle.seg_common.proofs.date_read.read_offset.Goals as goal

pub returns-in-45-clause-value : goal.returns-in-45-clause-value
returns-in-45-clause-value c =
    let west : to_z w64 (of_z w64 (pos 0 -ℤ to_z w64 (of_z w64 c.from-minutes.result))) ≡ neg_ℤ (pos (c.in_ok-hours.hours * 60 + c.in_ok-minutes.minutes)) = omega (arith, ints, c.from-minutes.ensures) in
    ap (λ (z : ℤ). Some z) west
    ∙ sym (west_read c.args.text.now c.in_ok-hours.hours c.in_ok-minutes.minutes c.if-text-ne6.false c.if-text-ne58.false c.in-45.is c.in_ok-hours.ensures.value c.in_ok-minutes.ensures.value c.if-hours-gt23.false c.if-minutes-gt59.false)

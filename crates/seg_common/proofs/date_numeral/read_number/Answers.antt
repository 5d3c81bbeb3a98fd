use Rattle.std.proofs.Common.{◌≡◌, ◌<◌, get_or, length, true, sym, arith}
use Rattle.std.specs.Char.{is_ascii_digit}
use Rattle.seg_common.proofs.DateNumerals.{bound_more, digit_bounds, digits_more, nine_digits, value_more}
use Rattle.seg_common.proofs.date_numeral.read_number.Goals as goal

pub overflow_mul-number : goal.overflow_mul-number
overflow_mul-number c =
    omega (arith, nine_digits c.loop-byte.byte-index c.loop-byte.number c.loop-byte.invariant.bound (omega (arith, c.requires)))

pub overflow_add-number : goal.overflow_add-number
overflow_add-number c =
    omega (arith, nine_digits c.loop-byte.byte-index c.loop-byte.number c.loop-byte.invariant.bound (omega (arith, c.requires)))

pub loop-byte-preserved : goal.loop-byte-preserved
loop-byte-preserved c =
    let text = c.args.text.now in
    let at = c.loop-byte.byte-index in
    let here : is_ascii_digit (get_or text at 0) ≡ true = sym c.if-not-is_ascii_digit.ensures.value in
    let within : at < length text = omega arith in
    record {
      digits = digits_more text at within c.loop-byte.invariant.digits here;
      value = rw c.from.ensures (value_more text at c.loop-byte.number within here c.loop-byte.invariant.value);
      bound = bound_more at c.loop-byte.number c.from.result c.loop-byte.invariant.bound (omega (arith, digit_bounds (get_or text at 0) here));
    }

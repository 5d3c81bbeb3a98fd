use Rattle.std.proofs.Common.{◌-◌, arith, drop, take, length}
use Rattle.std.specs.Char.{is_ascii_digit}
use Rattle.std.proofs.lemmas.List.Sums.{prefix_len-le-length}
use Rattle.std.proofs.lemmas.List.{length-drop, length-take}
use Rattle.seg_common.proofs.date_read.fraction_len.Goals as goal

pub overflow_add-result : goal.overflow_add-result
overflow_add-result c =
    let text = c.args.text.now in
    omega (arith, c.leading_digits.ensures, prefix_len-le-length is_ascii_digit (take (length text - 1) (drop 1 text)), length-take (length text - 1) (drop 1 text), length-drop 1 text)

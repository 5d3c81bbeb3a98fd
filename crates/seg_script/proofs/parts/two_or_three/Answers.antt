use Rattle.std.proofs.Common.{sym, arith}
use Rattle.seg_script.proofs.ReadItems.{not_two_or_three}
use Rattle.seg_script.proofs.parts.two_or_three.Goals as goal

pub returns-in_err-first-2 : goal.returns-in_err-first-2
returns-in_err-first-2 c =
    rw c.from_residual-in_err-first-2.ensures
    (sym (not_two_or_three c.args.items.items c.in_err-first-2.ensures (λ e. omega (arith, c.len.ensures, e))))

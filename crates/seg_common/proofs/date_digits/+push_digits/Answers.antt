use Rattle.std.proofs.Common.{arith}
use Rattle.seg_common.proofs.LastDateZeros.{digits_next}
use Rattle.seg_common.proofs.date_digits.+push_digits.Goals as goal

pub returns : goal.returns
returns t c = digits_next c.args.count c.args.number c.args.out.now.items c.push_digits.new.out.items c.push.new.self.items (omega (arith, c.if-count-eq0.false)) c.in_ok-push_digits.ensures c.in_ok-push.ensures.items

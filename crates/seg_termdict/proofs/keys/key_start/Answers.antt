use Rattle.std.proofs.Common.{sym, ◌∙◌, arith}
use Rattle.seg_termdict.proofs.DictionaryKeys.{key_start-first, key_start-later}
use Rattle.seg_termdict.proofs.keys.key_start.Goals as goal

pub returns-then-i-eq0 : goal.returns-then-i-eq0
returns-then-i-eq0 c = rw c.if-i-eq0.true (sym (key_start-first c.args.ends.now))

pub returns-else-i-eq0 : goal.returns-else-i-eq0
returns-else-i-eq0 c = c.u64_at.ensures ∙ sym (key_start-later c.args.ends.now c.args.i (omega (arith, c.if-i-eq0.false)))

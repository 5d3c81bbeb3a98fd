use Rattle.std.proofs.Common.{[], ◌∷◌, arith}
use Rattle.seg_check.proofs.Exports.{start-from}
use Rattle.seg_build.proofs.tokens.next_start.Goals as goal

pub overflow_cast-result : goal.overflow_cast-result
overflow_cast-result c = omega (arith, start-from c.args.start (c.args.tokens.now ∷ []), c.text_width.ensures, c.requires)

pub overflow_add-result : goal.overflow_add-result
overflow_add-result c = omega (arith, start-from c.args.start (c.args.tokens.now ∷ []), c.text_width.ensures, c.requires)

pub returns : goal.returns
returns c = omega (arith, start-from c.args.start (c.args.tokens.now ∷ []), c.text_width.ensures, c.requires)

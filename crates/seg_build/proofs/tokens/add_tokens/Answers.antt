use Rattle.std.proofs.Common.{refl, arith}
use Rattle.seg_build.proofs.tokens.add_tokens.Goals as goal

pub loop-token-init : goal.loop-token-init
loop-token-init c = record { terms = refl; small = let next = c.requires in omega (arith, next) }

use Rattle.std.proofs.Common.{refl, arith}
use Rattle.seg_columns.specs.Ends.{start_at}
use Rattle.seg_columns.proofs.ends.ends_rise.Goals as goal

pub loop-part-init : goal.loop-part-init
unfolding start_at
loop-part-init c = record { before = refl; rise = λ i lt. absurd (omega (arith, lt)) }

use Rattle.std.proofs.Common.{ap, sym, ◌∙◌}
use Rattle.seg_bits.specs.BitSets.{is_bit_set}
use Rattle.seg_bits.proofs.SetBytes.{reads_some}
use Rattle.seg_bits.proofs.read_only_bit_set.ReadOnlyBitSet.open.Goals as goal

pub returns-in-Some-clause-ok : goal.returns-in-Some-clause-ok
returns-in-Some-clause-ok c = reads_some c.args.bytes (ap is_bit_set (sym c.as_slice.ensures) ∙ c.in-Some.ensures.1)

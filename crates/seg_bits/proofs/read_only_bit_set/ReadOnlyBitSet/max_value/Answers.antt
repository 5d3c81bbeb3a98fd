use Rattle.std.proofs.Common.{length, ap, sym, ◌∙◌}
use Rattle.seg_bits.proofs.SetLookUps.{length-set_in}
use Rattle.seg_bits.proofs.read_only_bit_set.ReadOnlyBitSet.max_value.Goals as goal

pub returns : goal.returns
returns c = c.self.invariant.0 ∙ sym (length-set_in c.self.inside.bytes) ∙ ap length c.self.view_is

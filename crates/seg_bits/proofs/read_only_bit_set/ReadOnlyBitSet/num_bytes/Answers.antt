use Rattle.std.proofs.Common.{◌+◌, ◌*◌, length, ap, sym, ◌∙◌}
use Rattle.seg_bits.specs.BitSets.{words_for}
use Rattle.seg_bits.proofs.SetLookUps.{length-set_in}
use Rattle.seg_bits.proofs.SetBytes.{set_length}
use Rattle.seg_bits.proofs.read_only_bit_set.ReadOnlyBitSet.num_bytes.Goals as goal

pub returns : goal.returns
returns c =
    c.len.ensures ∙ set_length c.self.inside.bytes c.self.invariant.1
    ∙ ap (λ n. 4 + 8 * words_for n) (sym (length-set_in c.self.inside.bytes) ∙ ap length c.self.view_is)

use Rattle.std.proofs.Common.{length, ap, sym, ◌∙◌}
use Rattle.seg_common.specs.LittleEndian.{u32_at}
use Rattle.seg_bits.proofs.SetLookUps.{length-set_in}
use Rattle.seg_bits.proofs.read_only_bit_set.intersect_bitsets.Goals as goal

pub shared_words-requires-clause-right : goal.shared_words-requires-clause-right
shared_words-requires-clause-right c =
    c.left.invariant.0 ∙ sym (length-set_in c.left.inside.bytes) ∙ ap length c.left.view_is ∙ c.requires
    ∙ sym (ap length c.right.view_is) ∙ length-set_in c.right.inside.bytes ∙ ap (λ bs. u32_at bs 0) (sym c.as_slice-2.ensures)

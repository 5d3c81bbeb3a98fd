use Rattle.std.proofs.Common.{length, sym, ap, ◌∙◌}
use Rattle.seg_bits.proofs.Members.{length-members}
use Rattle.seg_bits.proofs.bit_set.BitSet.max_value.Goals as goal

pub returns : goal.returns
returns c = sym (length-members c.self.inside.max_value c.self.inside.words.items c.self.invariant.enough) ∙ ap length c.self.view_is

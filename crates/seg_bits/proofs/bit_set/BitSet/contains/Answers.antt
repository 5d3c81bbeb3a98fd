use Rattle.std.proofs.Common.{Bool, false, List, get_or, ap, ◌∙◌}
use Rattle.seg_bits.proofs.SetWords.{looked_up}
use Rattle.seg_bits.proofs.bit_set.BitSet.contains.Goals as goal

pub returns : goal.returns
returns c =
    looked_up c.self.inside.max_value c.self.inside.words.items c.self.inside.len c.args.value c.index.result.now c.self.invariant c.if-value-self.false c.index.ensures
    ∙ ap (λ (bs : List Bool). get_or bs c.args.value false) c.self.view_is

use Rattle.std.proofs.Common.{◌<◌, ℕ, Bool, false, true, List, get_or, set, length, sym, ap, ◌∙◌, arith}
use Rattle.seg_bits.proofs.SetWords.{inserted, inserted_is}
use Rattle.seg_bits.proofs.Members.{length-members}
use Rattle.seg_bits.proofs.bit_set.BitSet.insert.Goals as goal

pub invariant_of-self : goal.invariant_of-self
invariant_of-self c =
    let size : ℕ = c.self.inside.max_value in
    let words : List ℕ = c.self.inside.words.items in
    let below : c.args.value < size = omega (arith, length-members size words c.self.invariant.enough, ap length c.self.view_is, c.requires) in
    inserted size words c.self.inside.len c.args.value c.index_mut.result.now c.self.invariant below c.index_mut.ensures.value
    (ap (λ (bs : List Bool). get_or bs c.args.value false) c.self.view_is ∙ sym c.contains.ensures ∙ c.if-contains.false)

pub returns : goal.returns
returns c =
    let size : ℕ = c.self.inside.max_value in
    let words : List ℕ = c.self.inside.words.items in
    let below : c.args.value < size = omega (arith, length-members size words c.self.invariant.enough, ap length c.self.view_is, c.requires) in
    inserted_is size words c.self.inside.len c.args.value c.index_mut.result.now c.self.invariant below c.index_mut.ensures.value
    ∙ ap (λ (bs : List Bool). set bs c.args.value true) c.self.view_is

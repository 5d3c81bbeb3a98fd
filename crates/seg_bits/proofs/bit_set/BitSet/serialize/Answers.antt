use Rattle.std.proofs.Common.{◌≡◌, ℕ, List, Some, length, ap, ◌∙◌}
use Rattle.seg_bits.specs.BitSets.{members, is_clear_from}
use Rattle.seg_bits.proofs.WrittenSets.{spelled, read_back}
use Rattle.seg_bits.proofs.bit_set.BitSet.serialize.Goals as goal

pub returns-in-Ok-clause-ok : goal.returns-in-Ok-clause-ok
returns-in-Ok-clause-ok g c =
    let size : ℕ = c.self.inside.max_value in
    let words : List ℕ = c.as_slice.result.now in
    let is : words ≡ c.self.inside.words.items = c.as_slice.ensures.value in
    let back = read_back size words c.self.invariant.small (ap length is ∙ c.self.invariant.enough) c.write_set.ensures.fits (ap (is_clear_from size) is ∙ c.self.invariant.clear) in
    (spelled size words, back ∙ ap Some (ap (members size) is ∙ c.self.view_is), c.in-Ok.ensures.ok)

pub returns-in-Err-clause-err : goal.returns-in-Err-clause-err
returns-in-Err-clause-err g c =
    let size : ℕ = c.self.inside.max_value in
    let words : List ℕ = c.as_slice.result.now in
    let is : words ≡ c.self.inside.words.items = c.as_slice.ensures.value in
    let back = read_back size words c.self.invariant.small (ap length is ∙ c.self.invariant.enough) c.write_set.ensures.fits (ap (is_clear_from size) is ∙ c.self.invariant.clear) in
    (spelled size words, back ∙ ap Some (ap (members size) is ∙ c.self.view_is), c.in-Err.ensures.err)

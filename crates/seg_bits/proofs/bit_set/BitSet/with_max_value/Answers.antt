use Rattle.std.proofs.Common.{◌≡◌, ℕ, List, replicate, sym, ap, ◌∙◌, arith, subst}
use Rattle.seg_bits.specs.BitSets.{words_for, members, KeepsSet}
use Rattle.seg_bits.proofs.SetWords.{none_is, none_kept}
use Rattle.seg_bits.proofs.bit_set.BitSet.with_max_value.Goals as goal

pub invariant_of-result : goal.invariant_of-result
invariant_of-result c =
    let is : c.in_ok-vec.field-0.items ≡ replicate (words_for c.args.max_value) 0 = c.in_ok-vec.ensures.items_if_clones_equal (λ y h. h) ∙ ap (λ n. replicate n 0) c.num_words.ensures in
    subst (λ (words : List ℕ). KeepsSet c.args.max_value words 0) (sym is) (none_kept c.args.max_value (omega arith))

pub returns-clause-ok : goal.returns-clause-ok
returns-clause-ok c =
    let is : c.in_ok-vec.field-0.items ≡ replicate (words_for c.args.max_value) 0 = c.in_ok-vec.ensures.items_if_clones_equal (λ y h. h) ∙ ap (λ n. replicate n 0) c.num_words.ensures in
    ap (members c.args.max_value) is ∙ none_is c.args.max_value

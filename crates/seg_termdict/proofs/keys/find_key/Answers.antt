use Rattle.std.proofs.Common.{◌≡◌, ◌+◌, ◌-◌, ◌/◌, ℕ, sym, ◌∙◌, arith, inl, inr}
use Rattle.std.specs.Ordering.{nat_cmp}
use Rattle.std.specs.Cmp.Lexicographic.{slice_cmp}
use Rattle.std.specs.declared.cmp.Ordering.TheVariants.{Less, Greater}
use Rattle.std.proofs.lemmas.Bool.{cases_lt}
use Rattle.seg_common.proofs.Bytes.{same_term}
use Rattle.seg_termdict.specs.Dictionary.{key_of}
use Rattle.seg_termdict.proofs.DictionaryKeys.{start_within}
use Rattle.seg_termdict.proofs.KeyOrder.{below_middle, above_middle, not_same}
use Rattle.seg_termdict.proofs.keys.find_key.Goals as goal

pub key_at-requires-clause-order : goal.key_at-requires-clause-order
key_at-requires-clause-order c = c.requires.keys.rise _ (omega arith)

pub key_at-requires-clause-within : goal.key_at-requires-clause-within
key_at-requires-clause-within c = start_within c.args.ends.now c.args.keys.now c.args.count _ c.requires.keys (omega arith)

pub loop-low-preserved-in-Less : goal.loop-low-preserved-in-Less
loop-low-preserved-in-Less c =
    let m : ℕ = c.loop-low.low + (c.loop-low.high - c.loop-low.low) / 2 in
    let less : slice_cmp nat_cmp (key_of c.args.ends.now c.args.keys.now m) c.args.key.now ≡ Less = rw (← c.key_at.ensures) (sym c.in-Less.ensures) in
    record {
      order = omega arith;
      within = c.loop-low.invariant.within;
      below = λ k h. below_middle c.args.ends.now c.args.keys.now c.args.count c.requires.keys m k c.args.key.now (omega arith) less h;
      above = c.loop-low.invariant.above;
    }

pub loop-low-preserved : goal.loop-low-preserved
loop-low-preserved c =
    let m : ℕ = c.loop-low.low + (c.loop-low.high - c.loop-low.low) / 2 in
    let greater : slice_cmp nat_cmp (key_of c.args.ends.now c.args.keys.now m) c.args.key.now ≡ Greater = rw (← c.key_at.ensures) (sym c.in-Greater.ensures) in
    record {
      order = omega arith;
      within = omega arith;
      below = c.loop-low.invariant.below;
      above = λ k le h. above_middle c.args.ends.now c.args.keys.now c.args.count c.requires.keys m k c.args.key.now greater le h;
    }

pub returns-in-Equal : goal.returns-in-Equal
returns-in-Equal c = (omega arith, sym c.key_at.ensures ∙ same_term c.key_at.result.now c.args.key.now (sym c.in-Equal.ensures))

pub returns : goal.returns
returns c = λ i h e.
    elim (cases_lt i c.loop-low.low) [
      | inl lt ↦ not_same _ _ Less (c.loop-low.invariant.below i lt) (λ p. absurd cc) e
      | inr le ↦ not_same _ _ Greater (c.loop-low.invariant.above i (omega arith) h) (λ p. absurd cc) e
    ]

use Rattle.std.proofs.Common.{◌≡◌, ◌+◌, ◌-◌, ◌/◌, ℕ, sym, ◌∙◌, arith, inl, inr}
use Rattle.std.specs.Ordering.{nat_cmp}
use Rattle.std.specs.Cmp.Lexicographic.{slice_cmp}
use Rattle.std.specs.declared.cmp.Ordering.TheVariants.{Less, Greater}
use Rattle.std.proofs.lemmas.Bool.{cases_lt}
use Rattle.seg_common.proofs.Bytes.{same_term}
use Rattle.seg_columns.specs.Dictionaries.{term_at}
use Rattle.seg_columns.proofs.TermOrder.{above_middle, below_middle, itself}
use Rattle.seg_columns.proofs.terms.find_term.Goals as goal

pub loop-low-preserved-in-Less : goal.loop-low-preserved-in-Less
loop-low-preserved-in-Less c =
    let bytes = c.args.bytes.now in
    let m : ℕ = c.loop-low.low + (c.loop-low.high - c.loop-low.low) / 2 in
    let less : slice_cmp nat_cmp (term_at bytes m) c.args.term.now ≡ Less =
    rw (← c.term_at.ensures) (sym c.in-Less.ensures) in
    record {
      order = omega arith;
      within = c.loop-low.invariant.within;
      below = λ k lt. below_middle bytes c.requires.dictionary.ascend m k c.args.term.now
          (omega (arith, c.requires.count, c.loop-low.invariant.within)) less lt;
      above = c.loop-low.invariant.above;
    }

pub loop-low-preserved : goal.loop-low-preserved
loop-low-preserved c =
    let bytes = c.args.bytes.now in
    let m : ℕ = c.loop-low.low + (c.loop-low.high - c.loop-low.low) / 2 in
    let greater : slice_cmp nat_cmp (term_at bytes m) c.args.term.now ≡ Greater =
    rw (← c.term_at.ensures) (sym c.in-Greater.ensures) in
    record {
      order = omega arith;
      within = omega arith;
      below = c.loop-low.invariant.below;
      above = λ k le lt. above_middle bytes c.requires.dictionary.ascend m k c.args.term.now greater le
          (omega (arith, lt, c.requires.count));
    }

pub returns-in-Equal : goal.returns-in-Equal
returns-in-Equal c = (
  omega arith,
  sym c.term_at.ensures
      ∙ same_term c.term_at.result.now c.args.term.now (sym c.in-Equal.ensures),
)

pub returns : goal.returns
returns c = λ i h same.
    let term = term_at c.args.bytes.now i in
    let tied = itself term c.args.term.now same in
    elim (cases_lt i c.loop-low.low) [
      | inl lt ↦ let less = c.loop-low.invariant.below i lt in absurd cc
      | inr le ↦ let greater = c.loop-low.invariant.above i (omega arith) h in absurd cc
    ]

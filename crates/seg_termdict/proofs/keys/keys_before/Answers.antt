use Rattle.std.proofs.Common.{◌≡◌, ◌+◌, ◌-◌, ◌/◌, ℕ, true, false, sym, ap, ◌∙◌, arith}
use Rattle.seg_termdict.specs.Dictionary.{key_of}
use Rattle.seg_termdict.specs.TermRanges.{comes_before}
use Rattle.seg_termdict.proofs.DictionaryKeys.{start_within}
use Rattle.seg_termdict.proofs.Bounds.{all_before, all_behind}
use Rattle.seg_termdict.proofs.keys.keys_before.Goals as goal

pub key_at-requires-clause-order : goal.key_at-requires-clause-order
key_at-requires-clause-order c = c.requires.keys.rise _ (omega arith)

pub key_at-requires-clause-within : goal.key_at-requires-clause-within
key_at-requires-clause-within c = start_within c.args.ends.now c.args.keys.now c.args.count _ c.requires.keys (omega arith)

pub loop-low-preserved-then-comes_before : goal.loop-low-preserved-then-comes_before
loop-low-preserved-then-comes_before c =
    let m : ℕ = c.loop-low.low + (c.loop-low.high - c.loop-low.low) / 2 in
    let here : comes_before c.args.through c.args.bound.now (key_of c.args.ends.now c.args.keys.now m) ≡ true = ap (comes_before c.args.through c.args.bound.now) (sym c.key_at.ensures) ∙ sym c.comes_before.ensures ∙ c.if-comes_before.true in
    record {
      order = omega arith;
      within = c.loop-low.invariant.within;
      before = all_before c.args.ends.now c.args.keys.now c.args.count c.requires.keys c.args.through c.args.bound.now m (omega arith) here;
      behind = c.loop-low.invariant.behind;
    }

pub loop-low-preserved : goal.loop-low-preserved
loop-low-preserved c =
    let m : ℕ = c.loop-low.low + (c.loop-low.high - c.loop-low.low) / 2 in
    let here : comes_before c.args.through c.args.bound.now (key_of c.args.ends.now c.args.keys.now m) ≡ false = ap (comes_before c.args.through c.args.bound.now) (sym c.key_at.ensures) ∙ sym c.comes_before.ensures ∙ c.if-comes_before.false in
    record {
      order = omega arith;
      within = omega arith;
      before = c.loop-low.invariant.before;
      behind = all_behind c.args.ends.now c.args.keys.now c.args.count c.requires.keys c.args.through c.args.bound.now m here;
    }

use Rattle.std.proofs.Common.{◌≡◌, ◌+◌, ◌-◌, sym, ◌∙◌, arith, below_more, inl, inr}
use Rattle.std.proofs.lemmas.Bool.{cases_lt}
use Rattle.seg_termdict.specs.Dictionary.{key_start}
use Rattle.seg_termdict.proofs.DictionaryKeys.{key_start-first, key_start-next, start_within, key_of-by}
use Rattle.seg_termdict.proofs.KeyOrder.{rises_from}
use Rattle.seg_termdict.proofs.keys.are_keys.Goals as goal

pub loop-i-init : goal.loop-i-init
loop-i-init c = record {
  at = sym (key_start-first c.args.ends.now);
  below = omega arith;
  rise = λ k h. absurd (omega arith);
  ascend = λ k h. absurd (omega arith);
  last = λ k e. absurd (omega arith);
}

pub returns-then-end-keys : goal.returns-then-end-keys
returns-then-end-keys c = λ are. omega (arith, start_within c.args.ends.now c.args.keys.now c.args.count (c.loop-i.i + 1) are (omega arith), key_start-next c.args.ends.now c.loop-i.i, c.u64_at-end.ensures)

pub returns-then-end-start : goal.returns-then-end-start
returns-then-end-start c = λ are. omega (arith, are.rise c.loop-i.i (omega arith), key_start-next c.args.ends.now c.loop-i.i, c.u64_at-end.ensures, c.loop-i.invariant.at)

pub returns-then-not-rises : goal.returns-then-not-rises
returns-then-not-rises c = λ are.
    let ends = c.args.ends.now in
    let keys = c.args.keys.now in
    let i = c.loop-i.i in
    let r = c.if-not-rises.ensures in
    let key = key_of-by ends keys i c.loop-i.start c.u64_at-end.result c.loop-i.invariant.at (c.u64_at-end.ensures ∙ sym (key_start-next ends i)) in
    let e : i - 1 + 1 ≡ i = omega (arith, r.0) in
    r.1 (rises_from ends keys c.args.count are i _ _ r.0 c.loop-i-test.true (c.loop-i.invariant.last (i - 1) e) key)

pub loop-i-preserved : goal.loop-i-preserved
loop-i-preserved c =
    let ends = c.args.ends.now in
    let keys = c.args.keys.now in
    let i = c.loop-i.i in
    let inv = c.loop-i.invariant in
    let end : c.u64_at-end.result ≡ key_start ends (i + 1) = c.u64_at-end.ensures ∙ sym (key_start-next ends i) in
    let key = key_of-by ends keys i c.loop-i.start c.u64_at-end.result inv.at end in
    let r = c.if-not-rises.ensures in
    record {
      at = end;
      below = c.if-end-keys.false;
      rise = below_more _ _ inv.rise (omega (arith, inv.at, end));
      ascend = λ k h. elim (cases_lt (k + 1) i) [
        | inl lt ↦ inv.ascend k lt
        | inr le ↦
            let e : k + 1 ≡ i = omega arith in
            elim r [
              | inl zero ↦ absurd (omega arith)
              | inr less ↦ rw (← inv.last k e, e, ← key) less
            ]
      ];
      last = λ k e. let same : i ≡ k = omega arith in rw (← same) key;
    }

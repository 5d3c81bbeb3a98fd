use Rattle.std.proofs.Common.{◌≡◌, ◌+◌, true, false, nat_eq, map, refl, sym, ap, ◌∙◌, rules, arith}
use Rattle.std.specs.Map.{lookup}
use Rattle.std.proofs.lemmas.List.{drop_all}
use Rattle.seg_values.specs.ValueTrees.{pair_of}
use Rattle.seg_values.proofs.Lookups.{found_from}
use Rattle.seg_values.proofs.document.TantivyDocument.get_first.Goals as goal

pub loop-pair-preserved : goal.loop-pair-preserved
loop-pair-preserved c =
    let other : nat_eq c.args.field c.pair-item.result.field ≡ false = search rules in
    (c.loop-pair.invariant.0, sym (found_from c.args.field c.deref-pair-items.result.now c.loop-pair.pair-index (c.loop-pair.pair-index + 1) c.pair-item.result false c.loop-pair-test.true refl c.pair-item.is other) ∙ c.loop-pair.invariant.1)

pub returns-then-eq : goal.returns-then-eq
returns-then-eq c =
    let same : nat_eq c.args.field c.pair-item.result.field ≡ true = search rules in
    sym (found_from c.args.field c.deref-pair-items.result.now c.loop-pair.pair-index (c.loop-pair.pair-index + 1) c.pair-item.result true c.loop-pair-test.true refl c.pair-item.is same) ∙ c.loop-pair.invariant.1

pub returns : goal.returns
returns c =
    sym (ap (λ l. lookup (nat_eq c.args.field) (map pair_of l)) (drop_all c.loop-pair.pair-index c.deref-pair-items.result.now (omega (arith, c.loop-pair-test.false)))) ∙ c.loop-pair.invariant.1

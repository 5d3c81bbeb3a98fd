use Rattle.std.proofs.Common.{◌∙◌, arith}
use Rattle.seg_build.proofs.ValueCounts.{counted_turn, counted_end}
use Rattle.seg_build.proofs.ValueSteps.{added_turn, fit_here, fit_turn, plain_here, plain_turn}
use Rattle.seg_build.proofs.added_values.add_values.Goals as goal

pub add_value-requires-clause-keys : goal.add_value-requires-clause-keys
add_value-requires-clause-keys c = plain_here c.args.document.now c.args.values.now c.loop-value.value-index c.value-item.result c.loop-value-test.true c.value-item.is c.loop-value.invariant.keys

pub add_value-requires-clause-fits : goal.add_value-requires-clause-fits
add_value-requires-clause-fits c = fit_here c.args.id c.args.document.now c.loop-value.fields c.args.values.now c.loop-value.value-index c.value-item.result c.loop-value-test.true c.value-item.is c.loop-value.invariant.fit

pub loop-value-preserved : goal.loop-value-preserved
loop-value-preserved c = record {
  fields = added_turn c.args.id c.args.document.now c.loop-value.fields c.add_value.new.fields c.args.values.now c.loop-value.value-index c.value-item.result c.loop-value-test.true c.value-item.is c.in_ok-more.ensures.fields
      ∙ c.loop-value.invariant.fields;
  count = counted_turn c.args.document.now c.args.values.now c.loop-value.value-index c.value-item.result c.loop-value.count c.in_ok-more.more c.saturating_add-count.result c.loop-value-test.true c.value-item.is c.in_ok-more.ensures.counted (omega (arith, c.saturating_add-count.ensures))
      ∙ c.loop-value.invariant.count;
  few = omega (arith, c.saturating_add-count.ensures);
  fit = fit_turn c.args.id c.args.document.now c.loop-value.fields c.add_value.new.fields c.args.values.now c.loop-value.value-index c.value-item.result c.loop-value-test.true c.value-item.is c.in_ok-more.ensures.fields c.loop-value.invariant.fit;
  keys = plain_turn c.args.document.now c.args.values.now c.loop-value.value-index c.value-item.result c.loop-value-test.true c.value-item.is c.loop-value.invariant.keys;
}

pub returns-clause-counted : goal.returns-clause-counted
returns-clause-counted c =
    counted_end c.args.document.now c.args.values.now c.loop-value.value-index c.loop-value.count (omega (arith, c.loop-value-test.false)) c.loop-value.invariant.few
    ∙ c.loop-value.invariant.count

use Rattle.std.proofs.Common.{◌<◌, length, ◌∙◌, arith}
use Rattle.seg_build.proofs.FacetPrefixes.{prefix_turn, count_turn, few_more}
use Rattle.seg_build.proofs.value_terms.add_prefixes.Goals as goal

pub loop-at-preserved : goal.loop-at-preserved
loop-at-preserved c =
    let encoded = c.args.encoded.now in
    let at = c.loop-at.at in
    let lt : at < length encoded = omega (arith, c.loop-at-test.true) in
    let counted = c.in_ok-more.ensures.counted in
    record {
      terms = prefix_turn encoded at lt c.args.document c.loop-at.terms c.add_prefix.new.terms c.in_ok-more.ensures.added ∙ c.loop-at.invariant.terms;
      count = omega (arith, count_turn encoded at lt, counted, c.loop-at.invariant.count);
      few = omega (arith, few_more encoded at, counted, c.loop-at.invariant.few);
    }

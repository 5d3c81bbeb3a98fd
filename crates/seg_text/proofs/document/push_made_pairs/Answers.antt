use Rattle.seg_values.specs.ValueTrees.{tree_of}
use Rattle.seg_text.proofs.PrintedTrees.{one_pair}
use Rattle.seg_text.proofs.document.push_made_pairs.Goals as goal

pub loop-at-preserved : goal.loop-at-preserved
loop-at-preserved c =
    one_pair _ c.loop-at.out.items c.push_comma_if.new.out.items c.push_pair.new.out.items c.loop-at.later c.in_ok-push_comma_if.ensures c.args.schema.now c.args.document.now c.loop-at.at (c.pair-field.result.0, tree_of c.pair-field.result.1.now) c.pair-field.ensures c.in_ok-push_pair.ensures c.loop-at.invariant

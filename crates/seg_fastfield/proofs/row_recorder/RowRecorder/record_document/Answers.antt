use Rattle.std.proofs.Common.{ℕ, ◌∙◌}
use Rattle.seg_values.specs.Tree.{Tree}
use Rattle.seg_values.specs.ValueTrees.{tree_of}
use Rattle.seg_fastfield.proofs.LoopTurns.{pair_taken, pair_turn}
use Rattle.seg_fastfield.proofs.row_recorder.RowRecorder.record_document.Goals as goal

pub record_pair-requires-clause-taken : goal.record_pair-requires-clause-taken
record_pair-requires-clause-taken g c =
    let p : ℕ × Tree = (c.pair-field.result.0, tree_of c.pair-field.result.1.now) in
    (pair_taken c.args.self.now.schema.now c.args.document.now c.loop-at.at p c.pair-field.ensures
    c.loop-at.invariant.taken).0

pub loop-at-preserved : goal.loop-at-preserved
loop-at-preserved g c =
    let schema = c.args.self.now.schema.now in
    let p : ℕ × Tree = (c.pair-field.result.0, tree_of c.pair-field.result.1.now) in
    record {
      recorded = pair_turn c.args.self.now.row schema (g.Z.Analyzers.tokens_of c.args.self.now.analyzers.now)
          c.args.document.now c.loop-at.at p c.loop-at.columns c.record_pair.new.columns c.pair-field.ensures
          c.in_ok-record_pair.ensures.recorded ∙ c.loop-at.invariant.recorded;
      taken = (pair_taken schema c.args.document.now c.loop-at.at p c.pair-field.ensures c.loop-at.invariant.taken).1;
      under_way = c.record_pair.ensures.under_way;
      known = c.in_ok-record_pair.ensures.known;
    }

use Rattle.std.proofs.Common.{◌∙◌}
use Rattle.seg_fastfield.proofs.LoopTurns.{columns_turn, distinct_turn, new_turn}
use Rattle.seg_fastfield.proofs.schema_columns.declared_columns.Goals as goal

pub loop-entry-preserved : goal.loop-entry-preserved
loop-entry-preserved c =
    let i = c.loop-entry.entry-index in
    let e = c.entry-item.result in
    let inv = c.loop-entry.invariant in
    record {
      columns = columns_turn c.args.schema.now i e c.loop-entry-test.true c.entry-item.is c.loop-entry.columns
          c.declare.new.columns c.in_ok-declare.ensures ∙ inv.columns;
      new = new_turn c.args.schema.now i e c.loop-entry-test.true c.entry-item.is c.loop-entry.columns
          c.declare.new.columns inv.new inv.distinct c.in_ok-declare.ensures;
      distinct = distinct_turn c.args.schema.now i e c.loop-entry-test.true c.entry-item.is inv.distinct;
    }

use Rattle.std.proofs.Common.{map, Some, sym, subst, arith}
use Rattle.std.proofs.lemmas.List.{length-map}
use Rattle.seg_column_merge_parts.specs.declared.tables.TableRow.{TableRow}
use Rattle.seg_column_merge.proofs.TableRuns.{AreBegun, all_begun, none_begun, one_begun}
use Rattle.seg_column_merge.proofs.table_order.first_heads.Goals as goal

pub loop-at-init : goal.loop-at-init
loop-at-init c =
    subst (AreBegun (map Some c.args.rows.now) 0) (sym c.new-heads.ensures) (none_begun (map Some c.args.rows.now))

pub loop-at-preserved : goal.loop-at-preserved
loop-at-preserved c =
    let rows = c.args.rows.now in
    let lt = c.loop-at-test.true in
    one_begun (map Some rows) c.loop-at.at c.loop-at.heads c.begin.new.heads
    (omega (arith, lt, length-map rows (λ (r : TableRow). Some r))) c.loop-at.invariant c.in_ok-begin.ensures

pub returns : goal.returns
returns c =
    let rows = c.args.rows.now in
    let le = c.loop-at-test.false in
    all_begun (map Some rows) c.loop-at.at c.loop-at.heads
    (omega (arith, le, length-map rows (λ (r : TableRow). Some r))) c.loop-at.invariant

use Rattle.std.proofs.Common.{List, [], map, Some, sym, subst}
use Rattle.seg_column_merge.specs.TableOrder.{Slots}
use Rattle.seg_column_merge_parts.specs.declared.tables.TableRow.{TableRow}
use Rattle.seg_column_merge.proofs.MovedRows.{SoFar, all_moved, nothing_yet, turned}
use Rattle.seg_column_merge.proofs.TableRuns.{head_is}
use Rattle.seg_column_merge.proofs.table_order.rows_by_key.Goals as goal

pub loop-head-init : goal.loop-head-init
loop-head-init c =
    let rows = c.args.rows.items in
    let heads = c.in_ok-heads.heads in
    let begun = subst (λ (rs : List TableRow). SoFar rs [] (map Some rs) heads) c.as_slice.ensures.value
    (nothing_yet c.as_slice.result.now heads c.in_ok-heads.ensures) in
    subst (λ (slots : Slots). SoFar rows c.in_ok-table.table.items slots heads) (sym c.in_ok-slots.ensures)
    (subst (λ (done : List TableRow). SoFar rows done (map Some rows) heads) (sym c.in_ok-table.ensures.items) begun)

pub move_row-requires : goal.move_row-requires
move_row-requires c =
    (head_is c.loop-head.slots.items c.loop-head.heads c.loop-head.invariant.runs c.pop.new.self
    (c.in-Some.head.0.now, c.in-Some.head.1, c.in-Some.head.2) c.in-Some.ensures.some).within

pub loop-head-smaller : goal.loop-head-smaller
loop-head-smaller c =
    (turned c.args.rows.items c.loop-head.table.items c.loop-head.slots.items c.loop-head.heads c.loop-head.invariant
    c.pop.new.self (c.in-Some.head.0.now, c.in-Some.head.1, c.in-Some.head.2) c.in-Some.ensures.some
    c.move_row.new.slots.items c.move_row.new.table.items c.move_row.new.heads c.in_ok-move_row.ensures).1

pub loop-head-preserved : goal.loop-head-preserved
loop-head-preserved c =
    (turned c.args.rows.items c.loop-head.table.items c.loop-head.slots.items c.loop-head.heads c.loop-head.invariant
    c.pop.new.self (c.in-Some.head.0.now, c.in-Some.head.1, c.in-Some.head.2) c.in-Some.ensures.some
    c.move_row.new.slots.items c.move_row.new.table.items c.move_row.new.heads c.in_ok-move_row.ensures).0

pub returns : goal.returns
returns c =
    let all = all_moved c.args.rows.items c.loop-head.table.items c.loop-head.slots.items c.loop-head.heads
    c.in_default.ensures.none c.loop-head.invariant in
    record { sorted = all.sorted; stable = all.stable; permutation = all.permutation }

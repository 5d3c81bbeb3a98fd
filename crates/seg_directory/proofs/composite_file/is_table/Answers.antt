use Rattle.std.proofs.Common.{sym, ap, ◌∙◌}
use Rattle.seg_directory.specs.CompositeFiles.{are_entries}
use Rattle.seg_directory.proofs.CompositeTables.{entries_step, entries-field, entries-end, entries-go}
use Rattle.seg_directory.proofs.composite_file.is_table.Goals as goal

pub returns-then-field-low : goal.returns-then-field-low
returns-then-field-low c =
    let l = c.loop-i in
    let s = entries_step c.args.table.now c.args.count l.i c.u32_at-field.result c.u64_at-end.result c.loop-i-test.true c.u32_at-field.ensures c.u64_at-end.ensures in
    sym (sym l.invariant ∙ ap (are_entries l.low l.start c.args.total) s ∙ entries-field l.low l.start c.args.total _ _ c.if-field-low.true)

pub returns-then-end-start : goal.returns-then-end-start
returns-then-end-start c =
    let l = c.loop-i in
    let s = entries_step c.args.table.now c.args.count l.i c.u32_at-field.result c.u64_at-end.result c.loop-i-test.true c.u32_at-field.ensures c.u64_at-end.ensures in
    sym (sym l.invariant ∙ ap (are_entries l.low l.start c.args.total) s ∙ entries-end l.low l.start c.args.total _ _ c.if-end-start.true)

pub loop-i-preserved : goal.loop-i-preserved
loop-i-preserved c =
    let l = c.loop-i in
    let s = entries_step c.args.table.now c.args.count l.i c.u32_at-field.result c.u64_at-end.result c.loop-i-test.true c.u32_at-field.ensures c.u64_at-end.ensures in
    sym (entries-go l.low l.start c.args.total _ _ c.if-field-low.false c.if-end-start.false) ∙ sym (ap (are_entries l.low l.start c.args.total) s) ∙ l.invariant

use Rattle.std.proofs.Common.{◌≡◌, ◌+◌, sym, ap, ◌∙◌, arith, below_more}
use Rattle.seg_columns.specs.DynamicColumns.{IsColumnOf}
use Rattle.seg_column_file.specs.ColumnFiles.{HoldsColumns}
use Rattle.seg_column_file.specs.ColumnTable.{column_start, end_in, next_place}
use Rattle.seg_column_file.proofs.FileColumns.{is_piece, of_piece, refused, start_within}
use Rattle.seg_column_file.proofs.TableEntries.{column_start-first, column_start-next, place_of-first, place_of-next}
use Rattle.seg_column_file.proofs.columns_check.check_columns.Goals as goal

pub loop-i-init : goal.loop-i-init
loop-i-init c = record {
  at = sym (place_of-first c.args.table.now);
  start = sym (column_start-first c.args.table.now);
  within = omega arith;
  rise = λ k h. absurd (omega (arith, h));
  columns = λ k h. absurd (omega (arith, h));
}

pub returns-then-end-size : goal.returns-then-end-size
returns-then-end-size c = λ holds.
    let table = c.args.table.now in
    let i = c.loop-i.i in
    let end : c.end_in-end.result ≡ column_start table (i + 1) =
    c.end_in-end.ensures ∙ ap (end_in table) c.loop-i.invariant.at ∙ sym (column_start-next table i) in
    let next = start_within c.args.bytes.now table c.args.count c.args.size c.args.num_rows holds (i + 1)
    (omega (arith, c.loop-i-test.true)) in
    omega (arith, next, end, c.if-end-size.true)

pub returns-then-end-start : goal.returns-then-end-start
returns-then-end-start c = λ holds.
    let table = c.args.table.now in
    let i = c.loop-i.i in
    let end : c.end_in-end.result ≡ column_start table (i + 1) =
    c.end_in-end.ensures ∙ ap (end_in table) c.loop-i.invariant.at ∙ sym (column_start-next table i) in
    omega (arith, holds.rise i c.loop-i-test.true, end, c.loop-i.invariant.start, c.if-end-start.true)

pub returns-in-Err : goal.returns-in-Err
returns-in-Err c =
    let bytes = c.args.bytes.now in
    let table = c.args.table.now in
    let i = c.loop-i.i in
    let rows = c.args.num_rows in
    refused (IsColumnOf c.type_in.result rows c.slice.result)
    (HoldsColumns bytes table c.args.count c.args.size rows) c.in-Err.error
    (λ holds. of_piece bytes table c.slice.result i c.loop-i.at c.loop-i.start c.end_in-end.result rows c.type_in.result
    c.loop-i.invariant.at c.loop-i.invariant.start c.end_in-end.ensures c.type_in.ensures c.slice.ensures
    (holds.columns i c.loop-i-test.true))
    c.in-Err.ensures

pub loop-i-preserved : goal.loop-i-preserved
loop-i-preserved c =
    let bytes = c.args.bytes.now in
    let table = c.args.table.now in
    let i = c.loop-i.i in
    let so_far = c.loop-i.invariant in
    let end : c.end_in-end.result ≡ column_start table (i + 1) =
    c.end_in-end.ensures ∙ ap (end_in table) so_far.at ∙ sym (column_start-next table i) in
    record {
      at = c.place_behind-at.ensures ∙ ap (next_place table) so_far.at ∙ sym (place_of-next table i);
      start = end;
      within = c.if-end-size.false;
      rise = below_more _ _ so_far.rise (omega (arith, so_far.start, end, c.if-end-start.false));
      columns = below_more _ _ so_far.columns
          (is_piece bytes table c.slice.result i c.loop-i.at c.loop-i.start c.end_in-end.result c.args.num_rows
          c.type_in.result so_far.at so_far.start c.end_in-end.ensures c.type_in.ensures c.slice.ensures c.in-Ok.ensures);
    }

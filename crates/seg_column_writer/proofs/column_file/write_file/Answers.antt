use Rattle.std.proofs.Common.{List, ◌<◌, ◌≤◌, ◌^◌, length, subst, arith}
use Rattle.std.proofs.lemmas.List.{take_all}
use Rattle.seg_column_writer.specs.FiledColumns.{AreFiled}
use Rattle.seg_column_writer.specs.declared.typed_column.TypedColumn.{TypedColumn}
use Rattle.seg_column_writer.proofs.FileColumns.{filed_file, filed_more}
use Rattle.seg_column_writer.proofs.column_file.write_file.Goals as goal

pub loop-column-preserved : goal.loop-column-preserved
loop-column-preserved c = record {
  filed = filed_more c.args.num_rows c.args.names.now c.args.columns.now c.args.typed.now c.loop-column.column-index _
      c.loop-column-test.true c.loop-column.out.items c.loop-column.entries.items c.put_column.new.out.items
      c.put_column.new.entries.items c.loop-column.invariant.filed c.in_ok-put_column.ensures;
}

pub returns : goal.returns
returns c =
    let out = c.loop-column.out.items in
    let entries = c.loop-column.entries.items in
    let file = c.put_table.new.out in
    let all : length c.args.typed.now ≤ c.loop-column.column-index = omega arith in
    let few : c.args.num_rows < 2 ^ 32 = omega arith in
    let short : length file.items < 2 ^ 64 = omega (arith, file.ok.0, file.ok.1, file.small) in
    filed_file c.args.num_rows c.args.names.now c.args.columns.now c.args.typed.now c.requires few out entries
    c.deref.result.now file.items short
    (subst (λ (l : List TypedColumn). AreFiled c.args.num_rows c.args.names.now c.args.columns.now l out entries)
    (take_all c.loop-column.column-index c.args.typed.now all) c.loop-column.invariant.filed)
    c.deref.ensures.value c.in_ok-put_table.ensures

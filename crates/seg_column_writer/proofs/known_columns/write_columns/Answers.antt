use Rattle.std.proofs.Common.{List, map, sym, subst}
use Rattle.std.proofs.lemmas.Result.{IfOk-weaker}
use Rattle.seg_column_writer.specs.TypedColumns.{AreTyped, IsFileOf, entry_at}
use Rattle.seg_column_writer.specs.declared.typed_column.TypedColumn.{TypedColumn}
use Rattle.seg_column_writer.proofs.OrderedColumns.{ready_typed, ready_written}
use Rattle.seg_column_writer.proofs.known_columns.write_columns.Goals as goal

pub write_file-requires : goal.write_file-requires
write_file-requires c =
    subst (AreTyped c.args.num_rows c.args.names.now c.args.columns.now) (sym c.deref.ensures.value)
    (ready_typed c.args.num_rows c.args.names.now c.args.columns.now c.requires c.in_ok-typed.typed.items
    c.sort_columns.new.typed.items c.in_ok-typed.ensures c.sort_columns.ensures.moved c.sort_columns.ensures.sorted)

pub returns : goal.returns
returns c =
    IfOk-weaker c.write_file.result _ _
    (λ bytes is. ready_written c.args.num_rows c.args.names.now c.args.columns.now c.requires c.in_ok-typed.typed.items
    c.sort_columns.new.typed.items c.in_ok-typed.ensures c.sort_columns.ensures.moved bytes.items
    (subst (λ (ts : List TypedColumn). IsFileOf c.args.num_rows
    (map (entry_at c.args.num_rows c.args.names.now c.args.columns.now) ts) bytes.items) c.deref.ensures.value is))
    c.write_file.ensures

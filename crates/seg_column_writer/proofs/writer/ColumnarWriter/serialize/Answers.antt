use Rattle.std.proofs.Common.{List, subst, sym, ap, ◌∙◌}
use Rattle.std.specs.List.{AllByRecursion}
use Rattle.std.proofs.lemmas.Result.{IfErr-weaker, IfOk-weaker}
use Rattle.seg_column_writer.specs.RecordedColumns.{recorded_columns}
use Rattle.seg_column_writer.specs.ColumnRecords.{ColumnRecord}
use Rattle.seg_column_writer.specs.TypedColumns.{IsWithin, refusal_of}
use Rattle.seg_column_writer.proofs.OrderedColumns.{within_known}
use Rattle.seg_column_writer.proofs.writer.ColumnarWriter.serialize.Goals as goal

pub write-requires-clause-within : goal.write-requires-clause-within
write-requires-clause-within c =
    within_known c.args.num_docs c.self.inside.known.names.keys c.self.inside.known.columns.items c.self.invariant.0
    (subst (AllByRecursion (λ (r : ColumnRecord). IsWithin c.args.num_docs r.recording)) (sym c.self.view_is) c.requires)

pub returns-clause-columns : goal.returns-clause-columns
returns-clause-columns c =
    IfOk-weaker c.write.result _ _
    (λ bytes is. ap (recorded_columns c.args.num_docs) (sym c.self.view_is) ∙ is.recorded) c.write.ensures.ok

pub returns-clause-err : goal.returns-clause-err
returns-clause-err c =
    IfErr-weaker c.write.result _ _
    (λ e is. is ∙ ap (λ (cs : List ColumnRecord). refusal_of (recorded_columns c.args.num_docs cs)) c.self.view_is)
    c.write.ensures.err

use Rattle.std.proofs.Common.{ap, ◌∙◌}
use Rattle.seg_model.specs.Columns.{number}
use Rattle.seg_column_writer.specs.RowValues.{number_in}
use Rattle.seg_column_writer.specs.declared.value_kind.ValueKind.TheVariants.{Number}
use Rattle.seg_column_writer.proofs.RecordingRules.{may_push, push_adds}
use Rattle.seg_column_writer.proofs.writer.ColumnarWriter.record_numerical_in.Goals as goal

pub push-requires : goal.push-requires
push-requires c =
    may_push Number c.args.doc (number (number_in c.args.value)) c.of_numerical.result c.of_numerical.ensures.row tt
    (ap number c.of_numerical.ensures.value) c.args.column.place c.args.self.now c.requires

pub returns-clause-ok : goal.returns-clause-ok
returns-clause-ok c =
    c.in_ok-push.ensures.ok
    ∙ push_adds Number c.args.doc (number (number_in c.args.value)) c.of_numerical.result c.of_numerical.ensures.row tt
    (ap number c.of_numerical.ensures.value) c.args.column.place c.args.self.now c.requires

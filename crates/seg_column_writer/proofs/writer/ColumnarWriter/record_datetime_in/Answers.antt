use Rattle.std.proofs.Common.{◌∙◌}
use Rattle.seg_model.specs.Columns.{date_value}
use Rattle.seg_column_writer.specs.declared.value_kind.ValueKind.TheVariants.{DateTime}
use Rattle.seg_column_writer.proofs.RecordingRules.{may_push, moment_is, push_adds, row_is}
use Rattle.seg_column_writer.proofs.writer.ColumnarWriter.record_datetime_in.Goals as goal

pub push-requires : goal.push-requires
push-requires c =
    may_push DateTime c.args.doc (date_value c.args.value) c.of_number.result
    (row_is c.of_number.result c.args.doc c.to_u64.result c.of_number.ensures)
    tt
    (moment_is c.of_number.result c.args.doc c.to_u64.result c.of_number.ensures c.args.value c.to_u64.ensures.number c.to_u64.ensures.fits)
    c.args.column.place c.args.self.now c.requires

pub returns-clause-ok : goal.returns-clause-ok
returns-clause-ok c =
    c.in_ok-push.ensures.ok
    ∙ push_adds DateTime c.args.doc (date_value c.args.value) c.of_number.result
    (row_is c.of_number.result c.args.doc c.to_u64.result c.of_number.ensures)
    tt
    (moment_is c.of_number.result c.args.doc c.to_u64.result c.of_number.ensures c.args.value c.to_u64.ensures.number c.to_u64.ensures.fits)
    c.args.column.place c.args.self.now c.requires

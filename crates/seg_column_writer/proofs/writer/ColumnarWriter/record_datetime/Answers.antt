use Rattle.std.proofs.Common.{sym, subst}
use Rattle.seg_model.specs.Columns.{date_value}
use Rattle.seg_column_writer.specs.RecordingRules.{At, CanTake}
use Rattle.seg_column_writer.specs.declared.value_kind.ValueKind.TheVariants.{DateTime}
use Rattle.seg_column_writer.proofs.RecordingRules.{takes_named}
use Rattle.seg_column_writer.proofs.writer.ColumnarWriter.record_datetime.Goals as goal

pub record_datetime_in-requires : goal.record_datetime_in-requires
record_datetime_in-requires c =
    subst (λ (X : Type 0). X) (sym (λ j. At (CanTake DateTime c.args.doc (date_value c.args.value))
    (c.in_ok-column.ensures.place j) (c.in_ok-column.ensures.ok j)))
    (takes_named c.args.name.now DateTime c.args.doc (date_value c.args.value) c.args.self.now c.requires)

use Rattle.std.proofs.Common.{sym, subst}
use Rattle.seg_model.specs.Columns.{boolean_value}
use Rattle.seg_column_writer.specs.RecordingRules.{At, CanTake}
use Rattle.seg_column_writer.specs.declared.value_kind.ValueKind.TheVariants.{Bool as Boolean}
use Rattle.seg_column_writer.proofs.RecordingRules.{takes_named}
use Rattle.seg_column_writer.proofs.writer.ColumnarWriter.record_bool.Goals as goal

pub record_bool_in-requires : goal.record_bool_in-requires
record_bool_in-requires c =
    subst (λ (X : Type 0). X) (sym (λ j. At (CanTake Boolean c.args.doc (boolean_value c.args.value))
    (c.in_ok-column.ensures.place j) (c.in_ok-column.ensures.ok j)))
    (takes_named c.args.name.now Boolean c.args.doc (boolean_value c.args.value) c.args.self.now c.requires)

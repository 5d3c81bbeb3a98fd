use Rattle.std.proofs.Common.{sym, subst}
use Rattle.seg_model.specs.Columns.{number}
use Rattle.seg_column_writer.specs.RowValues.{number_in}
use Rattle.seg_column_writer.specs.RecordingRules.{At, CanTake}
use Rattle.seg_column_writer.specs.declared.value_kind.ValueKind.TheVariants.{Number}
use Rattle.seg_column_writer.proofs.RecordingRules.{takes_named}
use Rattle.seg_column_writer.proofs.writer.ColumnarWriter.record_numerical.Goals as goal

pub record_numerical_in-requires : goal.record_numerical_in-requires
record_numerical_in-requires c =
    subst (λ (X : Type 0). X) (sym (λ j. At (CanTake Number c.args.doc (number (number_in c.args.value)))
    (c.in_ok-column.ensures.place j) (c.in_ok-column.ensures.ok j)))
    (takes_named c.args.name.now Number c.args.doc (number (number_in c.args.value)) c.args.self.now c.requires)

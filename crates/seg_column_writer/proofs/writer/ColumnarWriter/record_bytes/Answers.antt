use Rattle.std.proofs.Common.{sym, subst}
use Rattle.seg_model.specs.Columns.{bytes_value}
use Rattle.seg_column_writer.specs.RecordingRules.{At, CanTake}
use Rattle.seg_column_writer.specs.declared.value_kind.ValueKind.TheVariants.{Bytes}
use Rattle.seg_column_writer.proofs.RecordingRules.{takes_named}
use Rattle.seg_column_writer.proofs.writer.ColumnarWriter.record_bytes.Goals as goal

pub record_bytes_in-requires : goal.record_bytes_in-requires
record_bytes_in-requires c =
    subst (λ (X : Type 0). X) (sym (λ j. At (CanTake Bytes c.args.doc (bytes_value c.args.value.now))
    (c.in_ok-column.ensures.place j) (c.in_ok-column.ensures.ok j)))
    (takes_named c.args.name.now Bytes c.args.doc (bytes_value c.args.value.now) c.args.self.now c.requires)

use Rattle.std.proofs.Common.{◌∙◌, ap, sym, subst}
use Rattle.seg_column_writer.specs.ColumnRecords.{place_of, with_column}
use Rattle.seg_column_writer.specs.RecordingRules.{At, CanDeclare}
use Rattle.seg_column_writer.specs.declared.value_kind.ValueKind.{ValueKind}
use Rattle.seg_column_writer.proofs.RecordingRules.{declares_named}
use Rattle.seg_column_writer.proofs.writer.ColumnarWriter.record_column_type.Goals as goal

pub declare-requires : goal.declare-requires
declare-requires c =
    let place = c.in_ok-column.ensures.place
    ∙ ap (λ (k : ValueKind). place_of c.args.self.now c.args.name.now k) c.of.ensures in
    let columns = c.in_ok-column.ensures.ok
    ∙ ap (λ (k : ValueKind). with_column c.args.self.now c.args.name.now k) c.of.ensures in
    subst (λ (X : Type 0). X) (sym (λ j. At (CanDeclare c.args.column_type) (place j) (columns j)))
    (declares_named c.args.name.now c.args.column_type c.args.self.now c.requires)

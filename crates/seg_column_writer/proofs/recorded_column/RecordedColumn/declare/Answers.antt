use Rattle.std.proofs.Common.{◌≡◌, Some, All, sym, subst}
use Rattle.seg_column_writer.specs.ValueKinds.{kind_of}
use Rattle.seg_column_writer.specs.ColumnRecords.{Accepts, Recording, RowedValue}
use Rattle.seg_column_writer.proofs.SoundColumns.{declared_sound}
use Rattle.seg_column_writer.proofs.recorded_column.RecordedColumn.declare.Goals as goal

pub invariant_of-self : goal.invariant_of-self
invariant_of-self c =
    let i = c.self.inside in
    declared_sound c.args.column_type i.kind i.declared i.signed i.unsigned i.known.values.items i.known.terms
    c.self.invariant
    (subst (λ (r : Recording). r.kind ≡ kind_of c.args.column_type) (sym c.self.view_is) c.requires.kind)
    (subst (λ (r : Recording). All (λ (v : RowedValue). Accepts (Some c.args.column_type) v.value) r.values)
    (sym c.self.view_is) c.requires.accepted)

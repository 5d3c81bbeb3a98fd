use Rattle.std.proofs.Common.{[], Bool, sym, ap, subst, ◌∙◌}
use Rattle.std.specs.Prelude.{◌&&◌}
use Rattle.seg_column_writer.specs.ColumnRecords.{Accepts, HasReached, Recording}
use Rattle.seg_column_writer.specs.RowValues.{value_of}
use Rattle.seg_column_writer.specs.SoundColumns.{AreSound, Fits}
use Rattle.seg_column_writer.proofs.SoundColumns.{pushed, reached}
use Rattle.seg_column_writer.proofs.recorded_column.RecordedColumn.push.Goals as goal

pub invariant_of-self-2 : goal.invariant_of-self-2
invariant_of-self-2 c =
    let i = c.self.inside in
    let v = c.args.value in
    let signed = c.both-self-inside.ensures ∙ ap (λ (b : Bool). i.signed && b) c.fits_signed.ensures in
    let added = c.in_ok-add.ensures.ok in
    subst (λ (X : Type 0). X)
    (sym (λ j. AreSound i.kind i.declared (signed j) (c.both-self-inside-2.ensures j) (added.1 j) (added.0 j)))
    (pushed i.kind i.declared i.signed i.unsigned i.known.values.items i.known.terms c.self.invariant v
    (reached i.kind i.known.terms v.row i.known.values.items
    (subst (λ (r : Recording). HasReached v.row r) (sym c.self.view_is) c.requires.row))
    (subst (λ (r : Recording). Fits r.kind 0 v) (sym c.self.view_is) c.requires.fits)
    (subst (λ (r : Recording). Accepts r.declared (value_of r.kind [] v)) (sym c.self.view_is) c.requires.accepted))

use Rattle.seg_column_writer.proofs.SoundColumns.{is_recorded}
use Rattle.seg_column_writer.proofs.recorded_column.RecordedColumn.column_type.Goals as goal

pub returns-in-Some-clause-recorded : goal.returns-in-Some-clause-recorded
returns-in-Some-clause-recorded c =
    let i = c.self.inside in
    is_recorded i.kind i.declared i.sorts i.signed i.unsigned i.known.values.items i.known.terms c.args.self.now
    c.self.invariant c.self.view_is

pub returns-in-None-clause-recorded : goal.returns-in-None-clause-recorded
returns-in-None-clause-recorded c =
    let i = c.self.inside in
    is_recorded i.kind i.declared i.sorts i.signed i.unsigned i.known.values.items i.known.terms c.args.self.now
    c.self.invariant c.self.view_is

use Rattle.seg_column_writer.proofs.SoundColumns.{free_seen}
use Rattle.seg_column_writer.proofs.recorded_column.RecordedColumn.free_type.Goals as goal

pub returns-in-Number : goal.returns-in-Number
returns-in-Number c =
    let i = c.self.inside in
    free_seen i.kind i.declared i.sorts i.signed i.unsigned i.known.values.items i.known.terms c.args.self.now
    c.number_type.result c.self.invariant c.in-Number.is c.self.view_is c.number_type.ensures

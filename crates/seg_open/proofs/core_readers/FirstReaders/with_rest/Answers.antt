use Rattle.std.proofs.Common.{rules}
use Rattle.seg_common.specs.declared.name.SegmentComponent.TheVariants.{FastFields, FieldNorms, Positions}
use Rattle.seg_directory.proofs.Exports.{then_does}
use Rattle.seg_column_format.specs.SchemaColumns.{HoldColumns}
use Rattle.seg_open.specs.OpenedFiles.{NormsUnopened}
use Rattle.seg_open.specs.OpenedTermFiles.{PositionsUnopened}
use Rattle.seg_open.proofs.OpeningStages.{terms_are_open}
use Rattle.seg_open.proofs.ReadFiles.{all_open, sound_read, stops_at_columns, stops_at_norms, stops_at_positions, stops_rest, unopened, unread}
use Rattle.seg_open.proofs.core_readers.FirstReaders.with_rest.Goals as goal

pub returns-in_err-positions : goal.returns-in_err-positions
returns-in_err-positions g c start three =
    let schema = c.args.schema.now in
    let documents = c.args.max_doc in
    stops_rest c.args.id schema documents c.from_residual.result _ _ _ c.from_residual.ensures.1
    (stops_at_positions c.args.id schema documents c.args.self start _ three _ _
    (unread c.args.id Positions (λ bytes. PositionsUnopened schema bytes c.args.self.fields.items) _ _ _ c.in_err-positions.ensures))

pub returns-in-Err : goal.returns-in-Err
returns-in-Err g c start three =
    let schema = c.args.schema.now in
    let documents = c.args.max_doc in
    stops_at_positions c.args.id schema documents c.args.self start _ three _ _
    (unopened c.args.id Positions (λ bytes. PositionsUnopened schema bytes c.args.self.fields.items) _ _
    c.in_ok-positions.positions c.in_ok-positions.ensures c.in-Err.e c.of_segment.result c.of_segment.ensures c.in-Err.ensures.err)

pub returns-in_err-columns : goal.returns-in_err-columns
returns-in_err-columns g c start three =
    let schema = c.args.schema.now in
    let documents = c.args.max_doc in
    let positions = sound_read c.args.id Positions c.in_ok-positions.positions c.in_ok-positions.ensures in
    stops_rest c.args.id schema documents c.from_residual-in_err-columns.result _ _ _ c.from_residual-in_err-columns.ensures.1
    (stops_at_columns c.args.id schema documents c.args.self start _ three c.in_ok-positions.positions c.in-Ok.fields.items c.in-Ok.ensures.ok
    _ _ _ positions
    (unread c.args.id FastFields (λ bytes. HoldColumns schema documents bytes → ⊥) _ _ _ c.in_err-columns.ensures))

pub returns-in-Err-open_fast_fields : goal.returns-in-Err-open_fast_fields
returns-in-Err-open_fast_fields g c start three =
    let schema = c.args.schema.now in
    let documents = c.args.max_doc in
    let positions = sound_read c.args.id Positions c.in_ok-positions.positions c.in_ok-positions.ensures in
    stops_at_columns c.args.id schema documents c.args.self start _ three c.in_ok-positions.positions c.in-Ok.fields.items c.in-Ok.ensures.ok
    _ _ _ positions
    (unopened c.args.id FastFields (λ bytes. HoldColumns schema documents bytes → ⊥) _ _
    c.in_ok-columns.columns c.in_ok-columns.ensures
    c.in-Err-open_fast_fields.e c.of_segment-in-Err-open_fast_fields.result c.of_segment-in-Err-open_fast_fields.ensures c.in-Err-open_fast_fields.ensures)

pub returns-in_err-norms : goal.returns-in_err-norms
returns-in_err-norms g c start three =
    let schema = c.args.schema.now in
    let documents = c.args.max_doc in
    let positions = sound_read c.args.id Positions c.in_ok-positions.positions c.in_ok-positions.ensures in
    let columns = sound_read c.args.id FastFields c.in_ok-columns.columns c.in_ok-columns.ensures in
    stops_rest c.args.id schema documents c.from_residual-in_err-norms.result _ _ _ c.from_residual-in_err-norms.ensures.1
    (stops_at_norms c.args.id schema documents c.args.self start _ three c.in_ok-positions.positions c.in-Ok.fields.items c.in-Ok.ensures.ok
    c.in_ok-columns.columns c.in-Ok-open_fast_fields.ensures.0 _ _ (then_does positions columns) _
    (unread c.args.id FieldNorms (NormsUnopened schema documents) _ _ _ c.in_err-norms.ensures))

pub returns-in-Err-open_norms : goal.returns-in-Err-open_norms
returns-in-Err-open_norms g c start three =
    let schema = c.args.schema.now in
    let documents = c.args.max_doc in
    let positions = sound_read c.args.id Positions c.in_ok-positions.positions c.in_ok-positions.ensures in
    let columns = sound_read c.args.id FastFields c.in_ok-columns.columns c.in_ok-columns.ensures in
    stops_at_norms c.args.id schema documents c.args.self start _ three c.in_ok-positions.positions c.in-Ok.fields.items c.in-Ok.ensures.ok
    c.in_ok-columns.columns c.in-Ok-open_fast_fields.ensures.0 _ _ (then_does positions columns) _
    (unopened c.args.id FieldNorms (NormsUnopened schema documents) _ _ c.in_ok-norms.norms c.in_ok-norms.ensures
    c.in-Err-open_norms.e c.of_segment-in-Err-open_norms.result c.of_segment-in-Err-open_norms.ensures c.in-Err-open_norms.ensures)

pub returns-in-Ok-open_norms : goal.returns-in-Ok-open_norms
returns-in-Ok-open_norms g c start three =
    let schema = c.args.schema.now in
    let documents = c.args.max_doc in
    let positions = sound_read c.args.id Positions c.in_ok-positions.positions c.in_ok-positions.ensures in
    let columns = sound_read c.args.id FastFields c.in_ok-columns.columns c.in_ok-columns.ensures in
    all_open c.args.id schema documents c.args.self start _ three c.in_ok-positions.positions c.in-Ok.fields.items c.in-Ok.ensures.ok
    c.in_ok-columns.columns c.in-Ok-open_fast_fields.ensures.0 _ _ (then_does positions columns) c.in_ok-norms.norms _
    (sound_read c.args.id FieldNorms c.in_ok-norms.norms c.in_ok-norms.ensures)
    (record {
      terms =
          terms_are_open schema documents three.terms three.dictionaries three.terms_opened three.postings c.args.self.fields.items
          three.postings_opened c.in_ok-positions.positions c.in-Ok.fields.items c.in-Ok.ensures.ok;
      store = three.store_opened;
      columns = c.in-Ok-open_fast_fields.ensures.0;
      columns_are = c.in-Ok-open_fast_fields.ensures.1;
      norms = c.in-Ok-open_norms.ensures;
      sizes = search rules;
    })

use Rattle.std.proofs.Common.{ℕ, [], get_or}
use Rattle.seg_values.specs.Tree.{Tree}
use Rattle.seg_values.specs.ValueTrees.{tree_of}
use Rattle.seg_fastfield.proofs.PathNumbers.{field_path, only_known}
use Rattle.seg_fastfield.proofs.ColumnIds.{field_column_in}
use Rattle.seg_fastfield.proofs.DocumentSteps.{can_record, entry_at, recorded_pair, slow_pair}
use Rattle.seg_fastfield.proofs.row_recorder.RowRecorder.record_pair.Goals as goal
use Rattle.std.specs.Prelude.{None}

pub bounds-self-id-2 : goal.bounds-self-id-2
bounds-self-id-2 g c =
    let p : ℕ × Tree = (c.args.field, tree_of c.args.value.now) in
    (field_column_in c.args.self.now.schema.now c.args.self.now.fields.now p c.field_id-id.result
    c.index-self-id.result None
    c.requires.schema.3 c.requires.taken c.field_id-id.ensures).0

pub returns-then-not-entry-clause-recorded : goal.returns-then-not-entry-clause-recorded
returns-then-not-entry-clause-recorded g c =
    let schema = c.args.self.now.schema.now in
    let p : ℕ × Tree = (c.args.field, tree_of c.args.value.now) in
    slow_pair (g.Z.Analyzers.tokens_of c.args.self.now.analyzers.now) schema c.args.self.now.row p
    (get_or schema c.field_id-id.result c.index-self-id.result) c.args.columns.now
    (entry_at schema p c.field_id-id.result c.index-self-id.result c.requires.taken c.field_id-id.ensures)
    c.if-not-entry.true

pub record_tree-requires-clause-can : goal.record_tree-requires-clause-can
record_tree-requires-clause-can g c =
    let schema = c.args.self.now.schema.now in
    let p : ℕ × Tree = (c.args.field, tree_of c.args.value.now) in
    let e = get_or schema c.field_id-id.result c.index-self-id.result in
    can_record (g.Z.Analyzers.knows c.args.self.now.analyzers.now) schema c.args.self.now.row p e c.start_path.new.path
    c.args.columns.now (c.requires.schema.0, c.requires.schema.1, c.requires.schema.2) c.requires.taken
    c.requires.under_way (entry_at schema p c.field_id-id.result c.index-self-id.result c.requires.taken
    c.field_id-id.ensures)
    c.if-not-entry.false c.in_ok-start_path.ensures

pub record_tree-requires-clause-column : goal.record_tree-requires-clause-column
record_tree-requires-clause-column g c =
    let p : ℕ × Tree = (c.args.field, tree_of c.args.value.now) in
    (field_column_in c.args.self.now.schema.now c.args.self.now.fields.now p c.field_id-id.result c.index-self-id.result
    None c.requires.schema.3 c.requires.taken c.field_id-id.ensures).1

pub returns-clause-recorded : goal.returns-clause-recorded
returns-clause-recorded g c =
    let schema = c.args.self.now.schema.now in
    let p : ℕ × Tree = (c.args.field, tree_of c.args.value.now) in
    let e = get_or schema c.field_id-id.result c.index-self-id.result in
    recorded_pair (g.Z.Analyzers.tokens_of c.args.self.now.analyzers.now) schema c.args.self.now.row p e
    c.start_path.new.path c.record_tree.new.path c.args.columns.now c.record_tree.new.columns c.record_tree.result
    (entry_at schema p c.field_id-id.result c.index-self-id.result c.requires.taken c.field_id-id.ensures)
    c.if-not-entry.false c.in_ok-start_path.ensures (c.record_tree.ensures.recorded [])

pub record_tree-requires-clause-known : goal.record_tree-requires-clause-known
record_tree-requires-clause-known g c =
    let e = get_or c.args.self.now.schema.now c.field_id-id.result c.index-self-id.result in (
      c.in_ok-number.ensures.more.known c.args.columns.now c.requires.known,
      field_path e c.start_path.new.path c.as_str.result.now c.in_ok-number.number c.field_number.new.self.paths
          c.in_ok-start_path.ensures c.as_str.ensures c.in_ok-number.ensures.number,
    )

pub returns-clause-known : goal.returns-clause-known
returns-clause-known g c =
    only_known c.record_tree.new.known c.field_number.new.self c.record_tree.new.columns c.record_tree.result
    c.record_tree.ensures.known

use Rattle.seg_column_file.specs.ColumnFiles.{NamedColumn}
use Rattle.std.proofs.Common.{map}
use Rattle.seg_field_metadata.specs.MetadataEntries.{entry_of}
use Rattle.seg_field_metadata.proofs.ColumnTurns.{column_turn, columns_end}
use Rattle.seg_field_metadata.proofs.column_entries.column_entries.Goals as goal

pub loop-path-preserved-in_ok-add_column : goal.loop-path-preserved-in_ok-add_column
loop-path-preserved-in_ok-add_column c =
    let column : NamedColumn = record { path = c.in-Some.path.now; stored = c.in-Some.handle } in
    record {
      can = tt;
      finite = tt;
      so_far = λ names had.
          column_turn c.args.schema.now names c.args.columnar.now.columns c.loop-path.path-iterator column c.next.new.self
          c.in-Some.ensures.steps (map entry_of c.loop-path.entries.items) (map entry_of c.add_column.new.entries.items)
          (c.in_ok-add_column.ensures names had) (c.loop-path.invariant.so_far names had);
    }

pub loop-path-preserved : goal.loop-path-preserved
loop-path-preserved c =
    let column : NamedColumn = record { path = c.in-Some.path.now; stored = c.in-Some.handle } in
    record {
      can = tt;
      finite = tt;
      so_far = λ names had.
          column_turn c.args.schema.now names c.args.columnar.now.columns c.loop-path.path-iterator column c.next.new.self
          c.in-Some.ensures.steps (map entry_of c.loop-path.entries.items) (map entry_of c.add_column.new.entries.items)
          (c.in_ok-add_column.ensures names had) (c.loop-path.invariant.so_far names had);
    }

pub returns : goal.returns
returns c = λ names had.
    columns_end c.args.schema.now names c.args.columnar.now.columns c.loop-path.path-iterator c.in-None.ensures.steps.0
    (map entry_of c.loop-path.entries.items) (c.loop-path.invariant.so_far names had)

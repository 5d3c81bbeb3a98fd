use Rattle.seg_model.specs.Columns.{boolean_value}
use Rattle.seg_column_writer.specs.declared.value_kind.ValueKind.TheVariants.{Bool as Boolean}
use Rattle.seg_fastfield.proofs.PathNumbers.{known_found, recorded_found, refused_found, takes_found}
use Rattle.seg_fastfield.proofs.placed_values.put_bool.Goals as goal

pub record_bool_in-requires : goal.record_bool_in-requires
record_bool_in-requires c =
    takes_found c.args.path.now Boolean c.args.columns.now c.column.new.columns c.in_ok-column.column
    c.in_ok-column.ensures.found c.in_ok-column.ensures.made c.args.row (boolean_value c.args.value)
    c.requires.may

pub returns-clause-ok : goal.returns-clause-ok
returns-clause-ok c =
    recorded_found c.args.path.now Boolean c.args.columns.now c.column.new.columns c.in_ok-column.column
    c.in_ok-column.ensures.found c.in_ok-column.ensures.made c.args.row (boolean_value c.args.value)
    c.record_bool_in.new.self c.record_bool_in.result c.record_bool_in.ensures.ok

pub returns-clause-kept : goal.returns-clause-kept
returns-clause-kept c =
    refused_found c.args.path.now Boolean c.args.columns.now c.column.new.columns c.in_ok-column.column
    c.in_ok-column.ensures.found c.in_ok-column.ensures.made
    c.record_bool_in.new.self c.record_bool_in.result c.record_bool_in.ensures.kept

pub returns-clause-known : goal.returns-clause-known
returns-clause-known c =
    known_found c.args.path.now Boolean c.args.columns.now c.column.new.columns c.in_ok-column.column
    c.in_ok-column.ensures.found c.in_ok-column.ensures.made c.column.new.self
    c.args.known.now c.args.row (boolean_value c.args.value)
    c.record_bool_in.new.self c.record_bool_in.result c.record_bool_in.ensures.ok
    c.in_ok-column.ensures.known

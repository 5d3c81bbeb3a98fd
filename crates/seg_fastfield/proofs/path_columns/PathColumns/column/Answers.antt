use Rattle.std.proofs.Common.{inl, inr}
use Rattle.seg_column_writer.specs.RecordingRules.{AreKeptBut}
use Rattle.seg_common.proofs.Results.{at_error}
use Rattle.seg_fastfield.proofs.PathNumbers.{held_found, held_there}
use Rattle.seg_fastfield.proofs.path_columns.PathColumns.column.Goals as goal

pub returns-in-Some-clause-found : goal.returns-in-Some-clause-found
returns-in-Some-clause-found c =
    (held_there c.held.result c.args.path.now c.args.kind c.args.columns.now c.in-Some.column c.in-Some.is
    (c.held.ensures c.args.path.now c.args.columns.now c.requires.known c.requires.column)).0

pub returns-in-Some-clause-made : goal.returns-in-Some-clause-made
returns-in-Some-clause-made c =
    (held_there c.held.result c.args.path.now c.args.kind c.args.columns.now c.in-Some.column c.in-Some.is
    (c.held.ensures c.args.path.now c.args.columns.now c.requires.known c.requires.column)).1

pub returns-in-Some-clause-known : goal.returns-in-Some-clause-known
returns-in-Some-clause-known c = (c.requires.known.0, λ number path is. is)

pub returns-in_err-column-clause-kept : goal.returns-in_err-column-clause-kept
returns-in_err-column-clause-kept c =
    at_error {Q = AreKeptBut c.args.path.now c.args.kind c.args.columns.now c.column.new.self} c.from_residual.result
    (inl c.in_err-column.ensures.kept)

pub returns-in_err-hold-clause-kept : goal.returns-in_err-hold-clause-kept
returns-in_err-hold-clause-kept c =
    at_error {Q = AreKeptBut c.args.path.now c.args.kind c.args.columns.now c.column.new.self}
    c.from_residual-in_err-hold.result (inr c.in_ok-column.ensures.ok)

pub returns-clause-known : goal.returns-clause-known
returns-clause-known c =
    held_found c.args.path.now c.args.kind c.args.columns.now c.column.new.self c.in_ok-column.column
    c.in_ok-column.ensures.place c.in_ok-column.ensures.ok c.hold.new.self c.args.self.now c.args.place.number
    c.requires.known c.in_ok-hold.ensures.numbers c.in_ok-hold.ensures.held

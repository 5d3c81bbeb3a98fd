use Rattle.std.proofs.Common.{List, ℕ, ap, ◌∙◌}
use Rattle.seg_column_writer.specs.ColumnRecords.{place_of, with_column}
use Rattle.seg_column_writer.proofs.NamedColumns.{place_now, placed_counted, placed_now}
use Rattle.seg_column_writer.proofs.writer.ColumnarWriter.column.Goals as goal

pub invariant_of-self-2 : goal.invariant_of-self-2
invariant_of-self-2 c =
    placed_counted c.as_bytes.result.now c.args.kind c.self.inside.known _ c.self.inside.usage c.self.invariant
    c.in_ok-place.ensures.ok c.as_bytes.ensures.utf8

pub returns-clause-ok : goal.returns-clause-ok
returns-clause-ok c =
    placed_now c.as_bytes.result.now c.args.kind c.self.inside.known _ c.args.self.now c.self.invariant.0 c.self.view_is
    c.in_ok-place.ensures.ok
    ∙ ap (λ (p : List ℕ). with_column c.args.self.now p c.args.kind) c.as_bytes.ensures.value

pub returns-clause-place : goal.returns-clause-place
returns-clause-place c =
    place_now c.as_bytes.result.now c.args.kind c.self.inside.known c.args.self.now c.in_ok-place.place
    c.self.invariant.0 c.self.view_is c.in_ok-place.ensures.place
    ∙ ap (λ (p : List ℕ). place_of c.args.self.now p c.args.kind) c.as_bytes.ensures.value

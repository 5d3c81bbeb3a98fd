use Rattle.std.proofs.Common.{refl, arith}
use Rattle.seg_column_writer.specs.ColumnRecords.{with_type}
use Rattle.seg_column_writer.specs.RecordingRules.{CanDeclare}
use Rattle.seg_column_writer.proofs.NamedColumns.{at_known, changed_now, changed_still}
use Rattle.seg_column_writer.proofs.writer.ColumnarWriter.declare.Goals as goal

pub declare-requires-clause-within : goal.declare-requires-clause-within
declare-requires-clause-within c =
    (at_known (CanDeclare c.args.column_type) c.self.inside.known c.args.self.now c.args.column.place c.self.invariant.0
    c.self.view_is c.requires).0

pub declare-requires-clause-takes : goal.declare-requires-clause-takes
declare-requires-clause-takes c =
    (at_known (CanDeclare c.args.column_type) c.self.inside.known c.args.self.now c.args.column.place c.self.invariant.0
    c.self.view_is c.requires).1

pub invariant_of-self : goal.invariant_of-self
invariant_of-self c =
    changed_still (CanDeclare c.args.column_type) (with_type c.args.column_type c.args.sorts) (λ r. refl)
    c.args.column.place c.self.inside.known _ c.args.self.now c.self.invariant.0 c.self.view_is c.requires
    c.declare.ensures c.self.inside.usage (λ r. omega arith) c.self.invariant.1

pub returns : goal.returns
returns c =
    changed_now (CanDeclare c.args.column_type) (with_type c.args.column_type c.args.sorts) (λ r. refl)
    c.args.column.place c.self.inside.known _ c.args.self.now c.self.invariant.0 c.self.view_is c.requires
    c.declare.ensures

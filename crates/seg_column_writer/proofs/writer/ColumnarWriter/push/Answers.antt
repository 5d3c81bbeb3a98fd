use Rattle.std.proofs.Common.{refl, arith}
use Rattle.std.proofs.lemmas.List.{length_push}
use Rattle.seg_column_writer.specs.RecordingRules.{CanPush, pushed}
use Rattle.seg_column_writer.proofs.NamedColumns.{at_known, changed_counted, changed_now}
use Rattle.seg_column_writer.proofs.writer.ColumnarWriter.push.Goals as goal

pub push-requires-clause-within : goal.push-requires-clause-within
push-requires-clause-within c =
    (at_known (CanPush c.args.value) c.self.inside.known c.args.self.now c.args.column.place c.self.invariant.0
    c.self.view_is c.requires).0

pub push-requires-clause-takes : goal.push-requires-clause-takes
push-requires-clause-takes c =
    (at_known (CanPush c.args.value) c.self.inside.known c.args.self.now c.args.column.place c.self.invariant.0
    c.self.view_is c.requires).1

pub invariant_of-self-2 : goal.invariant_of-self-2
invariant_of-self-2 c =
    changed_counted (CanPush c.args.value) (pushed c.args.value) (λ r. refl)
    c.args.column.place c.self.inside.known _ c.args.self.now c.self.invariant.0 c.self.view_is c.requires
    c.in_ok-push.ensures.ok 1 c.self.inside.usage c.saturating_add-self-inside.result (λ r. length_push r.values _)
    c.self.invariant.1 (omega (arith, c.saturating_add-self-inside.ensures))

pub returns-clause-ok : goal.returns-clause-ok
returns-clause-ok c =
    changed_now (CanPush c.args.value) (pushed c.args.value) (λ r. refl)
    c.args.column.place c.self.inside.known _ c.args.self.now c.self.invariant.0 c.self.view_is c.requires
    c.in_ok-push.ensures.ok

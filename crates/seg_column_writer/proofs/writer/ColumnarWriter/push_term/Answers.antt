use Rattle.std.proofs.Common.{refl, arith}
use Rattle.std.proofs.lemmas.List.{length_push}
use Rattle.seg_column_writer.specs.RecordingRules.{CanPushTerm, pushed_term}
use Rattle.seg_column_writer.proofs.NamedColumns.{at_known, changed_counted, changed_now}
use Rattle.seg_column_writer.proofs.writer.ColumnarWriter.push_term.Goals as goal

pub push_term-requires-clause-within : goal.push_term-requires-clause-within
push_term-requires-clause-within c =
    (at_known (CanPushTerm c.args.row c.args.term.now) c.self.inside.known c.args.self.now c.args.column.place c.self.invariant.0
    c.self.view_is c.requires).0

pub push_term-requires-clause-takes : goal.push_term-requires-clause-takes
push_term-requires-clause-takes c =
    (at_known (CanPushTerm c.args.row c.args.term.now) c.self.inside.known c.args.self.now c.args.column.place c.self.invariant.0
    c.self.view_is c.requires).1

pub invariant_of-self-2 : goal.invariant_of-self-2
invariant_of-self-2 c =
    changed_counted (CanPushTerm c.args.row c.args.term.now) (pushed_term c.args.row c.args.term.now) (λ r. refl)
    c.args.column.place c.self.inside.known _ c.args.self.now c.self.invariant.0 c.self.view_is c.requires
    c.in_ok-push_term.ensures.ok 1 c.self.inside.usage c.saturating_add-self-inside.result (λ r. length_push r.values _)
    c.self.invariant.1 (omega (arith, c.saturating_add-self-inside.ensures))

pub returns-clause-ok : goal.returns-clause-ok
returns-clause-ok c =
    changed_now (CanPushTerm c.args.row c.args.term.now) (pushed_term c.args.row c.args.term.now) (λ r. refl)
    c.args.column.place c.self.inside.known _ c.args.self.now c.self.invariant.0 c.self.view_is c.requires
    c.in_ok-push_term.ensures.ok

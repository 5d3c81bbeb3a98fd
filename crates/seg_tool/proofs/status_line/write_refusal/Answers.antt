use Rattle.std.proofs.Common.{[], ◌∷◌, ◌++◌}
use Rattle.std.specs.Prelude.{codes}
use Rattle.seg_common.proofs.KnownBytes.{front_and_part, part_of_front}
use Rattle.seg_common.proofs.Results.{at_error}
use Rattle.seg_tool.specs.Statuses.{cause_words, cause_text}
use Rattle.seg_tool.proofs.Parts.{last_part}
use Rattle.seg_tool.proofs.status_line.write_refusal.Goals as goal

pub returns-in_err-write_whole-clause-err : goal.returns-in_err-write_whole-clause-err
returns-in_err-write_whole-clause-err g c =
    at_error c.from_residual.result
    (part_of_front (g.F.Sink.written c.args.faults.now) (g.F.Sink.written c.write_whole.new.sink) (codes "refused: ") (cause_text (cause_words c.args.error.now) ++ 10 ∷ []) c.in_err-write_whole.ensures.err)

pub returns-in_err-write_cause-clause-err : goal.returns-in_err-write_cause-clause-err
returns-in_err-write_cause-clause-err g c =
    let W = g.F.Sink.written in
    let text = cause_text (cause_words c.args.error.now) in
    at_error c.from_residual-in_err-write_cause.result
    (front_and_part (W c.args.faults.now) (W c.write_whole.new.sink) (W c.write_cause.new.faults) (codes "refused: ") (text ++ 10 ∷ []) c.in_ok-write_whole.ensures.ok
    (part_of_front (W c.write_whole.new.sink) (W c.write_cause.new.faults) text (10 ∷ []) c.in_err-write_cause.ensures.err))

pub returns-clause-err : goal.returns-clause-err
returns-clause-err g c =
    let W = g.F.Sink.written in
    let text = cause_text (cause_words c.args.error.now) in
    let end = W c.write_whole-2.new.sink in
    last_part c.write_whole-2.result (W c.args.faults.now) (W c.write_whole.new.sink) end (codes "refused: ") (text ++ 10 ∷ []) c.in_ok-write_whole.ensures.ok
    (last_part c.write_whole-2.result (W c.write_whole.new.sink) (W c.write_cause.new.faults) end text (10 ∷ []) c.in_ok-write_cause.ensures.ok c.write_whole-2.ensures.err)

use Rattle.std.proofs.Common.{◌∷◌, [], ◌++◌}
use Rattle.std.specs.Prelude.{decimal}
use Rattle.std.proofs.lemmas.List.{append-nil}
use Rattle.seg_common.proofs.KnownBytes.{part_of_front}
use Rattle.seg_common.proofs.Results.{at_error}
use Rattle.seg_tool.proofs.Parts.{last_part}
use Rattle.seg_tool.proofs.status_line.write_number.Goals as goal

pub returns-in_err-write_whole-in-Some-clause-err : goal.returns-in_err-write_whole-in-Some-clause-err
returns-in_err-write_whole-in-Some-clause-err g c =
    rw c.in-Some.is
    (at_error c.from_residual.result
    (part_of_front (g.F.Sink.written c.args.faults.now) (g.F.Sink.written c.write_whole.new.sink) (32 ∷ []) (decimal c.in-Some.number ++ []) c.in_err-write_whole-in-Some.ensures.err))

pub returns-in_ok-write_whole-in-Some-clause-err : goal.returns-in_ok-write_whole-in-Some-clause-err
returns-in_ok-write_whole-in-Some-clause-err g c =
    rw (c.in-Some.is, append-nil)
    (rw (← c.format.ensures.text, ← c.as_bytes.ensures.value)
    (last_part c.write_whole-in-Some.result (g.F.Sink.written c.args.faults.now) (g.F.Sink.written c.write_whole.new.sink) (g.F.Sink.written c.write_whole-in-Some.new.sink) (32 ∷ []) c.as_bytes.result.now c.in_ok-write_whole-in-Some.ensures.ok c.write_whole-in-Some.ensures.err))

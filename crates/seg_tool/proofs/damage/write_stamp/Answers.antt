use Rattle.std.proofs.Common.{◌≡◌, ◌∙◌, [], ◌∷◌, ◌++◌, subst}
use Rattle.std.specs.Prelude.{codes, decimal}
use Rattle.std.specs.Io.KnownBytes.{Appends}
use Rattle.seg_common.specs.Streams.{AppendsPart}
use Rattle.seg_common.proofs.KnownBytes.{front_and_part, part_of_front}
use Rattle.seg_common.proofs.Results.{at_error}
use Rattle.seg_tool.proofs.Parts.{last_part}
use Rattle.seg_tool.proofs.damage.write_stamp.Goals as goal

pub returns-in_err-write_whole-clause-err : goal.returns-in_err-write_whole-clause-err
returns-in_err-write_whole-clause-err g c =
    at_error c.from_residual.result
    (part_of_front (g.F.Sink.written c.args.faults.now) (g.F.Sink.written c.write_whole.new.sink) (46 ∷ []) (decimal c.args.stamp ++ codes ".del") c.in_err-write_whole.ensures.err)

pub returns-in_err-write_whole-2-clause-err : goal.returns-in_err-write_whole-2-clause-err
returns-in_err-write_whole-2-clause-err g c =
    let W = g.F.Sink.written in
    let digits : c.as_bytes.result.now ≡ decimal c.args.stamp = c.as_bytes.ensures.value ∙ c.format.ensures.text in
    at_error c.from_residual-in_err-write_whole-2.result
    (front_and_part (W c.args.faults.now) (W c.write_whole.new.sink) (W c.write_whole-2.new.sink) (46 ∷ []) (decimal c.args.stamp ++ codes ".del") c.in_ok-write_whole.ensures.ok
    (part_of_front (W c.write_whole.new.sink) (W c.write_whole-2.new.sink) (decimal c.args.stamp) (codes ".del")
    (subst (AppendsPart (W c.write_whole.new.sink) (W c.write_whole-2.new.sink)) digits c.in_err-write_whole-2.ensures.err)))

pub returns-clause-err : goal.returns-clause-err
returns-clause-err g c =
    let W = g.F.Sink.written in
    let digits : c.as_bytes.result.now ≡ decimal c.args.stamp = c.as_bytes.ensures.value ∙ c.format.ensures.text in
    let end = W c.write_whole-3.new.sink in
    last_part c.write_whole-3.result (W c.args.faults.now) (W c.write_whole.new.sink) end (46 ∷ []) (decimal c.args.stamp ++ codes ".del") c.in_ok-write_whole.ensures.ok
    (last_part c.write_whole-3.result (W c.write_whole.new.sink) (W c.write_whole-2.new.sink) end (decimal c.args.stamp) (codes ".del")
    (subst (Appends (W c.write_whole.new.sink) (W c.write_whole-2.new.sink)) digits c.in_ok-write_whole-2.ensures.ok) c.write_whole-3.ensures.err)

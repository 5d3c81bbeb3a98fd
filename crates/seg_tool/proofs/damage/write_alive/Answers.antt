use Rattle.std.proofs.Common.{◌∷◌, ◌++◌}
use Rattle.std.specs.Prelude.{codes, decimal}
use Rattle.seg_common.specs.SegmentIds.{id_text}
use Rattle.seg_common.proofs.KnownBytes.{part_of_front}
use Rattle.seg_common.proofs.Results.{at_error}
use Rattle.seg_tool.proofs.Parts.{last_part}
use Rattle.seg_tool.proofs.damage.write_alive.Goals as goal

pub returns-in_err-write_id-clause-err : goal.returns-in_err-write_id-clause-err
returns-in_err-write_id-clause-err g c =
    at_error c.from_residual.result
    (part_of_front (g.F.Sink.written c.args.faults.now) (g.F.Sink.written c.write_id.new.faults) (id_text c.args.id) (46 ∷ (decimal c.args.stamp ++ codes ".del")) c.in_err-write_id.ensures.err)

pub returns-clause-err : goal.returns-clause-err
returns-clause-err g c =
    let W = g.F.Sink.written in
    last_part c.write_stamp.result (W c.args.faults.now) (W c.write_id.new.faults) (W c.write_stamp.new.faults) (id_text c.args.id) (46 ∷ (decimal c.args.stamp ++ codes ".del")) c.in_ok-write_id.ensures.ok c.write_stamp.ensures.err

use Rattle.std.proofs.Common.{◌≡◌, ◌∙◌, List, ℕ, subst}
use Rattle.std.specs.Prelude.{OnErr}
use Rattle.seg_common.specs.FileNames.{extension}
use Rattle.seg_common.specs.SegmentIds.{id_text}
use Rattle.seg_common.specs.Streams.{AppendsPart}
use Rattle.seg_common.proofs.KnownBytes.{part_of_front}
use Rattle.seg_common.proofs.Results.{at_error}
use Rattle.seg_tool.proofs.Parts.{last_part}
use Rattle.seg_tool.proofs.damage.write_part.Goals as goal

pub returns-in_err-write_id-clause-err : goal.returns-in_err-write_id-clause-err
returns-in_err-write_id-clause-err g c =
    at_error c.from_residual.result
    (part_of_front (g.F.Sink.written c.args.faults.now) (g.F.Sink.written c.write_id.new.faults) (id_text c.args.id) (extension c.args.component) c.in_err-write_id.ensures.err)

pub returns-clause-err : goal.returns-clause-err
returns-clause-err g c =
    let W = g.F.Sink.written in
    let named : c.as_bytes.result.now ≡ extension c.args.component = c.as_bytes.ensures.value ∙ c.extension.ensures in
    last_part c.write_whole.result (W c.args.faults.now) (W c.write_id.new.faults) (W c.write_whole.new.sink) (id_text c.args.id) (extension c.args.component) c.in_ok-write_id.ensures.ok
    (subst (λ (xs : List ℕ). OnErr c.write_whole.result (AppendsPart (W c.write_id.new.faults) (W c.write_whole.new.sink) xs)) named c.write_whole.ensures.err)

use Rattle.std.proofs.Common.{◌<◌, length, subst, ap, ◌∙◌, arith}
use Rattle.std.proofs.lemmas.List.{get_or_default}
use Rattle.std.specs.Int.{w32, w64, to_le_bytes}
use Rattle.std.specs.List.{flat_map}
use Rattle.seg_common.specs.Streams.{AppendsPart}
use Rattle.seg_common.proofs.KnownBytes.{part_of_front}
use Rattle.seg_common.proofs.Results.{at_error}
use Rattle.seg_bits.proofs.WrittenSets.{part_of_words}
use Rattle.seg_bits.proofs.write.write_set.Goals as goal

pub returns-in_err-write_whole-clause-err : goal.returns-in_err-write_whole-clause-err
returns-in_err-write_whole-clause-err g c =
    let part = subst (AppendsPart (g.K.Sink.written c.args.writer.now) (g.K.Sink.written c.write_whole.new.sink)) c.to_le_bytes.ensures c.in_err-write_whole.ensures.err in
    at_error c.from_residual.result (part_of_front (g.K.Sink.written c.args.writer.now) (g.K.Sink.written c.write_whole.new.sink) (to_le_bytes w32 c.args.max_value) (flat_map (to_le_bytes w64) c.args.words.now) part)

pub returns-in_err-write_whole-2-clause-err : goal.returns-in_err-write_whole-2-clause-err
returns-in_err-write_whole-2-clause-err g c =
    let inside : c.loop-word.word-index < length c.args.words.now = omega arith in
    let word = c.to_le_bytes-in-loop-word.ensures ∙ ap (to_le_bytes w64) (get_or_default c.args.words.now c.loop-word.word-index _ 0 inside) in
    let part = subst (AppendsPart (g.K.Sink.written c.loop-word.writer) (g.K.Sink.written c.write_whole-in-loop-word.new.sink)) word c.in_err-write_whole-2.ensures.err in
    at_error c.from_residual-in_err-write_whole-2.result
    (part_of_words (g.K.Sink.written c.args.writer.now) (g.K.Sink.written c.loop-word.writer) (g.K.Sink.written c.write_whole-in-loop-word.new.sink) (to_le_bytes w32 c.args.max_value) c.args.words.now c.loop-word.word-index inside c.loop-word.invariant.so_far part)

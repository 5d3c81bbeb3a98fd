use Rattle.std.proofs.Common.{◌≤◌, ◌++◌, take}
use Rattle.std.specs.Int.{w32, w64, to_le_bytes}
use Rattle.std.specs.Io.KnownBytes.{Appends}
use Rattle.std.specs.List.{flat_map}
use Rattle.seg_common.specs.Streams.{StaysTold}
use Rattle.seg_bits.proofs.write.write_set.Given as goal

-- the size and the words so far were written
abbrev pub invariant-loop-word : goal.invariant-loop-word
invariant-loop-word g l = record {
  so_far : Appends (g.K.Sink.written l.fn.writer) (g.K.Sink.written l.writer) (to_le_bytes w32 l.fn.max_value ++ flat_map (to_le_bytes w64) (take l.word-index l.words));
  told : StaysTold (g.K.Sink.written l.fn.writer) (g.K.Sink.written l.writer);
  later : g.K.Sink.faults l.fn.writer ≤ g.K.Sink.faults l.writer;
}

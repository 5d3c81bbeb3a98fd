use Rattle.std.proofs.Common.{◌≡◌, length}
use Rattle.seg_index_build.specs.MergedIndices.{asked_of_index}
use Rattle.seg_index_build.proofs.SourceTurns.{SoFar}
use Rattle.seg_index_build.proofs.source_readers.open_indices.Given as goal

-- the indices so far are open, and there are as many sources as before
abbrev pub invariant-loop-at : goal.invariant-loop-at
invariant-loop-at g l = record {
  so_far : SoFar asked_of_index g.W.Directory.state l.indices l.fn.sources l.at l.sources l.readers.items;
  many : length l.sources ≡ length l.indices;
}

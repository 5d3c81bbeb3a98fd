use Rattle.std.proofs.Common.{take}
use Rattle.seg_batches.proofs.AliveTurns.{AliveSoFar}
use Rattle.seg_batches.proofs.alive_files.write_alive_files.Given as goal

-- the files of the segments so far are made
abbrev pub invariant-loop-segment : goal.invariant-loop-segment
invariant-loop-segment g l =
    AliveSoFar l.stamp (take l.segment-index l.segments) (g.W.Directory.state l.fn.directory) (g.W.Directory.state l.directory)

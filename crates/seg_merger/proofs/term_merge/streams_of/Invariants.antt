use Rattle.std.proofs.Common.{◌≡◌, ◌++◌, map, drop}
use Rattle.seg_merger.proofs.MergedKeys.{stream_of}
use Rattle.seg_merger.proofs.term_merge.streams_of.Given as goal

-- what is done, with what is left, is all
abbrev pub invariant-loop-source : goal.invariant-loop-source
invariant-loop-source l = l.streams.items ++ map stream_of (drop l.source-index l.sources) ≡ map stream_of l.sources

use Rattle.std.proofs.Common.{Ok, take}
use Rattle.seg_open.specs.OpeningSteps.{OpensSegments, asked_of}
use Rattle.seg_open.proofs.opened_segments.open_segments.Given as goal

-- the segments so far are open
abbrev pub invariant-loop-at : goal.invariant-loop-at
invariant-loop-at g l =
    OpensSegments (take l.at (asked_of l.segments l.filters)) (Ok l.opened.items) (g.W.Directory.state l.fn.directory) (g.W.Directory.state l.directory)

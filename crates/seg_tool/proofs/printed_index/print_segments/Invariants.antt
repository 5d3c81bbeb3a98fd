use Rattle.std.proofs.Common.{take}
use Rattle.seg_tool.specs.PrintedIndex.{all_of}
use Rattle.seg_tool.proofs.ReadingSteps.{PrintedSo}
use Rattle.seg_tool.proofs.printed_index.print_segments.Given as goal

-- the segments so far are printed
abbrev pub invariant-loop-at : goal.invariant-loop-at
invariant-loop-at g l =
    PrintedSo l.fn.out.items l.label l.detail (take l.at (all_of l.segments)) l.text.items (g.W.Directory.state l.fn.directory) (g.W.Directory.state l.directory)

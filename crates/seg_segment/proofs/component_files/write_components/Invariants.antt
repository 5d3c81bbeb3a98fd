use Rattle.std.proofs.Common.{Ok, take}
use Rattle.seg_directory.specs.DirectorySteps.{Works}
use Rattle.seg_segment.specs.SegmentFiles.{component_steps}
use Rattle.seg_segment.proofs.component_files.write_components.Given as goal

-- the files before the next are made
abbrev pub invariant-loop-component : goal.invariant-loop-component
invariant-loop-component g l = Works {T = Unit {0}} (component_steps l.id l.files (take l.component-index l.components)) (Ok tt) (g.W.Directory.state l.initial.directory) (g.W.Directory.state l.directory)

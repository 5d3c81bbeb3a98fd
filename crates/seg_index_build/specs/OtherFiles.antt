-- What the building of an index leaves as it was.
use Rattle.std.specs.Prelude.{ℕ, ◌≡◌, ◌∷◌, ◌++◌, List, true, None, IsTrue}
use Rattle.std.specs.FinMap.{get}
use Rattle.std.specs.List.{list_all}
use Rattle.seg_common.specs.declared.name.FileName.{FileName}
use Rattle.seg_common.specs.declared.name.FileName.TheVariants.{Alive, Meta}
use Rattle.seg_directory.specs.DirectoryStates.{DirectoryState}
use Rattle.seg_directory.specs.DiskChanges.{KeepsDisk}
use Rattle.seg_directory.specs.Files.{NamedFiles}
use Rattle.seg_model.specs.Fields.{Analyzer}
use Rattle.seg_model.specs.Input.{Input}
use Rattle.seg_segment.specs.SegmentFiles.{KeepsAllBut, segment_names}
use Rattle.seg_batches.specs.WrittenSegments.{WrittenSegment, alive_files, six_files}
use Rattle.seg_index_build.specs.IndexFiles.{output_id, work_ids, work_listed}
use Rattle.seg_index_build.specs.TwoDirectories.{Directories}

-- no file changes, nor, where the disk is told, what a crash may leave of it
pub record Stays (before after : DirectoryState) : Type 0 where
  pub files : after.files ≡ before.files
  pub disk : IsTrue before.disk.told → KeepsDisk before.disk after.disk

-- a segment of which nothing is deleted has no alive file
abbrev pub LacksAlive : NamedFiles → WrittenSegment → Type 0
LacksAlive files s = list_all (λ b. b) s.alive ≡ true → (stamp : ℕ) → get files (Alive s.id stamp) ≡ None

-- the files that may be made in the work directory: the meta, the six of each segment, and the alive files
abbrev pub work_files : Analyzer → Input → List FileName
work_files analyzer input = Meta ∷ (six_files (work_ids input.ids) ++ alive_files (work_listed analyzer input))

-- by a merge into one segment of an id: the meta, and the six of the segment
abbrev pub merged_files : ℕ → List FileName
merged_files id = Meta ∷ segment_names id

-- and so in the output directory
abbrev pub output_files : Input → List FileName
output_files input = merged_files (output_id input.ids)

-- both directories keep all other files, whatever is answered
pub record KeepsOthers (analyzer : Analyzer) (input : Input) (before after : Directories) : Type 0 where
  pub work : KeepsAllBut (work_files analyzer input) before.work.files after.work.files
  pub output : KeepsAllBut (output_files input) before.output.files after.output.files

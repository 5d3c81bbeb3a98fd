-- What is done with a directory in turn while an index is written.
use Rattle.std.specs.Prelude.{List, ◌++◌, ℕ}
pub use Rattle.seg_build.specs.IndexWriters.{publish_steps}
use Rattle.seg_directory.specs.DirectorySteps.{Step}
use Rattle.seg_meta.specs.MetaSteps.{create_steps}
use Rattle.seg_meta.specs.MetaText.{meta_text}
use Rattle.seg_meta.specs.SavableMetas.{empty_meta}
use Rattle.seg_model.specs.Fields.{Schema}
use Rattle.seg_meta.specs.IndexOfFiles.{Meta}
use Rattle.seg_model.specs.Input.{Settings}
use Rattle.seg_segment.specs.SegmentFiles.{write_steps}
use Rattle.seg_segment.specs.declared.segment_files.SegmentFiles.{SegmentFiles}

-- an index without segments is begun where there is no file
abbrev pub begin_steps : Settings → Schema → List Step
begin_steps settings schema = create_steps (meta_text (empty_meta settings schema))

-- an index that was begun is filled with the six files of one segment, and then its meta is saved
abbrev pub fill_one_steps : Meta → ℕ → SegmentFiles → List Step
fill_one_steps meta id files = write_steps id files ++ publish_steps meta

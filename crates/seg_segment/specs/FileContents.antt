-- What the six files of a segment hold.
use Rattle.std.specs.Prelude.{ℕ}
use Rattle.seg_model.specs.Contents.{Contents}
use Rattle.seg_model.specs.Fields.{Schema}
use Rattle.seg_directory.specs.Files.{NamedFiles}
use Rattle.seg_segment.specs.SegmentFiles.{HasFiles}
use Rattle.seg_segment.specs.SpelledContents.{Spell}
use Rattle.seg_segment.specs.declared.segment_files.SegmentFiles.{SegmentFiles}

-- the six files of an id are there, and spell these contents
pub record Holds (directory : NamedFiles) (id : ℕ) (schema : Schema) (contents : Contents) : Type 0 where
  pub files : SegmentFiles
  pub there : HasFiles directory id files
  pub spelled : Spell schema files contents

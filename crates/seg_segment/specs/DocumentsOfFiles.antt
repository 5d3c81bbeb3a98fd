-- Six files, and the documents for which they stand.
use Rattle.std.specs.Prelude.{◌≡◌, List, Some}
use Rattle.seg_values.specs.Tree.{Document}
use Rattle.seg_model.specs.Contents.{Contents, full_reading}
use Rattle.seg_model.specs.Fields.{Schema, Analyzer}
use Rattle.seg_segment.specs.SpelledContents.{Spell}
use Rattle.seg_segment.specs.declared.segment_files.SegmentFiles.{SegmentFiles}

-- six files spell the full reading of documents
pub record StandFor (schema : Schema) (analyzer : Analyzer) (documents : List Document)
    (files : SegmentFiles) : Type 0 where
  pub contents : Contents
  pub read : full_reading schema analyzer documents ≡ Some contents
  pub spelled : Spell schema files contents

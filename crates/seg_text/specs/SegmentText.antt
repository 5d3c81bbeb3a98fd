-- The printed text of a segment. Each line ends with one line feed.
use Rattle.std.specs.Prelude.{ℕ, List, ◌++◌, Bool, count_by}
use Rattle.seg_model.specs.Fields.{Schema}
use Rattle.seg_model.specs.Contents.{Reading}
use Rattle.seg_text.specs.HeaderText.{header_text, dead_text}
use Rattle.seg_text.specs.FieldText.{fields_text}
use Rattle.seg_text.specs.DocumentText.{documents_text}

-- what is printed of a segment: a word before its id, its id, which documents are alive, and what it holds
pub record PrintedSegment : Type 0 where
  pub label : List ℕ
  pub id : ℕ
  pub alive : List Bool
  pub reading : Reading

-- its first lines, its indexed fields and its stored documents
abbrev pub segment_text : Schema → PrintedSegment → List ℕ
segment_text schema segment =
    header_text segment.label segment.id segment.reading.documents (count_by (λ b. b) segment.alive)
    ++ (dead_text segment.alive
    ++ (fields_text schema segment.reading.terms ++ documents_text schema segment.reading.stored))

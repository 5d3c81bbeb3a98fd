-- The text of segments that are open.
use Rattle.std.specs.Prelude.{List, [], ◌∷◌, ◌++◌, ℕ, Option, Some, count_by}
use Rattle.std.specs.FinMap.{entries}
use Rattle.seg_model.specs.Columns.{Columns}
use Rattle.seg_model.specs.Contents.{reading_part}
use Rattle.seg_postings.specs.OpenedFields.{OpenField}
use Rattle.seg_open.specs.OpenSegment.{OpenSegment, contents_of, terms_in}
use Rattle.seg_model.specs.Fields.{Schema}
use Rattle.seg_text.specs.FieldText.{field_text}
use Rattle.seg_text.specs.NormsText.{norms_text}
use Rattle.seg_text.specs.SegmentText.{PrintedSegment, segment_text}
use Rattle.seg_text.specs.ColumnText.{columns_text}
use Rattle.seg_generate.specs.SummaryText.{generated_line, summary_text}
use Rattle.seg_tool.specs.declared.words.Detail.{Detail}
use Rattle.seg_tool.specs.declared.words.Detail.TheVariants.{Brief, Full, Summary}

-- the text at a place of the fields, by the name there: none where no field is open
abbrev pub opened_text : List ℕ → Option (Option OpenField) → List ℕ
opened_text name (Some (Some f)) = field_text name (entries (terms_in (Some f)))
opened_text name _ = []

-- what is printed before the segments: in a summary what was asked for
abbrev pub opening : Detail → List ℕ
opening Summary = generated_line
opening Brief = []
opening Full = []

-- the text of a segment with these columns and length ids, which come last, in full alone; a summary is one line
abbrev pub printed_text : Detail → Schema → PrintedSegment → Columns → List (List ℕ) → List ℕ
printed_text Summary schema segment columns norms =
    summary_text schema segment.label segment.id segment.reading.documents
    (count_by (λ b. b) segment.alive) segment.reading.terms
printed_text Brief schema segment columns norms = segment_text schema segment
printed_text Full schema segment columns norms =
    segment_text schema segment ++ (columns_text columns ++ norms_text schema norms)

-- what an open segment reads as
abbrev pub read_segment : List ℕ → OpenSegment → PrintedSegment
read_segment label s = record { label = label; id = s.id; alive = s.alive; reading = reading_part (contents_of s) }

-- its text
abbrev pub read_segment_text : List ℕ → Detail → OpenSegment → List ℕ
read_segment_text label detail s =
    printed_text detail s.schema (read_segment label s) (contents_of s).columns (contents_of s).norms

-- the text of open segments, one after another
abbrev pub read_texts : List ℕ → Detail → List OpenSegment → List ℕ
read_texts label detail [] = []
read_texts label detail (s ∷ opened) = read_segment_text label detail s ++ read_texts label detail opened

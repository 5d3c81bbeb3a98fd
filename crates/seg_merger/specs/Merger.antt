-- What a merger of segments does.
use Rattle.std.specs.Prelude.{ℕ, ◌≡◌, ◌+◌, ◌^◌, List, [], ◌∷◌, ◌++◌, map, length, nat_eq, nat_lt, Bool, ◌&&◌, true, false, Option, Some, None, Result, Ok, Err, IfOk}
use Rattle.seg_values.specs.declared.error.ArgumentCause.TheVariants.{Documents, Filters, Numbers}
use Rattle.seg_values.specs.declared.error.TantivyError.{TantivyError}
use Rattle.seg_values.specs.declared.error.TantivyError.TheVariants.{InvalidArgument, OutOfMemory}
use Rattle.seg_columns.specs.declared.error.ColumnError.{ColumnError}
use Rattle.seg_columns.specs.declared.error.ColumnError.TheVariants as column_error
use Rattle.seg_columns.specs.declared.error.ColumnError.TheVariants.{Malformed, Mixed}
use Rattle.seg_directory.specs.DirectoryStates.{DirectoryState}
use Rattle.seg_directory.specs.DirectorySteps.{Works}
use Rattle.seg_meta.specs.Metas.{SegmentParts}
use Rattle.seg_model.specs.DocumentCheck.{unless}
use Rattle.seg_model.specs.Contents.{Contents}
use Rattle.seg_model.specs.Fields.{Schema}
use Rattle.seg_model.specs.Input.{Filter}
use Rattle.seg_model.specs.Join.{join}
use Rattle.seg_model.specs.CheckAnswers.{Tells}
use Rattle.seg_segment.specs.SegmentFiles.{write_steps}
use Rattle.seg_segment.specs.SpelledContents.{Spell}
use Rattle.seg_segment.specs.TokenTotals.{TellTotals}
use Rattle.seg_segment.specs.declared.segment_files.SegmentFiles.{SegmentFiles}
use Rattle.seg_store.specs.Store.{store_of}
use Rattle.seg_open.specs.OpenSegment.{OpenSegment, kept_count, part_of}
use Rattle.seg_open.specs.OpeningSteps.{OpensSegments, asked_of}
use Rattle.seg_merger.specs.JoinedStore.{merged_blocks}
use Rattle.seg_merger.specs.JoinedTotals.{joined_total}

-- the schema, and the segments that are merged
pub record Merging : Type 0 where
  pub schema : Schema
  pub readers : List OpenSegment

-- this many documents are more than one segment can hold
abbrev pub too_many : ℕ → Option TantivyError
too_many documents = unless (nat_lt documents (2 ^ 31)) (InvalidArgument Documents)

-- whether a filter has as many marks as the segment that it is for has documents
abbrev pub fits : Option Filter → SegmentParts → Bool
fits None s = true
fits (Some f) s = nat_eq (length f) s.meta.documents

-- whether there is one filter, or none, for each segment, and each fits
abbrev pub all_fit : List (Option Filter) → List SegmentParts → Bool
all_fit [] [] = true
all_fit [] (s ∷ segments) = false
all_fit (f ∷ filters) [] = false
all_fit (f ∷ filters) (s ∷ segments) = fits f s && all_fit filters segments

-- filters that don't fit are refused
abbrev pub merger_refusal : List SegmentParts → List (Option Filter) → Option TantivyError
merger_refusal segments filters = unless (all_fit filters segments) (InvalidArgument Filters)

-- a merger has the segments that were opened
pub record IsMergerOf (schema : Schema) (opened : List OpenSegment) (merger : Merging) : Type 0 where
  pub of_schema : merger.schema ≡ schema
  pub readers : merger.readers ≡ opened

-- a merger is opened, whatever its segments are found to be
pub data OpensMerger (schema : Schema) (segments : List SegmentParts) (filters : List (Option Filter))
    (result : Result Merging TantivyError) (before after : DirectoryState) : Type 0 where
  refuses : (e : TantivyError) → result ≡ Err e → merger_refusal segments filters ≡ Some e → after ≡ before
      → OpensMerger schema segments filters result before after
  starves : result ≡ Err OutOfMemory → after ≡ before → OpensMerger schema segments filters result before after
  stops : (e : TantivyError) → result ≡ Err e → merger_refusal segments filters ≡ None
      → OpensSegments (asked_of segments filters) (Err e) before after
      → OpensMerger schema segments filters result before after
  opens : (opened : List OpenSegment) → merger_refusal segments filters ≡ None
      → OpensSegments (asked_of segments filters) (Ok opened) before after
      → Tells (too_many (kept_count opened)) result → IfOk result (IsMergerOf schema opened)
      → OpensMerger schema segments filters result before after

-- ---- what is written

-- what is told where the columns are not joined
abbrev pub refusal_of : ColumnError → TantivyError
refusal_of Mixed = InvalidArgument Numbers
refusal_of Malformed = OutOfMemory
refusal_of column_error.OutOfMemory = OutOfMemory

-- six files are those of what segments join to, with the estimated token totals, and blocks stacked or of this size
pub record AreJoinedFiles (schema : Schema) (block_size : ℕ) (readers : List OpenSegment)
    (files : SegmentFiles) : Type 0 where
  pub contents : Contents
  pub joined : join schema (map part_of readers) ≡ Some contents
  pub spell : Spell schema files contents
  pub totals : TellTotals schema (joined_total readers) files.postings
  pub store : store_of files.store ≡ Some (merged_blocks block_size readers)

-- they are made: out of memory or no type for the numbers of a path before any call, or the six files of the segment
pub data WritesJoined {T : Type 0} (segment : SegmentParts) (block_size : ℕ) (readers : List OpenSegment)
    (result : Result T TantivyError) (before after : DirectoryState) : Type 0 where
  runs_out : result ≡ Err OutOfMemory → after ≡ before → WritesJoined segment block_size readers result before after
  mixes : result ≡ Err (InvalidArgument Numbers) → join segment.schema (map part_of readers) ≡ None → after ≡ before
      → WritesJoined segment block_size readers result before after
  makes : (files : SegmentFiles) → AreJoinedFiles segment.schema block_size readers files
      → Works (write_steps segment.meta.id files) result before after
      → WritesJoined segment block_size readers result before after

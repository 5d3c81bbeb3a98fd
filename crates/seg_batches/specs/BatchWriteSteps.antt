-- What the writing of segments does to a directory.
use Rattle.std.specs.Prelude.{ℕ, ◌≡◌, ◌++◌, List, [], ◌∷◌, map, length, drop, slice_range, Option, Result, IfOk, OnOk}
use Rattle.std.specs.List.{enumerate_from}
use Rattle.std.specs.Option.{option_or}
use Rattle.seg_values.specs.declared.error.TantivyError.{TantivyError}
use Rattle.seg_values.specs.Tree.{Document}
use Rattle.seg_model.specs.Fields.{Schema, Analyzer}
use Rattle.seg_model.specs.Operations.{Operation, Batch, additions, alive_after}
use Rattle.seg_model.specs.Refusals.{batch_refusal, cut_from}
use Rattle.seg_directory.specs.DirectoryStates.{DirectoryState}
use Rattle.seg_directory.specs.DirectorySteps.{Step, Works, passes}
use Rattle.seg_build.specs.StoredBlocks.{HasBlocks}
use Rattle.seg_batches.specs.Queues.{Queue}
use Rattle.seg_segment.specs.SegmentFiles.{write_steps}
use Rattle.seg_segment.specs.DocumentsOfFiles.{StandFor}
use Rattle.seg_segment.specs.TokenTotals.{TellTotals}
use Rattle.seg_segment.specs.declared.segment_files.SegmentFiles.{SegmentFiles}
use Rattle.seg_batches.specs.BatchTotals.{documents_total}
use Rattle.seg_batches.specs.WrittenSegments.{WrittenSegment, segment_of}
use Rattle.seg_batches.specs.DeleteCursors.{PassesEarlier}
use Rattle.seg_batches.specs.declared.term_target.TermTarget.{TermTarget}

-- the batch of the operations from one place up to another, with what those after it leave alive
abbrev pub batch_between : Schema → Analyzer → ℕ → ℕ → List Operation → Batch
batch_between schema analyzer first end operations = record {
  documents = additions (slice_range operations first end);
  alive = alive_after schema analyzer (slice_range operations first end) (drop end operations);
}

-- ---- why a batch is not written

-- no writer can be started, for the cause that is given, or the batch is refused
abbrev pub batch_cause : Option TantivyError → Schema → Analyzer → List (ℕ × Operation) → Option TantivyError
batch_cause start schema analyzer batch = option_or start (batch_refusal schema analyzer batch)

-- of each batch of operations that are cut
abbrev pub batch_causes : Option TantivyError → Schema → Analyzer → List ℕ → List Operation → List (Option TantivyError)
batch_causes start schema analyzer cuts operations =
    map (batch_cause start schema analyzer) (cut_from 0 cuts (enumerate_from 0 operations))

-- ---- steps

-- a batch is refused where there is a cause; else its six files are made
abbrev pub batch_steps : ℕ → Option TantivyError → SegmentFiles → List Step
batch_steps id cause files = passes cause ∷ write_steps id files

-- and so each that has files, one after another; the next is tested, and no more
abbrev pub batches_steps : List ℕ → List (Option TantivyError) → List SegmentFiles → List Step
batches_steps [] causes files = []
batches_steps (id ∷ ids) [] files = []
batches_steps (id ∷ ids) (cause ∷ causes) [] = passes cause ∷ []
batches_steps (id ∷ ids) (cause ∷ causes) (f ∷ files) = batch_steps id cause f ++ batches_steps ids causes files

-- six files stand for documents, tell how often their terms occur, and have them in blocks of a size
pub record StandAndTell (schema : Schema) (block_size : ℕ) (analyzer : Analyzer)
    (documents : List Document) (files : SegmentFiles)
    : Type 0 where
  pub stand : StandFor schema analyzer documents files
  pub totals : TellTotals schema (documents_total schema analyzer documents) files.postings
  pub blocks : HasBlocks schema block_size documents files.store

-- each of these files stand for the documents of a batch, tell their totals, and have them in blocks of a size
abbrev pub AllStandFor : Schema → ℕ → Analyzer → List SegmentFiles → List Batch → Type 0
AllStandFor schema block_size analyzer [] batches = Unit {0}
AllStandFor schema block_size analyzer (f ∷ files) [] = ⊥
AllStandFor schema block_size analyzer (f ∷ files) (batch ∷ batches) =
    StandAndTell schema block_size analyzer batch.documents f × AllStandFor schema block_size analyzer files batches

-- the segments of batches are written, each under its id: six files that stand for its documents, whatever the answer;
-- up to the first that isn't
pub record MakesBatches {T : Type 0} (causes : List (Option TantivyError)) (schema : Schema) (block_size : ℕ)
    (analyzer : Analyzer) (ids : List ℕ) (batches : List Batch) (result : Result T TantivyError)
    (before after : DirectoryState)
    : Type 0 where
  pub files : List SegmentFiles
  pub stand : AllStandFor schema block_size analyzer files batches
  pub whole : OnOk result (length files ≡ length ids)
  pub works : Works (batches_steps ids causes files) result before after

-- that of one batch is written and answered, while the deletes that wait are passed by; its first operation has the place
-- `first`
pub record WritesBatch (cause : Option TantivyError) (schema : Schema) (block_size : ℕ) (analyzer : Analyzer)
    (id first : ℕ) (batch : Batch) (result : Result WrittenSegment TantivyError)
    (old new : Queue TermTarget) (cursor : ℕ)
    (before after : DirectoryState) : Type 0 where
  pub does : MakesBatches (cause ∷ []) schema block_size analyzer (id ∷ []) (batch ∷ []) result before after
  pub segment : IfOk result (λ s. s ≡ segment_of id batch)
  pub earlier : PassesEarlier first old new cursor

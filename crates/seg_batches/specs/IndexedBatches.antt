-- The documents of a batch, added to a segment one by one.
use Rattle.std.specs.Prelude.{ℕ, ◌≡◌, ◌<◌, ◌^◌, ◌⊎◌, List, [], length, Bool, true, false, Some, Result, IfErr, OnOk}
use Rattle.seg_values.specs.declared.error.TantivyError.{TantivyError}
use Rattle.seg_values.specs.declared.error.TantivyError.TheVariants.{OutOfMemory}
use Rattle.seg_model.specs.Fields.{Schema, Analyzer}
use Rattle.seg_model.specs.Operations.{Operation, add, delete, delete_all, additions}
use Rattle.seg_model.specs.Stamps.{addition_stamps}
use Rattle.seg_build.specs.StoredBlocks.{HasBlocks}
use Rattle.seg_build.specs.SegmentWriters.{SegmentWriting, Writes}
use Rattle.seg_segment.specs.DocumentsOfFiles.{StandFor}
use Rattle.seg_segment.specs.TokenTotals.{TellTotals}
use Rattle.seg_segment.specs.declared.segment_files.SegmentFiles.{SegmentFiles}
use Rattle.seg_model.specs.Refusals.{batch_error}
use Rattle.seg_batches.specs.BatchTotals.{documents_total}

-- an operation that adds a document
abbrev pub is_addition : Operation → Bool
is_addition (add document) = true
is_addition (delete term) = false
is_addition (delete_all terms) = false

-- a writer has the documents that operations add, their places as stamps; the first operation has the place `first`
abbrev pub HasAdditions : Analyzer → ℕ → List Operation → SegmentWriting → Type 0
HasAdditions analyzer first operations writer =
    Writes analyzer (additions operations) (addition_stamps first operations) writer

-- a writer of no documents, whose store will have blocks of this size
pub record IsUnused (schema : Schema) (block_size : ℕ) (analyzer : Analyzer) (writer : SegmentWriting) : Type 0 where
  pub none : Writes analyzer [] [] writer
  pub of_schema : writer.schema ≡ schema
  pub of_size : writer.block_size ≡ block_size

-- the documents of operations are added to such a writer, up to the first that is refused
pub record AddsAll {T Z : Type 0} (tokens_of : Z → Analyzer) (first : ℕ) (operations : List Operation)
    (result : Result T TantivyError) (old new : Z × SegmentWriting) : Type 0 where
  pub added : OnOk result (HasAdditions (tokens_of old.0) first operations new.1)
  pub analyzers : new.0 ≡ old.0
  pub schema : new.1.schema ≡ old.1.schema
  pub block_size : new.1.block_size ≡ old.1.block_size
  pub err : IfErr result (λ e. (batch_error old.1.schema (tokens_of old.0) first operations ≡ Some e)
      ⊎ (e ≡ OutOfMemory))

-- six files and stamps are those of a batch, whose first operation has the place `first`: the files stand for the
-- documents that it adds, tell their totals, and have them in blocks of a size
pub record AreOfBatch (schema : Schema) (block_size : ℕ) (analyzer : Analyzer) (first : ℕ) (operations : List Operation)
    (files : SegmentFiles) (stamps : List ℕ) : Type 0 where
  pub stand : StandFor schema analyzer (additions operations) files
  pub totals : TellTotals schema (documents_total schema analyzer (additions operations)) files.postings
  pub blocks : HasBlocks schema block_size (additions operations) files.store
  pub stamped : stamps ≡ addition_stamps first operations
  pub few : length (additions operations) < 2 ^ 31

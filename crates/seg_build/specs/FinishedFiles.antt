-- The six files of what a writer kept, made in a directory.
use Rattle.std.specs.Prelude.{ℕ, ◌≡◌, ◌⊎◌, List, true, is_some, Option, Some, None, Result, Err}
use Rattle.seg_values.specs.Tree.{Document}
use Rattle.seg_values.specs.declared.error.ArgumentCause.TheVariants.{Numbers}
use Rattle.seg_values.specs.declared.error.TantivyError.{TantivyError}
use Rattle.seg_values.specs.declared.error.TantivyError.TheVariants.{InvalidArgument, SystemError, OutOfMemory}
use Rattle.seg_model.specs.Columns.{columns}
use Rattle.seg_model.specs.Fields.{Schema, Analyzer}
use Rattle.seg_directory.specs.DirectoryStates.{DirectoryState}
use Rattle.seg_directory.specs.DirectorySteps.{Works}
use Rattle.seg_segment.specs.SegmentFiles.{write_steps}
use Rattle.seg_segment.specs.DocumentsOfFiles.{StandFor}
use Rattle.seg_segment.specs.declared.segment_files.SegmentFiles.{SegmentFiles}
use Rattle.seg_build.specs.FieldTerms.{fields_of}
use Rattle.seg_build.specs.WriterContents.{Kept}
use Rattle.seg_build.specs.StoredBlocks.{HasBlocks}
use Rattle.seg_build.specs.SegmentWriters.{SegmentWriting, IsKeptOf}
use Rattle.seg_build.specs.declared.memory_segment.MemorySegment.{MemorySegment}
use Rattle.seg_build.specs.PostingsTotals.{TotalsAreCounts}

-- six files stand for documents, the totals of their postings are counts, and the blocks of the store are cut by a size
pub record AreOfDocuments (schema : Schema) (analyzer : Analyzer) (block_size : ℕ) (documents : List Document)
    (files : SegmentFiles) : Type 0 where
  pub stand : StandFor schema analyzer documents files
  pub totals : TotalsAreCounts files.postings (fields_of schema analyzer documents)
  pub blocks : HasBlocks schema block_size documents files.store

-- six files are of any documents that made what is kept
abbrev pub AreOfKept : Schema → Kept → SegmentFiles → Type 0
AreOfKept schema kept files =
    (analyzer : Analyzer) (block_size : ℕ) (documents : List Document) (stamps : List ℕ)
    → IsKeptOf schema analyzer block_size documents stamps kept
    → AreOfDocuments schema analyzer block_size documents files

-- a segment in memory is of what is kept: its files, terms and blocks, and the stamps of its documents
pub record IsMadeOfKept (schema : Schema) (kept : Kept) (made : MemorySegment) : Type 0 where
  pub stand : (analyzer : Analyzer) (block_size : ℕ) (documents : List Document) (stamps : List ℕ)
      → IsKeptOf schema analyzer block_size documents stamps kept → StandFor schema analyzer documents made.files
  pub fields : (analyzer : Analyzer) (block_size : ℕ) (documents : List Document) (stamps : List ℕ)
      → IsKeptOf schema analyzer block_size documents stamps kept → made.fields ≡ fields_of schema analyzer documents
  pub blocks : (analyzer : Analyzer) (block_size : ℕ) (documents : List Document) (stamps : List ℕ)
      → IsKeptOf schema analyzer block_size documents stamps kept
      → HasBlocks schema block_size documents made.files.store
  pub totals : TotalsAreCounts made.files.postings made.fields
  pub stamps : made.stamps.items ≡ kept.stamps

-- any documents that made what is kept have no columns
abbrev pub AreMixed : Schema → Kept → Type 0
AreMixed schema kept =
    (analyzer : Analyzer) (block_size : ℕ) (documents : List Document) (stamps : List ℕ)
    → IsKeptOf schema analyzer block_size documents stamps kept → columns schema analyzer documents ≡ None

-- they have columns
abbrev pub AreUnmixed : Schema → Kept → Type 0
AreUnmixed schema kept =
    (analyzer : Analyzer) (block_size : ℕ) (documents : List Document) (stamps : List ℕ)
    → IsKeptOf schema analyzer block_size documents stamps kept → is_some (columns schema analyzer documents) ≡ true

-- why no files are made of what is kept: its documents have no columns, or out of memory
abbrev pub Fails : Schema → Kept → TantivyError → Type 0
Fails schema kept e =
    ((e ≡ InvalidArgument Numbers) × AreMixed schema kept) ⊎ ((e ≡ OutOfMemory) × AreUnmixed schema kept)

-- what is kept is written: before any call its documents have no columns or it is out of memory, or six files of it are
-- made under the id
pub data Finishes {T : Type 0} (schema : Schema) (id : ℕ) (kept : Kept) (result : Result T TantivyError)
    (before after : DirectoryState) : Type 0 where
  fails : (e : TantivyError) → Fails schema kept e → result ≡ Err e → after ≡ before
      → Finishes schema id kept result before after
  makes : (files : SegmentFiles) → AreOfKept schema kept files → Works (write_steps id files) result before after
      → Finishes schema id kept result before after

-- where anything is kept; else there is only an error
abbrev pub FinishesKept : {T : Type 0} → Schema → ℕ → Option Kept → Result T TantivyError
    → DirectoryState → DirectoryState → Type 0
FinishesKept schema id None result before after = (result ≡ Err SystemError) × (after ≡ before)
FinishesKept schema id (Some kept) result before after = Finishes schema id kept result before after

-- what a writer has is written
abbrev pub Finalizes : {T : Type 0} → SegmentWriting → Result T TantivyError → DirectoryState → DirectoryState → Type 0
Finalizes writer result before after = FinishesKept writer.schema writer.id writer.kept result before after

-- Segments that are made of the documents of a batch.
use Rattle.std.specs.Prelude.{ℕ, ◌≡◌, ◌<◌, ◌^◌, ◌++◌, List, length, Bool, Option, Result, IfOk}
use Rattle.seg_model.specs.Contents.{Contents}
use Rattle.seg_model.specs.Fields.{Schema, Analyzer}
use Rattle.seg_model.specs.Operations.{Operation, additions, alive_after}
use Rattle.seg_model.specs.Stamps.{addition_stamps, stamped_deletes}
use Rattle.seg_build.specs.StoredBlocks.{HasBlocks}
use Rattle.seg_batches.specs.Queues.{Queue}
use Rattle.seg_batches.specs.declared.operation.DeleteOperation.{DeleteOperation}
use Rattle.seg_segment.specs.SpelledContents.{Spell}
use Rattle.seg_segment.specs.DocumentsOfFiles.{StandFor}
use Rattle.seg_segment.specs.TokenTotals.{TellTotals}
use Rattle.seg_segment.specs.declared.segment_files.SegmentFiles.{SegmentFiles}
use Rattle.seg_batches.specs.AppliedDeletes.{IsTold}
use Rattle.seg_batches.specs.BatchTotals.{documents_total}
use Rattle.seg_batches.specs.Laws.{as_operations}
use Rattle.seg_batches.specs.DeleteCursors.{PassesEarlier}
use Rattle.seg_batches.specs.declared.term_target.TermTarget.{TermTarget}

-- six files spell contents of this many documents
pub record AreWhole (schema : Schema) (files : SegmentFiles) (documents : ℕ) : Type 0 where
  pub contents : Contents
  pub spelled : Spell schema files contents
  pub counted : contents.documents ≡ documents

-- what is told of the documents of a batch that deletes leave: of any batch that has these files and stamps, among all
-- operations whose deletes wait
abbrev pub IsLeft : Schema → SegmentFiles → ℕ → List ℕ → List (DeleteOperation TermTarget) → Option (List Bool) → Type 0
IsLeft schema files first stamps waiting told =
    (analyzer : Analyzer) (before batch after : List Operation) → length before ≡ first
    → StandFor schema analyzer (additions batch) files
    → stamps ≡ addition_stamps first batch
    → as_operations waiting ≡ stamped_deletes 0 (before ++ (batch ++ after))
    → IsTold (length stamps) (alive_after schema analyzer batch after) told

-- it is found which documents of a batch the deletes leave; its first operation has the place `first`
pub record FindsLeft {E : Type 0} (schema : Schema) (files : SegmentFiles) (first : ℕ) (stamps : List ℕ)
    (result : Result (Option (List Bool)) E) (old new : Queue TermTarget) (cursor : ℕ) : Type 0 where
  pub left : IfOk result (IsLeft schema files first stamps old.operations)
  pub earlier : PassesEarlier first old new cursor

-- the segment of a batch: its six files with their totals and the blocks of their store, how many documents it has, and
-- what is told of those that deletes leave; its first operation has the place `first`
pub record IsSegmentOf (schema : Schema) (block_size : ℕ) (analyzer : Analyzer)
    (first : ℕ) (operations : List Operation)
    (waiting : List (DeleteOperation TermTarget)) (files : SegmentFiles) (documents : ℕ) (told : Option (List Bool))
    : Type 0 where
  pub stand : StandFor schema analyzer (additions operations) files
  pub totals : TellTotals schema (documents_total schema analyzer (additions operations)) files.postings
  pub blocks : HasBlocks schema block_size (additions operations) files.store
  pub number : documents ≡ length (additions operations)
  pub few : documents < 2 ^ 31
  pub left : (before after : List Operation) → length before ≡ first
      → as_operations waiting ≡ stamped_deletes 0 (before ++ (operations ++ after))
      → IsTold documents (alive_after schema analyzer operations after) told

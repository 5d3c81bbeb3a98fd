-- What the filling of a work index does to a directory.
use Rattle.std.specs.Prelude.{ℕ, ◌≡◌, List, [], ◌∷◌, ◌++◌, length, None, Result, Ok, Err, OnOk}
use Rattle.seg_values.specs.declared.error.TantivyError.{TantivyError}
use Rattle.seg_directory.specs.DirectoryStates.{DirectoryState}
use Rattle.seg_directory.specs.DirectorySteps.{Step, Works}
use Rattle.seg_model.specs.Fields.{Schema, Analyzer}
use Rattle.seg_meta.specs.IndexOfFiles.{Meta}
use Rattle.seg_model.specs.Input.{Settings}
use Rattle.seg_model.specs.Operations.{Operation, batches}
use Rattle.seg_batches.specs.AliveFiles.{AllTellMarks, alive_step}
use Rattle.seg_batches.specs.WrittenSegments.{WrittenSegment, all_listed, deletes_of}
use Rattle.seg_batches.specs.BatchWriteSteps.{MakesBatches, batch_causes}
use Rattle.seg_index_build.specs.IndexFiles.{segments_meta, written_of}
use Rattle.seg_index_build.specs.IndexWriteSteps.{publish_steps}

-- the alive files of segments are made of these bytes, one after another, and then the meta is saved: not before each
-- has its bytes
abbrev pub finish_steps : Meta → ℕ → List (List ℕ) → List WrittenSegment → List Step
finish_steps meta stamp [] [] = publish_steps meta
finish_steps meta stamp [] (s ∷ segments) = []
finish_steps meta stamp (bytes ∷ alive) [] = []
finish_steps meta stamp (bytes ∷ alive) (s ∷ segments) =
    alive_step s.id (deletes_of stamp s.alive) bytes ++ finish_steps meta stamp alive segments

-- the meta that lists segments as of a stamp
abbrev pub listing_meta : Settings → Schema → ℕ → List WrittenSegment → Meta
listing_meta settings schema stamp segments = segments_meta settings schema stamp (all_listed stamp segments)

-- an index whose segments are written is finished, with alive files that tell
pub record FinishesIndex {T : Type 0} (settings : Settings) (schema : Schema) (stamp : ℕ)
    (segments : List WrittenSegment)
    (result : Result T TantivyError) (before after : DirectoryState) : Type 0 where
  pub alive : List (List ℕ)
  pub tell : AllTellMarks stamp alive segments
  pub whole : OnOk result (length alive ≡ length segments)
  pub works : Works (finish_steps (listing_meta settings schema stamp segments) stamp alive segments)
      result before after

-- the segment of each batch is written: six files that stand for its documents, with a store in blocks of the size that
-- the settings say
abbrev pub WritesSegments : {T : Type 0} → Settings → Schema → Analyzer → List ℕ → List ℕ → List Operation
    → Result T TantivyError → DirectoryState → DirectoryState → Type 0
WritesSegments settings schema analyzer ids cuts operations result before after =
    MakesBatches (batch_causes None schema analyzer cuts operations) schema settings.block_size analyzer ids
    (batches schema analyzer cuts operations) result before after

-- an index that was begun is filled: the segments of all batches are written, and then it is finished; the first error
-- ends it
pub data FillsIndex {T : Type 0} (settings : Settings) (schema : Schema) (analyzer : Analyzer) (ids cuts : List ℕ)
    (operations : List Operation) (result : Result T TantivyError) (before after : DirectoryState) : Type 0 where
  in_batches : (e : TantivyError) → result ≡ Err e
      → WritesSegments {T = Unit {0}} settings schema analyzer ids cuts operations (Err e) before after
      → FillsIndex settings schema analyzer ids cuts operations result before after
  after_batches : (between : DirectoryState)
      → WritesSegments {T = Unit {0}} settings schema analyzer ids cuts operations (Ok tt) before between
      → FinishesIndex settings schema (length operations) (written_of schema analyzer ids cuts operations) result
      between after
      → FillsIndex settings schema analyzer ids cuts operations result before after

-- What is known of the merge of segments, by what it answers.
use Rattle.std.specs.Prelude.{ℕ, ◌≡◌, ◌⊎◌, List, [], ◌∷◌, true, Bool, Some, IsSomeAnd, IsTrue, is_some, ◌<◌, ◌^◌, map}
use Rattle.std.specs.FinMap.{get, len}
use Rattle.std.specs.List.{AllByRecursion}
use Rattle.seg_common.specs.FaultCounts.{Rose}
use Rattle.seg_common.specs.declared.name.FileName.TheVariants.{Part}
use Rattle.seg_common.specs.declared.name.SegmentComponent.TheVariants.{Postings}
use Rattle.seg_values.specs.declared.error.ArgumentCause.TheVariants.{Documents, Numbers}
use Rattle.seg_values.specs.declared.error.TantivyError.{TantivyError}
use Rattle.seg_values.specs.declared.error.TantivyError.TheVariants.{DataCorruption, IndexAlreadyExists, InvalidArgument, IoError, OpenReadError, OpenWriteError, OutOfMemory}
use Rattle.seg_directory.specs.Files.{NamedFiles}
use Rattle.seg_meta.specs.IndexOfFiles as index
use Rattle.seg_meta.specs.IndexOfFiles.{Meta}
use Rattle.seg_meta.specs.Metas.{SegmentParts}
use Rattle.seg_model.specs.Contents.{Contents}
use Rattle.seg_model.specs.Operations.{filtered_by}
use Rattle.seg_segment.specs.IndexForms.{segment_forms}
use Rattle.seg_segment.specs.FileContents.{Holds}
use Rattle.seg_segment.specs.AliveFiles.{HoldsMarks}
use Rattle.seg_open.specs.OpenSegment.{OpenSegment, contents_of, kept_count}
use Rattle.seg_open.specs.OpeningSteps.{Asked, HaveTotals}
use Rattle.seg_merger.specs.JoinedTotals.{joined_total}
use Rattle.seg_batches.specs.BatchTotals.{HasTotals}
use Rattle.seg_index_build.specs.MergedSegments.{IsRefusal, MergeInput, first_schema, is_live, joined, live_asked, output_meta_of, AreMerged, live_documents}
use Rattle.seg_index_build.specs.TwoDirectories.{Directories}

-- ---- errors

-- with which errors a merge ends: a refusal, too many documents, or numbers without a type; a file that is there,
-- damage, or out of memory; or a call failed, and then a fault of that directory was counted
abbrev pub IsMergeError : MergeInput → Directories → Directories → TantivyError → Type 0
IsMergeError m before after (InvalidArgument cause) =
    IsRefusal m m.segments (Some (InvalidArgument cause)) ⊎ ((cause ≡ Documents) ⊎ (cause ≡ Numbers))
IsMergeError m before after IndexAlreadyExists = Unit {0}
IsMergeError m before after (DataCorruption name) = Unit {0}
IsMergeError m before after OutOfMemory = Unit {0}
IsMergeError m before after OpenReadError =
    Rose before.work.faults after.work.faults ⊎ Rose before.output.faults after.output.faults
IsMergeError m before after OpenWriteError = Rose before.output.faults after.output.faults
IsMergeError m before after IoError = Rose before.output.faults after.output.faults
IsMergeError m before after _ = ⊥

-- each segment with a live document is whole
abbrev pub LiveAreWhole : NamedFiles → List SegmentParts → Type 0
LiveAreWhole files segments =
    AllByRecursion (λ s. is_live s.meta ≡ true → index.IsWhole segment_forms files s.schema s.meta) segments

-- ---- what is merged

-- an open segment has what files hold of one that is asked for: its contents, of the documents that are alive there
-- those that its filter keeps, and the totals of its open fields
pub record HasHeld (files : NamedFiles) (a : Asked) (s : OpenSegment) : Type 0 where
  pub contents : Holds files a.segment.meta.id a.segment.schema (contents_of s)
  pub marks : List Bool
  pub alive : HoldsMarks files a.segment.meta.id a.segment.meta.documents a.segment.meta.deletes marks
  pub cut : s.alive ≡ filtered_by a.custom marks
  pub totals : IsSomeAnd (get files (Part a.segment.meta.id Postings)) (HaveTotals s.fields)

-- and so each
abbrev pub AllHaveHeld : NamedFiles → List Asked → List OpenSegment → Type 0
AllHaveHeld files [] [] = Unit {0}
AllHaveHeld files [] (s ∷ opened) = ⊥
AllHaveHeld files (a ∷ asked) [] = ⊥
AllHaveHeld files (a ∷ asked) (s ∷ opened) = HasHeld files a s × AllHaveHeld files asked opened

-- open segments with what files hold were merged: they join, and the meta counts their documents; and where the output
-- directory tells its files, these are an index with this meta, whose segment has what they join to, with the estimated
-- totals
pub record IsMergeBy (m : MergeInput) (HaveHeld : List OpenSegment → Type 0) (told : Type 0) (output : NamedFiles)
    (meta : Meta) : Type 0 where
  pub opened : List OpenSegment
  pub held : HaveHeld opened
  pub counted : meta ≡ output_meta_of m (kept_count opened)
  pub index_of : told → index.index_of segment_forms output ≡ Some meta
  pub contents : Contents
  pub joins : joined (first_schema m.segments) opened ≡ Some contents
  pub holds : told → Holds output m.id (first_schema m.segments) contents
  pub totals : told → HasTotals output m.id (first_schema m.segments) (joined_total opened)

-- the live segments, with what the work files hold, were merged
abbrev pub IsMergeOf : MergeInput → NamedFiles → Type 0 → NamedFiles → Meta → Type 0
IsMergeOf m work told output meta =
    IsMergeBy m (λ opened. AllHaveHeld work (live_asked m.segments m.filters) opened) told output meta

-- files are a whole index: they say this meta, and each segment that it lists is whole
pub record IsWholeIndex (files : NamedFiles) (meta : Meta) : Type 0 where
  pub is_index : index.index_of segment_forms files ≡ Some meta
  pub whole : index.AreWhole segment_forms files meta

-- what is told of a merge that went well
pub record IsMergedAs (m : MergeInput) (before after : Directories) (meta : Meta) : Type 0 where
  pub counted : (documents : ℕ) × (meta ≡ output_meta_of m documents)
  pub merged : IsTrue before.work.tells
      → IsMergeOf m after.work.files (IsTrue before.output.tells) after.output.files meta
  pub index_of : IsTrue before.output.tells → index.index_of segment_forms after.output.files ≡ Some meta

-- ---- what ends well

-- nothing refuses these segments, of which each with a live document is whole, in a directory that tells its files;
-- they have fewer than 2^31 live documents by their metas, and what the files hold of them joins; the output directory
-- tells that it has no file; and neither directory fails
pub record CanBeMerged (m : MergeInput) (before after : Directories) : Type 0 where
  pub merged : AreMerged m
  pub whole : LiveAreWhole before.work.files m.segments
  pub few : live_documents (map (λ s. s.meta) m.segments) < 2 ^ 31
  pub joins : (opened : List OpenSegment) → AllHaveHeld before.work.files (live_asked m.segments m.filters) opened
      → is_some (joined (first_schema m.segments) opened) ≡ true
  pub work_tells : IsTrue before.work.tells
  pub work_sound : ¬ (Rose before.work.faults after.work.faults)
  pub output_tells : IsTrue before.output.tells
  pub output_empty : len before.output.files ≡ 0
  pub output_sound : ¬ (Rose before.output.faults after.output.faults)

-- What is known of the merge of indices, by what it answers.
use Rattle.std.specs.Prelude.{ℕ, ◌≡◌, ◌<◌, ◌^◌, ◌⊎◌, List, [], ◌∷◌, ◌++◌, true, is_some, map, IsTrue}
use Rattle.std.specs.FinMap.{len}
use Rattle.seg_common.specs.FaultCounts.{Rose}
use Rattle.seg_values.specs.declared.error.ArgumentCause.TheVariants.{Documents, Numbers}
use Rattle.seg_values.specs.declared.error.TantivyError.{TantivyError}
use Rattle.seg_values.specs.declared.error.TantivyError.TheVariants.{DataCorruption, IndexAlreadyExists, InvalidArgument, IoError, OpenReadError, OpenWriteError, OutOfMemory}
use Rattle.seg_directory.specs.Files.{NamedFiles}
use Rattle.seg_directory.specs.DirectoryStates.{DirectoryState}
use Rattle.seg_meta.specs.IndexOfFiles.{Meta}
use Rattle.seg_meta.specs.declared.index_meta.IndexMeta.{IndexMeta}
use Rattle.seg_open.specs.OpenSegment.{OpenSegment}
use Rattle.seg_index_build.specs.FilesAfterCrash.{AreMergeBy, MayBeMergedBy}
use Rattle.seg_index_build.specs.MergeAnswers.{AllHaveHeld, IsMergeBy, LiveAreWhole}
use Rattle.seg_index_build.specs.MergedSegments.{AreMerged, first_schema, joined, live_documents}
use Rattle.seg_index_build.specs.MergedIndices.{AreAlike, IsRefusal, Places, all_segments, asked_of_index, indices_input, listed_segments}
use Rattle.seg_index_build.specs.Sources.{AllTell, files_of}

-- ---- errors

-- a fault of one of these directories was counted
abbrev pub AnyRose : List DirectoryState → List DirectoryState → Type 0
AnyRose [] after = ⊥
AnyRose (a ∷ before) [] = ⊥
AnyRose (a ∷ before) (b ∷ after) = Rose a.faults b.faults ⊎ AnyRose before after

-- with which errors a merge of indices ends: a refusal, too many documents, or numbers without a type; a file that is
-- there, damage, or out of memory; or a call failed, and then a fault of that directory was counted
abbrev pub IsMergeError : List IndexMeta → ℕ → Places → Places → TantivyError → Type 0
IsMergeError indices id before after (InvalidArgument cause) =
    IsRefusal indices (indices_input indices id) (InvalidArgument cause) ⊎ ((cause ≡ Documents) ⊎ (cause ≡ Numbers))
IsMergeError indices id before after IndexAlreadyExists = Unit {0}
IsMergeError indices id before after (DataCorruption name) = Unit {0}
IsMergeError indices id before after OutOfMemory = Unit {0}
IsMergeError indices id before after OpenReadError =
    AnyRose before.sources after.sources ⊎ Rose before.output.faults after.output.faults
IsMergeError indices id before after OpenWriteError = Rose before.output.faults after.output.faults
IsMergeError indices id before after IoError = Rose before.output.faults after.output.faults
IsMergeError indices id before after _ = ⊥

-- of each index each segment with a live document is whole in its directory
abbrev pub SourcesAreWhole : List NamedFiles → List IndexMeta → Type 0
SourcesAreWhole files [] = Unit {0}
SourcesAreWhole [] (i ∷ indices) = ⊥
SourcesAreWhole (first ∷ files) (i ∷ indices) = LiveAreWhole first (listed_segments i) × SourcesAreWhole files indices

-- ---- what is merged

-- the segments that are open are those that each directory was asked for, one directory after another, and have what
-- its files hold
abbrev pub HaveHeld : List NamedFiles → List IndexMeta → List OpenSegment → Type 0
HaveHeld files [] opened = opened ≡ []
HaveHeld [] (i ∷ indices) opened = ⊥
HaveHeld (first ∷ files) (i ∷ indices) opened =
    (mine : List OpenSegment) × (more : List OpenSegment) × (opened ≡ mine ++ more)
    × AllHaveHeld first (asked_of_index i) mine × HaveHeld files indices more

-- segments with what the files of the sources hold were merged
abbrev pub IsMergeOfIndices : List IndexMeta → ℕ → List NamedFiles → Type 0 → NamedFiles → Meta → Type 0
IsMergeOfIndices indices id sources told output meta =
    IsMergeBy (indices_input indices id) (λ opened. HaveHeld sources indices opened) told output meta

-- files are that merge
abbrev pub AreMergeOfIndices : List IndexMeta → ℕ → List NamedFiles → NamedFiles → Type 0
AreMergeOfIndices indices id sources files =
    AreMergeBy (indices_input indices id) (λ opened. HaveHeld sources indices opened) files

-- no index, the empty one, or that merge
abbrev pub MayBeMergedIndices : List IndexMeta → ℕ → List NamedFiles → NamedFiles → Type 0
MayBeMergedIndices indices id sources files =
    MayBeMergedBy (indices_input indices id) (λ opened. HaveHeld sources indices opened) files

-- ---- what ends well

-- nothing refuses these indices, of which each segment with a live document is whole, in directories that tell their
-- files; they have fewer than 2^31 live documents by their metas, and what the files hold of them joins; the output
-- directory tells that it has no file; and no directory fails
pub record CanBeMerged (indices : List IndexMeta) (id : ℕ) (before after : Places) : Type 0 where
  pub alike : AreAlike indices
  pub merged : AreMerged (indices_input indices id)
  pub whole : SourcesAreWhole (files_of before.sources) indices
  pub few : live_documents (map (λ s. s.meta) (all_segments indices)) < 2 ^ 31
  pub joins : (opened : List OpenSegment) → HaveHeld (files_of before.sources) indices opened
      → is_some (joined (first_schema (all_segments indices)) opened) ≡ true
  pub sources_tell : AllTell before.sources
  pub sources_sound : ¬ (AnyRose before.sources after.sources)
  pub output_tells : IsTrue before.output.tells
  pub output_empty : len before.output.files ≡ 0
  pub output_sound : ¬ (Rose before.output.faults after.output.faults)

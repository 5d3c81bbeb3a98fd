-- What the merge of indices does with their directories and with that of the output.
use Rattle.std.specs.Prelude.{ℕ, ◌≡◌, ◌⊎◌, List, [], ◌∷◌, ◌++◌, map, false, Option, None, Some, Result, Ok, Err}
use Rattle.std.specs.List.{AllByRecursion}
use Rattle.seg_values.specs.declared.error.ArgumentCause.TheVariants.{DifferentSettings, NoIndices}
use Rattle.seg_values.specs.declared.error.TantivyError.{TantivyError}
use Rattle.seg_values.specs.declared.error.TantivyError.TheVariants.{InvalidArgument, OutOfMemory}
use Rattle.seg_directory.specs.DirectoryStates.{DirectoryState}
use Rattle.seg_directory.specs.DirectorySteps.{Works}
use Rattle.seg_meta.specs.MetaBounds.{AreReadBack}
use Rattle.seg_meta.specs.IndexOfFiles.{Meta}
use Rattle.seg_meta.specs.Metas.{SegmentParts, segment_of}
use Rattle.seg_meta.specs.MetaMeaning.{settings_of}
use Rattle.seg_meta.specs.declared.index_meta.IndexMeta.{IndexMeta}
use Rattle.seg_model.specs.Input as input
use Rattle.seg_model.specs.Input.{Filter, uncompressed}
use Rattle.seg_open.specs.OpenSegment.{OpenSegment, kept_count}
use Rattle.seg_open.specs.OpeningSteps.{Asked}
use Rattle.seg_merger.specs.Merger.{too_many}
use Rattle.seg_index_build.specs.MergedSegments.{FillsTo, IsRefusal as IsSegmentsRefusal, MergeInput, first_schema, live_asked}
use Rattle.seg_index_build.specs.IndexWriteSteps.{begin_steps}
use Rattle.seg_index_build.specs.Sources.{OpensSources}

-- ---- what is asked for

-- the segments that an index lists
abbrev pub listed_segments : IndexMeta → List SegmentParts
listed_segments i = map (segment_of i.schema) i.segments

-- those of all indices, one index after another
abbrev pub all_segments : List IndexMeta → List SegmentParts
all_segments [] = []
all_segments (i ∷ indices) = listed_segments i ++ all_segments indices

-- no filter for any of them
abbrev pub unfiltered : List SegmentParts → List (Option Filter)
unfiltered segments = map (λ s. None) segments

-- the settings of the first index
abbrev pub first_settings : List IndexMeta → input.Settings
first_settings [] = record { compression = uncompressed; block_size = 0; dedicated_thread = false }
first_settings (i ∷ indices) = settings_of i.index_settings

-- all segments are merged, without a filter, under the settings of the first index
abbrev pub indices_input : List IndexMeta → ℕ → MergeInput
indices_input indices id = record {
  segments = all_segments indices;
  settings = first_settings indices;
  filters = unfiltered (all_segments indices);
  id = id;
}

-- of each index the segments with a live document, which its directory is asked for
abbrev pub asked_of_index : IndexMeta → List Asked
asked_of_index i = live_asked (listed_segments i) (unfiltered (listed_segments i))

-- ---- what is refused

-- all indices have these settings
abbrev pub HaveSettings : IndexMeta → List IndexMeta → Type 0
HaveSettings first indices = AllByRecursion (λ i. i.index_settings ≡ first.index_settings) indices

-- the settings of indices are alike; and there is one
abbrev pub AreAlike : List IndexMeta → Type 0
AreAlike [] = ⊥
AreAlike (first ∷ indices) = HaveSettings first (first ∷ indices)

-- there is none, or they have two settings
abbrev pub IsUnlike : List IndexMeta → TantivyError → Type 0
IsUnlike [] e = e ≡ InvalidArgument NoIndices
IsUnlike (first ∷ indices) e = (HaveSettings first (first ∷ indices) → ⊥) × (e ≡ InvalidArgument DifferentSettings)

-- why indices are not merged: for one of these causes, or because their segments are not merged
abbrev pub IsRefusal : List IndexMeta → MergeInput → TantivyError → Type 0
IsRefusal indices m e = IsUnlike indices e ⊎ (AreAlike indices × IsSegmentsRefusal m m.segments (Some e))

-- ---- what is done

-- the directories of all indices, and that of the output
pub record Places : Type 0 where
  pub sources : List DirectoryState
  pub output : DirectoryState

abbrev pub places : List DirectoryState → DirectoryState → Places
places sources output = record { sources = sources; output = output }

-- the output index is begun
abbrev pub Begins : MergeInput → Result (Unit {0}) TantivyError → DirectoryState → DirectoryState → Type 0
Begins m result before after = Works (begin_steps m.settings (first_schema m.segments)) result before after

-- the output index is begun; the segments are opened, index by index; they are counted; and then the output is filled.
-- It ends where one of these does
pub data MergesSources (m : MergeInput) (asked : List (List Asked)) (result : Result Meta TantivyError)
    (before after : Places) : Type 0 where
  not_begun : (e : TantivyError) → result ≡ Err e → Begins m (Err e) before.output after.output
      → after.sources ≡ before.sources → MergesSources m asked result before after
  not_opened : (e : TantivyError) → result ≡ Err e → Begins m (Ok tt) before.output after.output
      → OpensSources asked (Err e) before.sources after.sources → MergesSources m asked result before after
  not_few : (e : TantivyError) (opened : List OpenSegment) → result ≡ Err e
      → Begins m (Ok tt) before.output after.output → OpensSources asked (Ok opened) before.sources after.sources
      → too_many (kept_count opened) ≡ Some e → MergesSources m asked result before after
  filled : (opened : List OpenSegment) (begun : DirectoryState) → Begins m (Ok tt) before.output begun
      → OpensSources asked (Ok opened) before.sources after.sources → too_many (kept_count opened) ≡ None
      → FillsTo m opened result begun after.output → MergesSources m asked result before after

-- indices with one set of settings are merged: nothing is done, where memory runs out first or their segments are
-- refused; or what stands above, and the meta is read as it was saved
pub data MergesAlike (indices : List IndexMeta) (id : ℕ) (result : Result Meta TantivyError)
    (before after : Places) : Type 0 where
  starves : result ≡ Err OutOfMemory → after ≡ before → MergesAlike indices id result before after
  refuses : (e : TantivyError)
      → IsSegmentsRefusal (indices_input indices id) (indices_input indices id).segments (Some e) → result ≡ Err e
      → after ≡ before → MergesAlike indices id result before after
  merges : IsSegmentsRefusal (indices_input indices id) (indices_input indices id).segments None
      → AreReadBack (indices_input indices id).settings (first_schema (indices_input indices id).segments)
      → MergesSources (indices_input indices id) (map asked_of_index indices) result before after
      → MergesAlike indices id result before after

-- indices are merged, once their settings were compared
pub data MergesIndices (indices : List IndexMeta) (id : ℕ) (result : Result Meta TantivyError)
    (before after : Places) : Type 0 where
  unlike : (e : TantivyError) → IsUnlike indices e → result ≡ Err e → after ≡ before
      → MergesIndices indices id result before after
  alike : AreAlike indices → MergesAlike indices id result before after → MergesIndices indices id result before after

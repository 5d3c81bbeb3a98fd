-- What the merge of segments into an index does to the two directories.
use Rattle.std.specs.Prelude.{ℕ, ◌≡◌, ◌⊎◌, ◌+◌, ◌-◌, List, [], ◌∷◌, map, nat_lt, cond, true, Bool, Option, None, Some, Result, Ok, Err, IfOk}
use Rattle.std.specs.List.{AllByRecursion, filter}
use Rattle.std.specs.Option.{option_or}
use Rattle.seg_values.specs.declared.error.ArgumentCause.TheVariants.{DifferentSchemas, Filters, NoSegments, Numbers, Settings}
use Rattle.seg_values.specs.declared.error.TantivyError.{TantivyError}
use Rattle.seg_values.specs.declared.error.TantivyError.TheVariants.{InvalidArgument, OutOfMemory}
use Rattle.seg_directory.specs.DirectoryStates.{DirectoryState}
use Rattle.seg_directory.specs.DirectorySteps.{Works}
use Rattle.seg_meta.specs.IndexOfFiles.{ListedSegment, Meta}
use Rattle.seg_meta.specs.ParsedMeta.{meta_read}
use Rattle.seg_meta.specs.MetaText.{meta_text}
use Rattle.seg_meta.specs.Metas.{SegmentParts, deleted}
use Rattle.seg_meta.specs.MetaMeaning.{settings_of}
use Rattle.seg_meta.specs.declared.index_settings.IndexSettings.{IndexSettings}
use Rattle.seg_model.specs.DocumentCheck.{unless}
use Rattle.seg_model.specs.Contents.{Contents}
use Rattle.seg_model.specs.Fields.{Schema}
use Rattle.seg_model.specs.Input as input
use Rattle.seg_model.specs.Input.{Filter}
use Rattle.seg_model.specs.Join.{join}
use Rattle.seg_model.specs.CheckAnswers.{Tells}
use Rattle.seg_model.specs.ValidInputs.{settings_fit}
use Rattle.seg_segment.specs.declared.segment_files.SegmentFiles.{SegmentFiles}
use Rattle.seg_open.specs.OpenSegment.{OpenSegment, kept_count, part_of}
use Rattle.seg_open.specs.OpeningSteps.{Asked, OpensSegments, asked_of}
use Rattle.seg_merger.specs.Merger.{AreJoinedFiles, Merging, all_fit, too_many}
use Rattle.seg_index_build.specs.IndexFiles.{merged_meta}
use Rattle.seg_index_build.specs.TwoDirectories.{Directories, InOutput, InWork, Passes, Then}
use Rattle.seg_index_build.specs.IndexWriteSteps.{begin_steps, fill_one_steps}

-- ---- what is asked for

-- segments that are merged into one of an id, each under its filter, in an index with these settings
pub record MergeInput : Type 0 where
  pub segments : List SegmentParts
  pub settings : input.Settings
  pub filters : List (Option Filter)
  pub id : ℕ

-- as a call is handed them
abbrev pub merge_input : List SegmentParts → IndexSettings → List (Option Filter) → ℕ → MergeInput
merge_input segments settings filters id =
    record { segments = segments; settings = settings_of settings; filters = filters; id = id }

-- the schema of the first segment
abbrev pub first_schema : List SegmentParts → Schema
first_schema [] = []
first_schema (s ∷ segments) = s.schema

-- why segments of one schema are not merged: a filter doesn't fit, or the settings don't
abbrev pub one_refusal : MergeInput → Option TantivyError
one_refusal m =
    option_or (unless (all_fit m.filters m.segments) (InvalidArgument Filters))
    (unless (settings_fit m.settings) (InvalidArgument Settings))

-- all segments are of one schema
abbrev pub AreOfOne : List SegmentParts → Type 0
AreOfOne segments = AllByRecursion (λ s. s.schema ≡ first_schema segments) segments

-- why they are not merged: there is none, or they are of two schemas, or for one of the causes above
abbrev pub IsRefusal : MergeInput → List SegmentParts → Option TantivyError → Type 0
IsRefusal m [] refusal = refusal ≡ Some (InvalidArgument NoSegments)
IsRefusal m (s ∷ segments) refusal =
    ((AreOfOne m.segments → ⊥) × (refusal ≡ Some (InvalidArgument DifferentSchemas)))
    ⊎ (AreOfOne m.segments × (refusal ≡ one_refusal m))

-- ---- what is merged

-- whether the meta counts a document of a segment that isn't deleted
abbrev pub is_live : ListedSegment → Bool
is_live s = nat_lt (deleted s.deletes) s.documents

-- how many there are in segments
abbrev pub live_documents : List ListedSegment → ℕ
live_documents [] = 0
live_documents (s ∷ segments) = (s.documents - deleted s.deletes) + live_documents segments

-- the segments with such a document, each under its filter
abbrev pub live_asked : List SegmentParts → List (Option Filter) → List Asked
live_asked segments filters = filter (λ a. is_live a.segment.meta) (asked_of segments filters)

-- the filters of the segments with such a document
abbrev pub kept_filters : List SegmentParts → List (Option Filter) → List (Option Filter)
kept_filters [] filters = []
kept_filters (s ∷ segments) [] = []
kept_filters (s ∷ segments) (f ∷ filters) =
    cond (is_live s.meta) (f ∷ kept_filters segments filters) (kept_filters segments filters)

-- what open segments join to: undefined where the numbers of a path have no type
abbrev pub joined : Schema → List OpenSegment → Option Contents
joined schema opened = join schema (map part_of opened)

-- the meta of the output index, of this many documents
abbrev pub output_meta_of : MergeInput → ℕ → Meta
output_meta_of m documents =
    merged_meta m.settings (first_schema m.segments) (map (λ s. s.meta.id) m.segments) m.id documents

-- ---- what is done

-- the output index, which was begun, is filled with one segment, of what the open segments join to; or memory runs out;
-- or they join to nothing, which is told before a file is made
pub data FillsOutput {T : Type 0} (m : MergeInput) (opened : List OpenSegment)
    (result : Result T TantivyError) (before after : DirectoryState) : Type 0 where
  starves : result ≡ Err OutOfMemory → after ≡ before → FillsOutput m opened result before after
  mixes : result ≡ Err (InvalidArgument Numbers) → joined (first_schema m.segments) opened ≡ None → after ≡ before
      → FillsOutput m opened result before after
  fills : (files : SegmentFiles)
      → AreJoinedFiles (first_schema m.segments) m.settings.block_size opened files
      → Works (fill_one_steps (output_meta_of m (kept_count opened)) m.id files) result before after
      → FillsOutput m opened result before after

-- the output index is begun; the segments that have a live document are opened; and if it is not too much, this is done
-- with the output index
abbrev pub MergesLiveBy : {T : Type 0} → MergeInput
    → (List OpenSegment → Result T TantivyError → DirectoryState → DirectoryState → Type 0)
    → Result T TantivyError → Directories → Directories → Type 0
MergesLiveBy m last result before after =
    Then {X = Unit {0}} (InOutput (Works (begin_steps m.settings (first_schema m.segments)))) (λ _.
    Then {X = List OpenSegment} (InWork (OpensSegments (live_asked m.segments m.filters))) (λ opened.
    Then {X = Unit {0}} (Passes (too_many (kept_count opened))) (λ _.
    InOutput (last opened)))) result before after

-- it is filled with what they join to
abbrev pub MergesLive : {T : Type 0} → MergeInput → Result T TantivyError → Directories → Directories → Type 0
MergesLive m result before after = MergesLiveBy m (λ opened. FillsOutput m opened) result before after

-- the same, once it was tested
pub record MergesSegments {T : Type 0} (m : MergeInput) (result : Result T TantivyError)
    (before after : Directories) : Type 0 where
  pub refusal : Option TantivyError
  pub is : IsRefusal m m.segments refusal
  pub merges : Then {X = Unit {0}} (Passes refusal) (λ _. MergesLive m) result before after

-- ---- what is known on the way

-- segments that nothing refuses: there is one, all are of one schema, and the filters and settings fit
pub record AreMerged (m : MergeInput) : Type 0 where
  pub some : m.segments ≡ [] → ⊥
  pub of_one : AreOfOne m.segments
  pub fit : all_fit m.filters m.segments ≡ true
  pub settings : settings_fit m.settings ≡ true

-- a meta is read as it was saved
abbrev pub IsReadBack : Meta → Type 0
IsReadBack meta = meta_read (meta_text meta) ≡ Some meta

-- segments are opened for a merger, which has them; or they are too many, or memory runs out
pub data OpensLive (asked : List Asked) (result : Result Merging TantivyError)
    (before after : DirectoryState) : Type 0 where
  not_opened : (e : TantivyError) → result ≡ Err e → OpensSegments asked (Err e) before after
      → OpensLive asked result before after
  are_opened : (opened : List OpenSegment) → OpensSegments asked (Ok opened) before after
      → Tells (too_many (kept_count opened)) result
      → IfOk result (λ merger. merger.readers ≡ opened) → OpensLive asked result before after

-- the output index is filled, and its meta answered, which can be read back
pub record FillsTo (m : MergeInput) (opened : List OpenSegment) (result : Result Meta TantivyError)
    (before after : DirectoryState) : Type 0 where
  pub fills : FillsOutput m opened result before after
  pub meta : IfOk result (λ meta. (meta ≡ output_meta_of m (kept_count opened)) × IsReadBack meta)

-- the same, with all turns
abbrev pub MergesTo : MergeInput → Result Meta TantivyError → Directories → Directories → Type 0
MergesTo m result before after = MergesLiveBy m (λ opened. FillsTo m opened) result before after

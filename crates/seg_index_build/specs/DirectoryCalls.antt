-- What the building of an index does to the work directory and to the output directory, in turn.
use Rattle.std.specs.Prelude.{List, [], ◌∷◌, map, Result}
use Rattle.seg_values.specs.declared.error.TantivyError.{TantivyError}
use Rattle.seg_directory.specs.Calls.{listed}
use Rattle.seg_directory.specs.DirectoryStates.{DirectoryState}
use Rattle.seg_directory.specs.DirectorySteps.{Step, Works, calls}
use Rattle.seg_model.specs.Fields.{Schema, Analyzer}
use Rattle.seg_meta.specs.IndexOfFiles.{ListedSegment}
use Rattle.seg_meta.specs.Metas.{segment_of}
use Rattle.seg_model.specs.Input.{Input, Settings}
use Rattle.seg_model.specs.ValidInputs.{Known, input_refusal}
use Rattle.seg_index_build.specs.IndexFiles.{output_id, work_ids, work_listed}
use Rattle.seg_index_build.specs.MergedSegments.{MergeInput, MergesLive}
use Rattle.seg_index_build.specs.TwoDirectories.{Directories, InOutput, InWork, Passes, Then}
use Rattle.seg_index_build.specs.WorkIndexSteps.{FillsIndex}
use Rattle.seg_index_build.specs.IndexWriteSteps.{begin_steps}

-- ---- the first turns

-- a directory lists its files, and has none
abbrev pub lists_none : List Step
lists_none = calls (listed 0) ∷ []

-- neither directory has a file, and the work index is begun
abbrev pub BeginsIndexes : {T : Type 0} → Settings → Schema
    → Result T TantivyError → Directories → Directories → Type 0
BeginsIndexes settings schema result before after =
    Then {X = Unit {0}} (InWork (Works lists_none)) (λ _.
    Then {X = Unit {0}} (InOutput (Works lists_none)) (λ _.
    InWork (Works (begin_steps settings schema)))) result before after

-- the work index, which was begun, is filled
abbrev pub FillsWork : {T : Type 0} → Analyzer → Input
    → Result T TantivyError → DirectoryState → DirectoryState → Type 0
FillsWork analyzer input result before after =
    FillsIndex input.settings input.schema analyzer (work_ids input.ids) input.cuts input.operations result before after

-- ---- all turns

-- the merge of listed segments into the output index
abbrev pub merge_listed : Input → List ListedSegment → MergeInput
merge_listed input segments = record {
  segments = map (segment_of input.schema) segments;
  settings = input.settings;
  filters = input.filters;
  id = output_id input.ids;
}

-- and of those of the work index
abbrev pub merge_of : Analyzer → Input → MergeInput
merge_of analyzer input = merge_listed input (work_listed analyzer input)

-- an input is tested, and its work index is begun and filled
abbrev pub WritesWork : {T : Type 0} → Known → Analyzer → Input
    → Result T TantivyError → Directories → Directories → Type 0
WritesWork known analyzer input result before after =
    Then {X = Unit {0}} (Passes (input_refusal known analyzer input)) (λ _.
    Then {X = Unit {0}} (BeginsIndexes input.settings input.schema) (λ _.
    InWork (FillsWork analyzer input))) result before after

-- both indexes are written: the work index is begun and filled; and its segments are merged into the other
abbrev pub WritesIndexes : {T : Type 0} → Analyzer → Input
    → Result T TantivyError → Directories → Directories → Type 0
WritesIndexes analyzer input result before after =
    Then {X = Unit {0}} (BeginsIndexes input.settings input.schema) (λ _.
    Then {X = Unit {0}} (InWork (FillsWork analyzer input)) (λ _.
    MergesLive (merge_of analyzer input))) result before after

-- and before that the input is tested
abbrev pub BuildsIndexes : {T : Type 0} → Known → Analyzer → Input
    → Result T TantivyError → Directories → Directories → Type 0
BuildsIndexes known analyzer input result before after =
    Then {X = Unit {0}} (Passes (input_refusal known analyzer input)) (λ _.
    WritesIndexes analyzer input) result before after

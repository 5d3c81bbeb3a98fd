-- What the files of an output index may be found as, after a crash at any moment.
use Rattle.std.specs.Prelude.{List}
use Rattle.seg_directory.specs.Files.{NamedFiles}
use Rattle.seg_meta.specs.IndexOfFiles as index
use Rattle.seg_meta.specs.IndexOfFiles.{Meta}
use Rattle.seg_model.specs.Fields.{Analyzer}
use Rattle.seg_model.specs.Input.{Input}
use Rattle.seg_segment.specs.IndexForms.{segment_forms}
use Rattle.seg_open.specs.OpenSegment.{OpenSegment}
use Rattle.seg_index_build.specs.IndexFiles.{IsOutputIndexOf}
use Rattle.seg_index_build.specs.MergeAnswers.{IsMergeBy, IsMergeOf}
use Rattle.seg_index_build.specs.MergedSegments.{MergeInput, first_schema}

-- the files are the merge of open segments, by what is held
abbrev pub AreMergeBy : MergeInput → (List OpenSegment → Type 0) → NamedFiles → Type 0
AreMergeBy m HaveHeld files = (meta : Meta) × IsMergeBy m HaveHeld (Unit {0}) files meta

-- no index, the empty one, or that merge
abbrev pub MayBeMergedBy : MergeInput → (List OpenSegment → Type 0) → NamedFiles → Type 0
MayBeMergedBy m HaveHeld files =
    index.OpensAs segment_forms files m.settings (first_schema m.segments) (AreMergeBy m HaveHeld files)

-- the files are the merge of segments, by what the work files hold
abbrev pub AreMergeOf : MergeInput → NamedFiles → NamedFiles → Type 0
AreMergeOf m work files = (meta : Meta) × IsMergeOf m work (Unit {0}) files meta

-- no index, the empty one, or the merge of segments
abbrev pub MayBeMerged : MergeInput → NamedFiles → NamedFiles → Type 0
MayBeMerged m work files =
    index.OpensAs segment_forms files m.settings (first_schema m.segments) (AreMergeOf m work files)

-- no index, the empty one, or the output index of an input
abbrev pub MayBeBuilt : Analyzer → Input → NamedFiles → Type 0
MayBeBuilt analyzer input files =
    index.OpensAs segment_forms files input.settings input.schema (IsOutputIndexOf analyzer input files)

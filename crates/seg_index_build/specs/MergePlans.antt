-- What the merge of the work segments needs of an input.
use Rattle.std.specs.Prelude.{◌≡◌, map}
use Rattle.seg_meta.specs.Metas.{segment_of}
use Rattle.seg_meta.specs.MetaMeaning.{settings_of}
use Rattle.seg_meta.specs.declared.index_meta.IndexMeta.{IndexMeta}
use Rattle.seg_model.specs.Input.{Input}
use Rattle.seg_index_build.specs.IndexFiles.{output_id}
use Rattle.seg_index_build.specs.MergedSegments.{MergeInput, merge_input}
use Rattle.seg_index_build.specs.declared.merge_plan.MergePlan.{MergePlan}

-- the plan has the input's settings, its filters, and its last id
pub record IsMergePlan (input : Input) (plan : MergePlan) : Type 0 where
  pub settings : settings_of plan.settings ≡ input.settings
  pub filters : plan.filters.items ≡ input.filters
  pub id : plan.id ≡ output_id input.ids

-- the segments that a meta lists are merged by a plan
abbrev pub planned : IndexMeta → MergePlan → MergeInput
planned metas plan =
    merge_input (map (segment_of metas.schema) metas.segments) plan.settings plan.filters.items plan.id

use Rattle.std.proofs.Common.{◌∙◌, List, None, ap, inl, map, refl, sym}
use Rattle.seg_meta.specs.Metas.{SegmentParts}
use Rattle.seg_index_build.specs.TwoDirectories.{goes_on, stops}
use Rattle.seg_tool.proofs.JobSteps.{merge_is}
use Rattle.seg_tool.proofs.command.merge_job.merge.Goals as goal

pub returns-in-Err : goal.returns-in-Err
returns-in-Err g c = stops c.in-Err.e refl (c.in-Err.ensures.does, refl)

pub returns-in_default : goal.returns-in_default
returns-in_default g c = goes_on c.in-Ok.index _ (c.in-Ok.ensures.does, refl) (inl (refl, refl))

pub returns-in_default-no_filters : goal.returns-in_default-no_filters
returns-in_default-no_filters g c = goes_on c.in-Ok.index _ (c.in-Ok.ensures.does, refl) (inl (refl, refl))

pub returns : goal.returns
returns g c =
    goes_on c.in-Ok.index _ (c.in-Ok.ensures.does, refl)
    (merge_is c.in-Ok.index c.deref-2.result.now c.settings.result.now c.in-Ok-no_filters.filters.items c.from_u128-id.result c.merge_filtered_segments.result _ _
    (c.deref-2.ensures.value ∙ c.in-Ok-searchable_segments.ensures.ok) c.settings.ensures
    (c.in-Ok-no_filters.ensures ∙ ap (λ (l : List SegmentParts). map (λ _. None) l) (c.deref.ensures.value ∙ sym c.deref-2.ensures.value))
    c.from_u128-id.ensures
    c.merge_filtered_segments.ensures)

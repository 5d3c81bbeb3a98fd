use Rattle.std.proofs.Common.{◌∙◌, None, Some, ap, refl, subst, sym}
use Rattle.seg_meta.specs.MetaBounds.{AreReadBack}
use Rattle.seg_index_build.specs.MergedSegments.{AreMerged, IsRefusal as IsSegmentsRefusal, MergeInput, first_schema, merge_input}
use Rattle.seg_index_build.proofs.MergeOutcomes.{merged_refusal}
use Rattle.seg_index_build.specs.MergedIndices.{merges, refuses, starves, unfiltered}
use Rattle.seg_index_build.proofs.UnfilteredSegments.{called_is, input_is}
use Rattle.seg_index_build.proofs.index_merge.merge_alike.Goals as goal

pub returns-in_default : goal.returns-in_default
returns-in_default g c = starves refl refl

pub returns-in_default-no_filters : goal.returns-in_default-no_filters
returns-in_default-no_filters g c = starves refl refl

pub merge_checked-requires-clause-merged : goal.merge_checked-requires-clause-merged
merge_checked-requires-clause-merged g c =
    let is = called_is c.args.indices.now c.deref-2.result.now c.args.settings.now c.deref-3.result.now c.args.id
    (c.deref-2.ensures.value ∙ c.in-Ok.ensures)
    (c.deref-3.ensures.value ∙ c.in-Ok-no_filters.ensures ∙ ap unfiltered (c.deref.ensures.value ∙ sym c.deref-2.ensures.value))
    c.requires.settings in
    let checked = input_is c.args.indices.now c.deref-in-Ok-check_segments.result.now c.args.settings.now c.args.id
    (c.deref-in-Ok-check_segments.ensures.value ∙ c.in-Ok.ensures) c.requires.settings in
    subst AreMerged (is ∙ sym checked) (c.in-Ok-check_segments.ensures.ok c.args.id)

pub returns-in-Ok-check_segments : goal.returns-in-Ok-check_segments
returns-in-Ok-check_segments g c =
    let is = called_is c.args.indices.now c.deref-2.result.now c.args.settings.now c.deref-3.result.now c.args.id
    (c.deref-2.ensures.value ∙ c.in-Ok.ensures)
    (c.deref-3.ensures.value ∙ c.in-Ok-no_filters.ensures ∙ ap unfiltered (c.deref.ensures.value ∙ sym c.deref-2.ensures.value))
    c.requires.settings in
    let called = merge_input c.deref-2.result.now c.args.settings.now c.deref-3.result.now c.args.id in
    merges
    (subst (λ (m : MergeInput). IsSegmentsRefusal m m.segments None) is (merged_refusal called (c.in-Ok-check_segments.ensures.ok c.args.id)))
    (subst (λ (m : MergeInput). AreReadBack m.settings (first_schema m.segments)) is c.in-Ok-check_segments.ensures.reads)
    c.merge_checked.ensures

pub returns : goal.returns
returns g c =
    let is = called_is c.args.indices.now c.deref-2.result.now c.args.settings.now c.deref-3.result.now c.args.id
    (c.deref-2.ensures.value ∙ c.in-Ok.ensures)
    (c.deref-3.ensures.value ∙ c.in-Ok-no_filters.ensures ∙ ap unfiltered (c.deref.ensures.value ∙ sym c.deref-2.ensures.value))
    c.requires.settings in
    refuses c.in-Err.e
    (subst (λ (m : MergeInput). IsSegmentsRefusal m m.segments (Some c.in-Err.e)) is (c.in-Err.ensures.err c.args.id)) refl refl

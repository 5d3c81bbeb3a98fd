use Rattle.std.proofs.Common.{◌∙◌, [], ap}
use Rattle.seg_build.proofs.Exports.{published_of}
use Rattle.seg_directory.proofs.Exports.{answers, stops}
use Rattle.seg_meta.specs.MetaMeaning.{meta_of, settings_of}
use Rattle.seg_index_build.specs.IndexFiles.{segments_meta}
use Rattle.seg_index_build.specs.WorkIndexSteps.{listing_meta}
use Rattle.seg_index_build.proofs.FillSteps.{meta_list}
use Rattle.seg_index_build.proofs.work_index.save_work_index.Goals as goal

pub save_index-requires : goal.save_index-requires
save_index-requires g c =
    meta_list c.args.stamp c.args.segments.now _ (c.work_metas-metas.ensures.list ∙ c.in-Ok.ensures) c.requires.few
    c.requires.distinct

pub returns-in-Ok-save_index-clause-works : goal.returns-in-Ok-save_index-clause-works
returns-in-Ok-save_index-clause-works g c =
    answers
    (published_of (meta_of c.work_metas-metas.result)
    (listing_meta (settings_of c.args.settings.now) c.args.schema.now c.args.stamp c.args.segments.now)
    (c.work_metas-metas.ensures.meta ∙ ap
    (segments_meta (settings_of c.args.settings.now) c.args.schema.now c.args.stamp) c.in-Ok.ensures)
    c.in-Ok-save_index.ensures)

pub returns-in-Err-clause-works : goal.returns-in-Err-clause-works
returns-in-Err-clause-works g c =
    stops []
    (published_of (meta_of c.work_metas-metas.result)
    (listing_meta (settings_of c.args.settings.now) c.args.schema.now c.args.stamp c.args.segments.now)
    (c.work_metas-metas.ensures.meta ∙ ap
    (segments_meta (settings_of c.args.settings.now) c.args.schema.now c.args.stamp) c.in-Ok.ensures) c.in-Err.ensures)

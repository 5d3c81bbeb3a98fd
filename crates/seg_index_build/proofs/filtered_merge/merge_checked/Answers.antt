use Rattle.std.proofs.Common.{◌≡◌, ◌∙◌, subst, sym}
use Rattle.std.specs.List.{AllByRecursion}
use Rattle.seg_meta.specs.Metas.{SegmentParts}
use Rattle.seg_model.specs.Fields.{Schema}
use Rattle.seg_meta.specs.MetaMeaning.{meta_of}
use Rattle.seg_open.specs.Answers.{seen_as}
use Rattle.seg_index_build.specs.MergedSegments.{merge_input}
use Rattle.seg_index_build.proofs.MergeOutputs.{all_merged, first_at, not_begun, not_live}
use Rattle.seg_index_build.proofs.filtered_merge.merge_checked.Goals as goal

pub returns-in-Err : goal.returns-in-Err
returns-in-Err g c =
    not_begun (merge_input c.args.segments.now c.args.settings.now c.args.filters.now c.args.id) c.schema-schema.result.now
    (c.schema-schema.ensures ∙ first_at c.args.segments.now c.index-segments-0.result c.index-segments-0.is c.requires.merged.some)
    (g.W.Directory.state c.args.work.now) (g.O.Directory.state c.args.output.now)
    (g.O.Directory.state c.begin_index.new.directory) c.in-Err.e c.in-Err.ensures

pub open_live-requires-clause-schema : goal.open_live-requires-clause-schema
open_live-requires-clause-schema g c =
    subst (λ (x : Schema). AllByRecursion (λ (s : SegmentParts). s.schema ≡ x) c.args.segments.now)
    (sym (c.schema-schema.ensures ∙ first_at c.args.segments.now c.index-segments-0.result c.index-segments-0.is c.requires.merged.some))
    c.requires.merged.of_one

pub returns-in-Err-open_live : goal.returns-in-Err-open_live
returns-in-Err-open_live g c =
    not_live (merge_input c.args.segments.now c.args.settings.now c.args.filters.now c.args.id) c.schema-schema.result.now
    (c.schema-schema.ensures ∙ first_at c.args.segments.now c.index-segments-0.result c.index-segments-0.is c.requires.merged.some)
    (g.W.Directory.state c.args.work.now) (g.O.Directory.state c.args.output.now)
    (g.O.Directory.state c.begin_index.new.directory) c.in-Ok.field-0 c.in-Ok.ensures
    (g.W.Directory.state c.open_live.new.work) c.in-Err-open_live.e c.in-Err-open_live.ensures.opens

pub returns : goal.returns
returns g c =
    all_merged (merge_input c.args.segments.now c.args.settings.now c.args.filters.now c.args.id) c.schema-schema.result.now
    (c.schema-schema.ensures ∙ first_at c.args.segments.now c.index-segments-0.result c.index-segments-0.is c.requires.merged.some)
    (g.W.Directory.state c.args.work.now) (g.O.Directory.state c.args.output.now)
    (g.O.Directory.state c.begin_index.new.directory) c.in-Ok.field-0 c.in-Ok.ensures
    (g.W.Directory.state c.open_live.new.work) c.in-Ok-open_live.merger c.in-Ok-open_live.ensures.opens
    (seen_as meta_of c.fill_output.result) (g.O.Directory.state c.fill_output.new.output)
    (c.fill_output.ensures c.args.filters.now)

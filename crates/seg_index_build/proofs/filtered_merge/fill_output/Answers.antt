use Rattle.std.proofs.Common.{◌∙◌, Err, Ok, ap, map}
use Rattle.seg_directory.proofs.Exports.{answers}
use Rattle.seg_meta.specs.IndexOfFiles.{ListedSegment}
use Rattle.seg_meta.specs.Metas.{SegmentParts}
use Rattle.seg_meta.specs.MetaMeaning.{meta_of, settings_of}
use Rattle.seg_open.specs.OpenSegment.{kept_count}
use Rattle.seg_index_build.specs.MergedSegments.{first_schema, merge_input}
use Rattle.seg_index_build.proofs.MergeOutputs.{is_filled, meta_as, not_filled}
use Rattle.seg_index_build.proofs.MergeTurns.{works_as}
use Rattle.seg_index_build.proofs.filtered_merge.fill_output.Goals as goal

pub returns-in-Err : goal.returns-in-Err
returns-in-Err g c filters =
    not_filled (merge_input c.args.segments.now c.args.settings.now filters c.args.id) c.args.merger.readers
    c.new-segment.result c.in-Ok-for_segment.serializer c.in-Ok-for_segment.ensures.ok
    (ap (λ (s : SegmentParts). s.schema) c.new-segment.ensures ∙ c.share.ensures ∙ c.schema-2.ensures ∙ c.requires.schema)
    (ap (λ (s : SegmentParts). s.meta.id) c.new-segment.ensures ∙ ap (λ (s : ListedSegment). s.id) c.new.ensures)
    _ c.in-Err.e (g.O.Directory.state c.args.output.now) (g.O.Directory.state c.write.new.directory) c.in-Err.ensures.does

pub returns-in-Ok-save_index : goal.returns-in-Ok-save_index
returns-in-Ok-save_index g c filters =
    let m = merge_input c.args.segments.now c.args.settings.now filters c.args.id in
    let is =
    meta_as (settings_of c.args.settings.now) c.schema.result.now (first_schema c.args.segments.now) c.deref.result.now
    (map (λ (s : SegmentParts). s.meta.id) c.args.segments.now) c.args.id c.max_doc-documents.result (kept_count c.args.merger.readers)
    (meta_of c.in-Ok-output_metas.metas) c.in-Ok-output_metas.ensures.meta (c.schema.ensures ∙ c.requires.schema)
    (c.deref.ensures.value ∙ c.in-Ok.ensures) c.max_doc-documents.ensures.counted in
    rw c.from_metas.ensures (record {
      fills =
          is_filled m c.args.merger.readers
          c.new-segment.result c.in-Ok-for_segment.serializer c.in-Ok-for_segment.ensures.ok
          (ap (λ (s : SegmentParts). s.schema) c.new-segment.ensures ∙ c.share.ensures ∙ c.schema-2.ensures ∙ c.requires.schema)
          (ap (λ (s : SegmentParts). s.meta.id) c.new-segment.ensures ∙ ap (λ (s : ListedSegment). s.id) c.new.ensures)
          c.in-Ok-write.field-0 (Ok (meta_of c.in-Ok-output_metas.metas))
          (g.O.Directory.state c.args.output.now) (g.O.Directory.state c.write.new.directory) (g.O.Directory.state c.save_index.new.directory)
          c.in-Ok-write.ensures.does (meta_of c.in-Ok-output_metas.metas) is (answers c.in-Ok-save_index.ensures);
      meta = (is, c.metas_read_back.ensures c.in-Ok-output_metas.ensures.list);
    })

pub returns : goal.returns
returns g c filters =
    let m = merge_input c.args.segments.now c.args.settings.now filters c.args.id in
    let is =
    meta_as (settings_of c.args.settings.now) c.schema.result.now (first_schema c.args.segments.now) c.deref.result.now
    (map (λ (s : SegmentParts). s.meta.id) c.args.segments.now) c.args.id c.max_doc-documents.result (kept_count c.args.merger.readers)
    (meta_of c.in-Ok-output_metas.metas) c.in-Ok-output_metas.ensures.meta (c.schema.ensures ∙ c.requires.schema)
    (c.deref.ensures.value ∙ c.in-Ok.ensures) c.max_doc-documents.ensures.counted in
    record {
      fills =
          is_filled m c.args.merger.readers
          c.new-segment.result c.in-Ok-for_segment.serializer c.in-Ok-for_segment.ensures.ok
          (ap (λ (s : SegmentParts). s.schema) c.new-segment.ensures ∙ c.share.ensures ∙ c.schema-2.ensures ∙ c.requires.schema)
          (ap (λ (s : SegmentParts). s.meta.id) c.new-segment.ensures ∙ ap (λ (s : ListedSegment). s.id) c.new.ensures)
          c.in-Ok-write.field-0 (Err c.in-Err-save_index.e)
          (g.O.Directory.state c.args.output.now) (g.O.Directory.state c.write.new.directory) (g.O.Directory.state c.save_index.new.directory)
          c.in-Ok-write.ensures.does (meta_of c.in-Ok-output_metas.metas) is
          (works_as _ _ _ c.in-Err-save_index.e _ _ c.in-Err-save_index.ensures);
      meta = tt;
    }

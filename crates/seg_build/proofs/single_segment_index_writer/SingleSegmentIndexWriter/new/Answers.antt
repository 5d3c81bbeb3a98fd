use Rattle.std.proofs.Common.{◌∙◌, [], ap, subst, sym}
use Rattle.seg_meta.specs.IndexOfFiles.{ListedSegment}
use Rattle.seg_meta.specs.Metas.{SegmentParts}
use Rattle.seg_build.specs.IndexWriters.{IsUnderWay}
use Rattle.seg_build.proofs.AddedDocuments.{writes_some}
use Rattle.seg_build.proofs.single_segment_index_writer.SingleSegmentIndexWriter.new.Goals as goal

pub invariant_of-result : goal.invariant_of-result
invariant_of-result g c =
    let w = c.in-Ok.writer in (
      c.in-Ok.ensures.of.1 ∙ ap (λ (s : SegmentParts). s.schema) c.new-segment.ensures ∙ c.share.ensures ∙ c.schema.ensures,
      c.in-Ok.ensures.of.2 ∙ ap (λ (s : SegmentParts). s.meta.id) c.new-segment.ensures ∙ ap (λ (s : ListedSegment). s.id) c.new.ensures,
      subst (λ z. IsUnderWay (g.Z.Analyzers.tokens_of z) w.1) (sym c.in-Ok.ensures.of.0)
          (writes_some (g.Z.Analyzers.tokens_of c.args.analyzers.now) w.1 [] [] c.in-Ok.ensures.ok),
    )

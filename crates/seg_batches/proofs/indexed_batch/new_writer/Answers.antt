use Rattle.std.proofs.Common.{ap, ◌∙◌}
use Rattle.seg_meta.specs.Metas.{SegmentParts}
use Rattle.seg_batches.proofs.AddedDocuments.{started_unused}
use Rattle.seg_batches.proofs.BatchCauses.{starts}
use Rattle.seg_batches.proofs.indexed_batch.new_writer.Goals as goal

pub returns-clause-unused : goal.returns-clause-unused
returns-clause-unused g c =
    started_unused c.args.schema.now c.new-segment.result.schema c.args.settings.now.docstore_blocksize (g.Z.Analyzers.tokens_of c.args.analyzers.now) c.args.analyzers.now c.new-segment.result.meta.id c.for_segment.result
    (ap (λ (s : SegmentParts). s.schema) c.new-segment.ensures ∙ c.share.ensures) c.for_segment.ensures.ok c.for_segment.ensures.of c.for_segment.ensures.blocks

pub returns-clause-tells : goal.returns-clause-tells
returns-clause-tells g c =
    starts (g.Z.Analyzers.knows c.args.analyzers.now) c.new-segment.result.schema c.args.schema.now c.args.settings.now c.for_segment.result (ap (λ (s : SegmentParts). s.schema) c.new-segment.ensures ∙ c.share.ensures) c.for_segment.ensures.refused c.for_segment.ensures.causes

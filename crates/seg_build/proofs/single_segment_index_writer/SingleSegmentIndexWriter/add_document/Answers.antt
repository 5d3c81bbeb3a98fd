use Rattle.std.proofs.Common.{◌∙◌, subst, sym}
use Rattle.seg_build.specs.IndexWriters.{IsUnderWay}
use Rattle.seg_build.proofs.AddedDocuments.{still_under_way}
use Rattle.seg_build.proofs.single_segment_index_writer.SingleSegmentIndexWriter.add_document.Goals as goal

pub invariant_of-self : goal.invariant_of-self
invariant_of-self g c =
    let F = g.Z.Analyzers.tokens_of c.self.inside.writer.0 in (
      c.add_ref.ensures.same.schema ∙ c.self.invariant.0,
      c.add_ref.ensures.same.id ∙ c.self.invariant.1,
      subst (λ z. IsUnderWay (g.Z.Analyzers.tokens_of z) c.add_ref.new.self.1) (sym c.add_ref.ensures.analyzers)
          (still_under_way F (g.D.Document.pairs_of c.args.document) _ c.self.inside.writer.1 c.add_ref.new.self.1 c.add_ref.result
          c.add_ref.ensures.ok c.add_ref.ensures.err c.self.invariant.2),
    )

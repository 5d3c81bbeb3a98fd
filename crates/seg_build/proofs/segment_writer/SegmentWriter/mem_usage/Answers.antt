use Rattle.std.proofs.Common.{◌≡◌, ◌∙◌, ap, arith, subst}
use Rattle.seg_model.specs.SaturatedNumbers.{saturated}
use Rattle.seg_build.specs.MemoryUsage.{length_fields, memory_usage}
use Rattle.seg_build.specs.SegmentWriters.{kept_of, IsKeptOf, Writes}
use Rattle.seg_build.proofs.WriterContents.{of_parts}
use Rattle.seg_build.proofs.UsedMemory.{usage_is}
use Rattle.seg_build.proofs.segment_writer.SegmentWriter.mem_usage.Goals as goal

pub returns-clause-of : goal.returns-clause-of
returns-clause-of g c documents stamps =
    let F = g.Z.Analyzers.tokens_of c.self.inside.analyzers.now in
    let schema = c.self.inside.segment.schema in
    subst (λ v. Writes (g.Z.Analyzers.tokens_of v.0) documents stamps v.1 → c.saturating_add.result ≡ saturated (memory_usage v.1.schema (g.Z.Analyzers.tokens_of v.0) documents)) c.self.view_is
    (λ w. usage_is schema F c.self.inside.block_size documents stamps (kept_of c.in-Some.parts) (of_parts (IsKeptOf schema F c.self.inside.block_size documents stamps) c.self.inside.parts c.in-Some.parts c.in-Some.is w)
    c.mem_usage.result c.mem_usage-columns.result c.len.result c.length_fields.result c.saturating_mul-occurrences.result c.saturating_add-terms.result c.saturating_add-values.result c.saturating_mul-lengths.result c.saturating_add.result
    c.mem_usage.ensures c.mem_usage-columns.ensures.documents (omega (arith, c.len.ensures)) (c.length_fields.ensures ∙ ap length_fields c.schema.ensures)
    c.saturating_mul-occurrences.ensures c.saturating_add-terms.ensures c.saturating_add-values.ensures c.saturating_mul-lengths.ensures c.saturating_add.ensures)

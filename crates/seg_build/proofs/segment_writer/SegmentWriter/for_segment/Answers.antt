use Rattle.std.proofs.Common.{◌≡◌, true, [], refl, subst}
use Rattle.std.specs.Prelude.{IsTrue}
use Rattle.std.specs.List.{AllByRecursion}
use Rattle.seg_values.specs.declared.schema.FieldEntry.{FieldEntry}
use Rattle.seg_model.specs.Fields.{indexing_tokenizer}
use Rattle.seg_model.specs.ValidInputs.{names_fit}
use Rattle.seg_column_format.specs.FastTokenizers.{AreKnown}
use Rattle.seg_build.specs.SegmentWriters.{kept_of, IsKeptOf}
use Rattle.seg_build.proofs.segment_writer.SegmentWriter.for_segment.Goals as goal

pub invariant_of-result : goal.invariant_of-result
invariant_of-result g c =
    let F = g.Z.Analyzers.tokens_of c.args.analyzers.now in
    let knows = g.Z.Analyzers.knows c.args.analyzers.now in (
      subst (λ s. names_fit s ≡ true) c.schema-schema.ensures (c.in_default.ensures.names refl),
      subst (λ s. AllByRecursion (λ (e : FieldEntry). IsTrue (knows (indexing_tokenizer e))) s) c.schema-schema.ensures (c.in_default.ensures.known refl).0,
      subst (AreKnown knows) c.schema-schema.ensures (c.in_default.ensures.known refl).1,
      record {
        block_size = c.args.settings.now.docstore_blocksize;
        documents = [];
        stamps = [];
        are = subst (λ s. IsKeptOf s F c.args.settings.now.docstore_blocksize [] [] (kept_of c.in-Ok.parts)) c.schema-schema.ensures (c.in-Ok.ensures F);
      },
    )

pub returns-clause-ok : goal.returns-clause-ok
returns-clause-ok g c =
    let F = g.Z.Analyzers.tokens_of c.args.analyzers.now in
    subst (λ s. IsKeptOf s F c.args.settings.now.docstore_blocksize [] [] (kept_of c.in-Ok.parts)) c.schema-schema.ensures (c.in-Ok.ensures F)

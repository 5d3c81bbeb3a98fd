use Rattle.std.proofs.Common.{◌≡◌, ◌∙◌, ◌<◌, ◌^◌, ℕ, List, IsTrue, Some, length, subst, sym}
use Rattle.std.specs.Prelude.{IfOk, OnOk}
use Rattle.std.specs.FinMap.{get}
use Rattle.std.proofs.lemmas.Result.{IfOk-weaker}
use Rattle.seg_segment.proofs.Exports.{failing}
use Rattle.seg_common.specs.declared.name.FileName.TheVariants.{Part}
use Rattle.seg_common.specs.declared.name.SegmentComponent.TheVariants.{Postings, Store}
use Rattle.seg_values.specs.Tree.{Document}
use Rattle.seg_meta.specs.IndexOfFiles as index
use Rattle.seg_meta.specs.MetaMeaning.{meta_of, settings_of}
use Rattle.seg_meta.specs.declared.index.Index.{Index}
use Rattle.seg_segment.specs.IndexForms.{segment_forms}
use Rattle.seg_build.specs.FieldTerms.{fields_of}
use Rattle.seg_build.specs.SegmentWriters.{Writes, document_count}
use Rattle.seg_build.specs.StoredBlocks.{HasBlocks}
use Rattle.seg_build.specs.PostingsTotals.{TotalsAreCounts}
use Rattle.seg_build.specs.IndexWriters.{FinalizesIndex, meta_written, one_segment_meta}
use Rattle.seg_build.proofs.AddedDocuments.{are_few, counted}
use Rattle.seg_build.proofs.WrittenIndex.{meta_as, others_stay, same_meta, saved_as, segment_goes_on, segment_stops, segment_tells, still_said, still_stands}
use Rattle.seg_build.proofs.single_segment_index_writer.SingleSegmentIndexWriter.finalize.Goals as goal

pub save_one_segment-requires : goal.save_one_segment-requires
save_one_segment-requires g c = record {
  few =
      subst (λ (n : ℕ). n < 2 ^ 31) (sym c.max_doc-documents.ensures)
      (are_few (g.Z.Analyzers.tokens_of c.self.inside.writer.0) c.self.inside.writer.1 c.self.invariant.2);
}

-- ---- no segment is made

pub returns-in-Err-clause-does : goal.returns-in-Err-clause-does
returns-in-Err-clause-does g c =
    let w = c.self.inside.writer.1 in
    subst (λ v. FinalizesIndex {T = Index} v.1 (failing Index c.in-Err.e) (g.W.Directory.state c.args.directory.now) (g.W.Directory.state c.finalize.new.directory)) c.self.view_is
    (segment_stops (one_segment_meta (settings_of c.self.inside.index.index_settings) w.schema w.id (document_count w.kept)) w.schema w.id Index w.kept c.finalize.result c.in-Err.e (g.W.Directory.state c.args.directory.now) (g.W.Directory.state c.finalize.new.directory) c.in-Err.is c.finalize.ensures.does)

pub returns-in-Err-clause-others : goal.returns-in-Err-clause-others
returns-in-Err-clause-others g c =
    let v = c.args.self.1 in
    others_stay (meta_written v) v.segment.schema v.segment.id v.segment.kept (failing Index c.in-Err.e) (g.W.Directory.state c.args.directory.now) (g.W.Directory.state c.finalize.new.directory) (returns-in-Err-clause-does g c)

-- ---- it is made

pub returns-clause-does : goal.returns-clause-does
returns-clause-does g c =
    let w = c.self.inside.writer.1 in
    let settings = settings_of c.self.inside.index.index_settings in
    subst (λ v. FinalizesIndex v.1 c.save_one_segment.result (g.W.Directory.state c.args.directory.now) (g.W.Directory.state c.save_one_segment.new.directory)) c.self.view_is
    (segment_goes_on (one_segment_meta settings w.schema w.id (document_count w.kept)) w.schema w.id w.kept c.in-Ok.field-0 c.save_one_segment.result (g.W.Directory.state c.args.directory.now) (g.W.Directory.state c.finalize.new.directory) (g.W.Directory.state c.save_one_segment.new.directory) c.in-Ok.ensures.does
    (meta_as settings c.self.inside.index.schema w.schema c.self.inside.id w.id c.max_doc-documents.result (document_count w.kept)
    (sym c.self.invariant.0) (sym c.self.invariant.1) c.max_doc-documents.ensures c.save_one_segment.result (g.W.Directory.state c.finalize.new.directory) (g.W.Directory.state c.save_one_segment.new.directory) c.save_one_segment.ensures.does))

pub returns-clause-others : goal.returns-clause-others
returns-clause-others g c =
    let v = c.args.self.1 in
    others_stay (meta_written v) v.segment.schema v.segment.id v.segment.kept c.save_one_segment.result (g.W.Directory.state c.args.directory.now) (g.W.Directory.state c.save_one_segment.new.directory) (returns-clause-does g c)

pub returns-clause-stands : goal.returns-clause-stands
returns-clause-stands g c told =
    let meta = one_segment_meta (settings_of c.self.inside.index.index_settings) c.self.inside.index.schema c.self.inside.id c.max_doc-documents.result in
    let F = g.Z.Analyzers.tokens_of in
    let w = c.self.inside.writer in
    subst (λ v. OnOk c.save_one_segment.result ((documents : List Document) (stamps : List ℕ) → Writes (F v.0) documents stamps v.1.segment
    → index.StandsFor segment_forms (g.W.Directory.state c.save_one_segment.new.directory).files v.1.segment.schema (F v.0) v.1.segment.id documents)) c.self.view_is
    (still_stands (λ documents stamps. Writes (F w.0) documents stamps w.1) meta c.save_one_segment.result c.save_one_segment.ensures.does w.1.schema (F w.0) w.1.id (c.in-Ok.ensures.stands told))

pub returns-clause-totals : goal.returns-clause-totals
returns-clause-totals g c told =
    let meta = one_segment_meta (settings_of c.self.inside.index.index_settings) c.self.inside.index.schema c.self.inside.id c.max_doc-documents.result in
    let F = g.Z.Analyzers.tokens_of in
    let w = c.self.inside.writer in
    subst (λ v. OnOk c.save_one_segment.result ((documents : List Document) (stamps : List ℕ) → Writes (F v.0) documents stamps v.1.segment
    → (postings : List ℕ) → get (g.W.Directory.state c.save_one_segment.new.directory).files (Part v.1.segment.id Postings) ≡ Some postings
    → TotalsAreCounts postings (fields_of v.1.segment.schema (F v.0) documents))) c.self.view_is
    (still_said (λ documents stamps. Writes (F w.0) documents stamps w.1) meta (λ documents postings. TotalsAreCounts postings (fields_of w.1.schema (F w.0) documents)) w.1.id Postings
    c.save_one_segment.result c.save_one_segment.ensures.does (c.in-Ok.ensures.totals told))

pub returns-clause-blocks : goal.returns-clause-blocks
returns-clause-blocks g c told =
    let meta = one_segment_meta (settings_of c.self.inside.index.index_settings) c.self.inside.index.schema c.self.inside.id c.max_doc-documents.result in
    let F = g.Z.Analyzers.tokens_of in
    let w = c.self.inside.writer in
    subst (λ v. OnOk c.save_one_segment.result ((documents : List Document) (stamps : List ℕ) → Writes (F v.0) documents stamps v.1.segment
    → (store : List ℕ) → get (g.W.Directory.state c.save_one_segment.new.directory).files (Part v.1.segment.id Store) ≡ Some store
    → HasBlocks v.1.segment.schema v.1.segment.block_size documents store)) c.self.view_is
    (still_said (λ documents stamps. Writes (F w.0) documents stamps w.1) meta (λ documents store. HasBlocks w.1.schema w.1.block_size documents store) w.1.id Store
    c.save_one_segment.result c.save_one_segment.ensures.does (c.in-Ok.ensures.blocks told))

pub returns-clause-meta : goal.returns-clause-meta
returns-clause-meta g c =
    let F = g.Z.Analyzers.tokens_of in
    let w = c.self.inside.writer in
    let settings = settings_of c.self.inside.index.index_settings in
    subst (λ v. IfOk c.save_one_segment.result (λ saved. (documents : List Document) (stamps : List ℕ) → Writes (F v.0) documents stamps v.1.segment
    → meta_of saved ≡ one_segment_meta v.1.settings v.1.segment.schema v.1.segment.id (length documents))) c.self.view_is
    (IfOk-weaker c.save_one_segment.result (λ saved. meta_of saved ≡ one_segment_meta settings c.self.inside.index.schema c.self.inside.id c.max_doc-documents.result) _
    (λ saved is documents stamps writes. is ∙ same_meta settings c.self.inside.index.schema w.1.schema c.self.inside.id w.1.id c.max_doc-documents.result (length documents)
    (sym c.self.invariant.0) (sym c.self.invariant.1) (c.max_doc-documents.ensures ∙ counted (F w.0) w.1 documents stamps writes))
    c.save_one_segment.ensures.meta)

pub returns-clause-output_meta : goal.returns-clause-output_meta
returns-clause-output_meta g c told =
    let w = c.self.inside.writer.1 in
    let tells = segment_tells (one_segment_meta (settings_of c.self.inside.index.index_settings) w.schema w.id (document_count w.kept)) w.schema w.id w.kept c.in-Ok.field-0 (g.W.Directory.state c.args.directory.now) (g.W.Directory.state c.finalize.new.directory) c.in-Ok.ensures.does in
    saved_as meta_of (one_segment_meta (settings_of c.self.inside.index.index_settings) c.self.inside.index.schema c.self.inside.id c.max_doc-documents.result)
    c.save_one_segment.result c.save_one_segment.ensures.does c.save_one_segment.ensures.meta c.save_one_segment.ensures.back
    (subst (λ t. IsTrue t) (sym tells) told)

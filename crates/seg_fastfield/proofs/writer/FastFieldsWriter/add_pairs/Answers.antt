use Rattle.std.proofs.Common.{◌+◌, refl, subst, sym}
use Rattle.std.specs.Prelude.{IfSome}
use Rattle.seg_model.specs.Fields.{Schema}
use Rattle.seg_fastfield.specs.PathNumbers.{AreColumnsOf}
use Rattle.seg_fastfield.specs.FastFieldWriters.{AreUnderWay, FastWriting}
use Rattle.seg_fastfield.proofs.DocumentSteps.{document_added, document_taken, under_way_more}
use Rattle.seg_fastfield.proofs.writer.FastFieldsWriter.add_pairs.Goals as goal

pub record_document-requires-clause-taken : goal.record_document-requires-clause-taken
record_document-requires-clause-taken g c =
    let view : FastWriting = record {
      schema = c.self.inside.schema;
      columns = c.self.inside.columns;
      rows =
          c.self.inside.rows;
    } in
    document_taken view c.args.self.now c.self.view_is
    (g.Z.Analyzers.tokens_of c.args.analyzers.now) c.fields.result.now
    c.args.document.now c.args.document.now c.fields.ensures refl c.requires.taken

pub record_document-requires-clause-under_way : goal.record_document-requires-clause-under_way
record_document-requires-clause-under_way g c =
    subst (λ (s : Schema). AreUnderWay s (c.self.inside.rows + 1) c.self.inside.columns) (sym c.fields.ensures)
    (under_way_more c.self.inside.schema c.self.inside.rows c.self.inside.columns c.self.invariant.1)

pub record_document-requires-clause-known : goal.record_document-requires-clause-known
record_document-requires-clause-known g c =
    c.known_paths-known.ensures c.self.inside.columns
    (subst (λ paths. IfSome paths (λ known. AreColumnsOf known c.self.inside.columns)) (sym c.take.ensures.value)
    c.self.invariant.3)

pub returns-clause-ok : goal.returns-clause-ok
returns-clause-ok g c =
    let view : FastWriting = record {
      schema = c.self.inside.schema;
      columns = c.self.inside.columns;
      rows =
          c.self.inside.rows;
    } in
    let new : FastWriting = record {
      schema = c.self.inside.schema;
      columns = c.record_document.new.columns;
      rows = c.self.inside.rows + 1;
    } in
    document_added view c.args.self.now c.self.view_is
    (g.Z.Analyzers.tokens_of c.args.analyzers.now) c.fields.result.now
    c.args.document.now c.args.document.now new c.fields.ensures refl
    c.fields_are_valid.ensures c.self.invariant.0 c.requires.taken refl refl c.in-Ok.ensures.recorded

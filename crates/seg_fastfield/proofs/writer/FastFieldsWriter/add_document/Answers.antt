use Rattle.std.proofs.Common.{◌≡◌, None, subst, sym}
use Rattle.seg_values.specs.Tree.{Document}
use Rattle.seg_model.specs.DocumentCheck.{document_refusal}
use Rattle.seg_fastfield.proofs.DocumentSteps.{pairs_added}
use Rattle.seg_fastfield.proofs.writer.FastFieldsWriter.add_document.Goals as goal

pub add_pairs-requires-clause-taken : goal.add_pairs-requires-clause-taken
add_pairs-requires-clause-taken g c =
    subst (λ (d : Document). document_refusal c.args.self.now.schema (g.Z.Analyzers.tokens_of c.args.analyzers.now) d
    ≡ None) (sym c.in-Ok.ensures) c.requires.taken

pub returns-clause-ok : goal.returns-clause-ok
returns-clause-ok g c =
    pairs_added (g.Z.Analyzers.tokens_of c.args.analyzers.now) (g.D.Document.pairs_of c.args.document.now)
    c.in-Ok.pairs c.args.self.now c.add_pairs.new.self c.add_pairs.result c.in-Ok.ensures c.add_pairs.ensures.ok

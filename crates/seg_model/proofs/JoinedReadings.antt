-- Parts that were read of documents join to the reading of the live documents.
use Rattle.std.proofs.Common.{◌≡◌, length, ap, ◌∙◌}
use Rattle.std.specs.List.{flat_map}
use Rattle.std.specs.Option.{option_map}
use Rattle.std.proofs.lemmas.List.{length-map}
use Rattle.seg_model.specs.Operations.{live}
use Rattle.seg_model.specs.DocumentTerms.{stored_document}
use Rattle.seg_model.specs.Columns.{Columns, columns}
use Rattle.seg_model.specs.Contents.{reading_with}
use Rattle.seg_model.specs.Join.{joined_with}
use Rattle.seg_model.specs.Laws.{JoiningIsInvisible}
use Rattle.seg_model.proofs.JoinedTerms.{terms_live}
use Rattle.seg_model.proofs.JoinedNorms.{stored_live, norms_live}
use Rattle.seg_model.proofs.JoinedColumns.{columns_live}

pub joined_reading : JoiningIsInvisible
joined_reading schema analyzer bs ps all =
    ap (option_map (joined_with schema ps)) (columns_live schema analyzer bs ps all)
    ∙ ap (λ f. option_map f (columns schema analyzer (flat_map live bs))) (λ i cs. same cs i)
  where
    same : (cs : Columns) → joined_with schema ps cs ≡ reading_with schema analyzer (flat_map live bs) cs
    same cs = λ i. record {
      documents = (ap length (stored_live schema analyzer bs ps all) ∙ length-map (flat_map live bs) (stored_document schema)) i;
      terms = terms_live schema analyzer bs ps all i;
      stored = stored_live schema analyzer bs ps all i;
      norms = norms_live schema analyzer bs ps all i;
      columns = cs;
    }

-- Contents whose stored documents tell all of them.
use Rattle.std.specs.Prelude.{◌≡◌, Some, None}
use Rattle.std.specs.List.{AllByRecursion}
use Rattle.seg_model.specs.Fields.{Schema, Analyzer}
use Rattle.seg_model.specs.DocumentCheck.{document_refusal}
use Rattle.seg_model.specs.Contents.{Contents, full_reading}
use Rattle.seg_model.specs.Shape.{HasFullShape}

-- the stored documents pass the check, and the contents are their full reading
pub record IsSelfTold (schema : Schema) (analyzer : Analyzer) (contents : Contents) : Type 0 where
  pub shape : HasFullShape schema contents
  pub taken : AllByRecursion (λ d. document_refusal schema analyzer d ≡ None) contents.stored
  pub told : full_reading schema analyzer contents.stored ≡ Some contents

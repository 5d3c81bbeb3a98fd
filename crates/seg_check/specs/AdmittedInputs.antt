-- What is known of an input once nothing refuses it before a directory is called.
use Rattle.std.specs.Prelude.{◌≡◌, true, None}
use Rattle.std.specs.List.{AllByRecursion}
use Rattle.seg_model.specs.Fields.{Analyzer}
use Rattle.seg_model.specs.DocumentCheck.{document_refusal}
use Rattle.seg_model.specs.Input.{Input, input_batches, input_survivors}
use Rattle.seg_model.specs.Operations.{Batch, additions}
use Rattle.seg_model.specs.ValidInputs.{Known, FitsSegment, input_refusal, cuts_fit, batches_fit, filters_fit, ids_fit}

-- its cuts, filters and ids fit
pub record Fits (analyzer : Analyzer) (input : Input) : Type 0 where
  pub cuts : cuts_fit input.operations input.cuts ≡ true
  pub batches : batches_fit input.cuts ≡ true
  pub filters : filters_fit input.filters (input_batches analyzer input) ≡ true
  pub ids : ids_fit input.cuts input.ids ≡ true

-- an input is valid, with what is asked of the survivors where it is told what they are
pub record IsValidIf (told : Type 0) (known : Known) (analyzer : Analyzer) (input : Input) : Type 0 where
  pub accepted : input_refusal known analyzer input ≡ None
  pub taken : AllByRecursion (λ d. document_refusal input.schema analyzer d ≡ None) (additions input.operations)
  pub batches : AllByRecursion (λ (b : Batch). FitsSegment input.schema analyzer b.documents)
      (input_batches analyzer input)
  pub survivors : told → FitsSegment input.schema analyzer (input_survivors analyzer input)

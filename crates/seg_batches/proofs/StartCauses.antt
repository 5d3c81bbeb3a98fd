-- Causes for which batches are not written: they tell refusals, and the first of them is that of all.
use Rattle.std.proofs.Common.{◌≡◌, ◌∙◌, ℕ, ◌+◌, ◌-◌, List, [], ◌∷◌, map, length, drop, Option, Some, None, refl, sym, ap, inl, inr, arith}
use Rattle.std.specs.Prelude.{◌⊎◌}
use Rattle.std.specs.List.{AllByRecursion}
use Rattle.std.specs.Option.{option_or}
use Rattle.seg_values.specs.declared.error.TantivyError.{TantivyError}
use Rattle.seg_model.specs.DocumentCheck.{first_of}
use Rattle.seg_model.specs.Fields.{Schema, Analyzer}
use Rattle.seg_model.specs.Operations.{Operation}
use Rattle.seg_model.specs.Refusals.{batch_refusal, cut_from}
use Rattle.seg_model.specs.ValidInputs.{Known}
use Rattle.seg_meta.specs.declared.index_settings.IndexSettings.{IndexSettings}
use Rattle.seg_check.specs.WriterStart.{start_refusal}
use Rattle.seg_check.proofs.Exports.{batch_is_refusal, start_is_refusal}
use Rattle.seg_batches.specs.BatchWriteSteps.{batch_cause}
use Rattle.seg_batches.proofs.BatchCauses.{IsFirst, TellsRefusal}

-- why no writer can be started is a refusal
pub start_tells : (known : Known) (schema : Schema) (settings : IndexSettings)
    → TellsRefusal (start_refusal known 15000 schema settings)
start_tells known schema settings = start_is_refusal known 15000 schema settings

module _ (schema : Schema) (analyzer : Analyzer) where
  cause_tells : (start : Option TantivyError) (part : List (ℕ × Operation)) → TellsRefusal start
      → TellsRefusal (option_or start (batch_refusal schema analyzer part))
  cause_tells None part tells e is = batch_is_refusal schema analyzer part e is
  cause_tells (Some d) part tells e is = tells e is

  pub causes_tell : (start : Option TantivyError) (parts : List (List (ℕ × Operation))) → TellsRefusal start
      → AllByRecursion TellsRefusal (map (batch_cause start schema analyzer) parts)
  causes_tell start [] tells = tt
  causes_tell start (part ∷ parts) tells = (cause_tells start part tells, causes_tell start parts tells)

  none_started : (parts : List (List (ℕ × Operation)))
      → first_of (λ o. o) (map (batch_cause None schema analyzer) parts) ≡ first_of (batch_refusal schema analyzer) parts
  none_started [] = refl
  none_started (part ∷ parts) = ap (option_or (batch_refusal schema analyzer part)) (none_started parts)

  -- the first is that of the start, or of the first batch that is refused
  pub first_cause : (start : Option TantivyError) (parts : List (List (ℕ × Operation))) (e : TantivyError)
      → IsFirst (map (batch_cause start schema analyzer) parts) e
      → (start ≡ Some e) ⊎ (first_of (batch_refusal schema analyzer) parts ≡ Some e)
  first_cause None parts e is = inr (sym (none_started parts) ∙ is)
  first_cause (Some d) [] e is = absurd (cc is)
  first_cause (Some d) (part ∷ parts) e is = inl is

pub as_many : {X : Type 0} (f : List X → Option TantivyError) (from : ℕ) (cuts : List ℕ) (xs : List X)
    → length (map f (cut_from from cuts xs)) ≡ length cuts + 1
as_many f from [] xs = refl
as_many f from (cut ∷ cuts) xs = omega (arith, as_many f cut cuts (drop (cut - from) xs))

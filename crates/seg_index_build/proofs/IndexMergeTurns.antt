-- Indices that nothing refuses, merged turn by turn.
use Rattle.std.proofs.Common.{◌≡◌, List, None, Some, Result, Ok, Err, refl, subst, inl, inr}
use Rattle.std.specs.Prelude.{◌⊎◌}
use Rattle.seg_values.specs.declared.error.TantivyError.{TantivyError}
use Rattle.seg_values.specs.declared.error.TantivyError.TheVariants.{OutOfMemory}
use Rattle.seg_directory.proofs.Exports.{answers}
use Rattle.seg_directory.specs.DirectoryStates.{DirectoryState}
use Rattle.seg_directory.specs.DirectorySteps.{Works}
use Rattle.seg_meta.specs.IndexOfFiles.{Meta}
use Rattle.seg_model.specs.Fields.{Schema}
use Rattle.seg_open.specs.OpenSegment.{OpenSegment, kept_count}
use Rattle.seg_open.specs.OpeningSteps.{Asked}
use Rattle.seg_merger.specs.Merger.{IsMergerOf, Merging, too_many}
use Rattle.seg_index_build.specs.MergedSegments.{FillsTo, MergeInput, first_schema}
use Rattle.seg_index_build.specs.IndexWriteSteps.{begin_steps}
use Rattle.seg_index_build.specs.MergedIndices.{Begins, MergesSources, filled, not_begun, not_few, not_opened, places}
use Rattle.seg_index_build.specs.Sources.{OpensSources}

module _ (called m : MergeInput) (called_is : called ≡ m) (asked : List (List Asked)) (schema : Schema)
    (schema_is : schema ≡ first_schema called.segments) (ss : List DirectoryState) (o v : DirectoryState) where
  begins_as : (r : Result (Unit {0}) TantivyError) → Works (begin_steps called.settings schema) r o v → Begins m r o v
  begins_as r works =
      subst (λ (x : MergeInput). Begins x r o v) called_is
      (subst (λ (s : Schema). Works (begin_steps called.settings s) r o v) schema_is works)

  -- the output index isn't begun
  pub ends_begun : (e : TantivyError) → Works {T = Unit {0}} (begin_steps called.settings schema) (Err e) o v
      → MergesSources m asked (Err e) (places ss o) (places ss v)
  ends_begun e works = not_begun e refl (begins_as (Err e) works) refl

  module _ (u : Unit {0}) (begun : Works (begin_steps called.settings schema) (Ok u) o v) (ts : List DirectoryState) where
    begins : Begins m (Ok tt) o v
    begins = begins_as (Ok tt) (answers begun)

    -- segments are not opened
    pub ends_opened : (e : TantivyError) → OpensSources asked (Err e) ss ts
        → MergesSources m asked (Err e) (places ss o) (places ts v)
    ends_opened e opens = not_opened e refl begins opens

    module _ (opened : List OpenSegment) (opens : OpensSources asked (Ok opened) ss ts) where
      -- they are too many
      pub ends_counted : (e : TantivyError) → (too_many (kept_count opened) ≡ Some e) ⊎ (e ≡ OutOfMemory)
          → (e ≡ OutOfMemory → ⊥) → MergesSources m asked (Err e) (places ss o) (places ts v)
      ends_counted e (inl many) apart = not_few e opened refl begins opens many
      ends_counted e (inr memory) apart = absurd (apart memory)

      -- or the output is filled, or not
      pub ends_filled : (merger : Merging) (given : Schema) → IsMergerOf given opened merger → too_many (kept_count opened) ≡ None
          → (r : Result Meta TantivyError) (w : DirectoryState) → FillsTo called merger.readers r v w
          → MergesSources m asked r (places ss o) (places ts w)
      ends_filled merger given is few r w fills =
          filled opened v begins opens few
          (subst (λ (x : MergeInput). FillsTo x opened r v w) called_is
          (subst (λ (l : List OpenSegment). FillsTo called l r v w) is.readers fills))

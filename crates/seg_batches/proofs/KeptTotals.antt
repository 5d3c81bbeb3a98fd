-- What the writing of batches does to the totals that files of postings tell: theirs are told, and stay.
use Rattle.std.proofs.Common.{◌≡◌, ℕ, true, List, [], ◌∷◌, length, Option, Result, Ok, Err, IsTrue, sym, subst, arith}
use Rattle.std.specs.Prelude.{IsSomeAnd, OnOk}
use Rattle.std.specs.FinMap.{get}
use Rattle.seg_common.specs.declared.name.FileName.TheVariants.{Part}
use Rattle.seg_common.specs.declared.name.SegmentComponent.TheVariants.{Postings}
use Rattle.seg_values.specs.declared.error.TantivyError.{TantivyError}
use Rattle.seg_values.specs.declared.schema.FieldEntry.{FieldEntry}
use Rattle.seg_directory.proofs.Exports.{all_went}
use Rattle.seg_directory.specs.Files.{NamedFiles}
use Rattle.seg_directory.specs.DirectoryStates.{DirectoryState}
use Rattle.seg_directory.specs.DirectorySteps.{all_files_after}
use Rattle.seg_model.specs.Fields.{Schema, Analyzer}
use Rattle.seg_model.specs.Operations.{Batch}
use Rattle.seg_model.specs.ValidInputs.{are_distinct}
use Rattle.seg_segment.specs.SegmentFiles.{write_steps}
use Rattle.seg_segment.specs.TokenTotals.{TellTotals}
use Rattle.seg_segment.specs.declared.segment_files.SegmentFiles.{SegmentFiles}
use Rattle.seg_segment.proofs.Exports.{after_keeps, six_there}
use Rattle.seg_batches.specs.BatchTotals.{AllHaveTotals, HasTotals, documents_total}
use Rattle.seg_batches.specs.BatchWriteSteps.{AllStandFor, MakesBatches, batches_steps}
use Rattle.seg_batches.proofs.KeptFiles.{batches_apart, others_are, rest_distinct}

-- a file that stays tells the same
pub totals_on : (id : ℕ) (schema : Schema) (total : ℕ × FieldEntry → ℕ) (old new : NamedFiles)
    → get new (Part id Postings) ≡ get old (Part id Postings) → HasTotals old id schema total → HasTotals new id schema total
totals_on id schema total old new kept h =
    subst (λ (file : Option (List ℕ)). IsSomeAnd file (TellTotals schema total)) (sym kept) h

module _ (schema : Schema) (analyzer : Analyzer) where
  steps_tell : (size : ℕ) (ids : List ℕ) (causes : List (Option TantivyError)) (files : List SegmentFiles) (batches : List Batch) (old : NamedFiles)
      → length files ≡ length ids → length causes ≡ length ids → are_distinct ids ≡ true
      → AllStandFor schema size analyzer files batches
      → AllHaveTotals schema analyzer (all_files_after (batches_steps ids causes files) old) ids batches
  steps_tell size [] causes files batches old many as_many distinct tell = tt
  steps_tell size (id ∷ ids) [] files batches old many as_many distinct tell = absurd (omega (arith, as_many))
  steps_tell size (id ∷ ids) (cause ∷ causes) [] batches old many as_many distinct tell = absurd (omega (arith, many))
  steps_tell size (id ∷ ids) (cause ∷ causes) (f ∷ files) [] old many as_many distinct tell = absurd tell
  steps_tell size (id ∷ ids) (cause ∷ causes) (f ∷ files) (batch ∷ batches) old many as_many distinct tell =
      let now = all_files_after (write_steps id f) old in
      let rest = batches_steps ids causes files in
      let total = documents_total schema analyzer batch.documents in (
        totals_on id schema total now (all_files_after rest now)
            (after_keeps rest now (Part id Postings) (batches_apart ids causes files id Postings (others_are id ids distinct)))
            (subst (λ (file : Option (List ℕ)). IsSomeAnd file (TellTotals schema total)) (sym (six_there id f old).1.1.0) tell.0.totals),
        steps_tell size ids causes files batches now (omega (arith, many)) (omega (arith, as_many)) (rest_distinct id ids distinct) tell.1,
      )

  -- that of each id tells the totals of its batch
  pub all_totals : {T : Type 0} (size : ℕ) (causes : List (Option TantivyError)) (ids : List ℕ) (batches : List Batch) (r : Result T TantivyError) (a b : DirectoryState)
      → length causes ≡ length ids → are_distinct ids ≡ true → MakesBatches causes schema size analyzer ids batches r a b
      → IsTrue a.tells → OnOk r (AllHaveTotals schema analyzer b.files ids batches)
  all_totals size causes ids batches (Ok x) a b as_many distinct w told =
      subst (λ (now : NamedFiles). AllHaveTotals schema analyzer now ids batches) (sym ((all_went w.works).files told)) (steps_tell size ids causes w.files batches a.files w.whole as_many distinct w.stand)
  all_totals size causes ids batches (Err e) a b as_many distinct w told = tt

-- What the writing of batches does to files: theirs are there, and others stay.
use Rattle.std.proofs.Common.{◌≡◌, ◌≢◌, ◌∙◌, ℕ, true, List, [], ◌∷◌, length, Option, Result, Ok, Err, IsTrue, refl, sym, ap, subst, arith}
use Rattle.std.specs.Prelude.{OnOk}
use Rattle.std.specs.FinMap.{get}
use Rattle.std.specs.List.{AllByRecursion}
use Rattle.std.proofs.lemmas.List.{map-id}
use Rattle.std.proofs.lemmas.Bool.{and_parts}
use Rattle.seg_common.specs.declared.name.FileName.TheVariants.{Part}
use Rattle.seg_common.specs.declared.name.SegmentComponent.{SegmentComponent}
use Rattle.seg_common.proofs.Lists.{all_both}
use Rattle.seg_values.specs.Tree.{Document}
use Rattle.seg_values.specs.declared.error.TantivyError.{TantivyError}
use Rattle.seg_directory.proofs.Exports.{all_went}
use Rattle.seg_directory.specs.Files.{NamedFiles}
use Rattle.seg_directory.specs.DirectoryStates.{DirectoryState}
use Rattle.seg_directory.specs.DirectorySteps.{all_files_after}
use Rattle.seg_model.specs.Fields.{Schema, Analyzer}
use Rattle.seg_meta.specs.IndexOfFiles as index
use Rattle.seg_model.specs.Operations.{Batch}
use Rattle.seg_model.specs.ValidInputs.{are_distinct}
use Rattle.seg_segment.specs.IndexForms.{segment_forms}
use Rattle.seg_segment.specs.SegmentFiles.{segment_names, write_steps}
use Rattle.seg_segment.specs.declared.segment_files.SegmentFiles.{SegmentFiles}
use Rattle.seg_segment.proofs.Exports.{after_keeps, all_touched, held_on, six_there, stands_there}
use Rattle.seg_batches.specs.WrittenSegments.{AllStand}
use Rattle.seg_batches.specs.BatchWriteSteps.{AllStandFor, MakesBatches, batches_steps}
use Rattle.seg_batches.proofs.DistinctSegments.{others_after, part_from_parts}

-- the other ids differ from the first
pub others_are : (id : ℕ) (ids : List ℕ) → are_distinct (id ∷ ids) ≡ true → AllByRecursion (λ i. i ≢ id) ids
others_are id ids distinct =
    others_after (λ (n : ℕ). n) (id ∷ ids) 0 id (ap are_distinct (map-id (id ∷ ids)) ∙ distinct) refl

pub rest_distinct : (id : ℕ) (ids : List ℕ) → are_distinct (id ∷ ids) ≡ true → are_distinct ids ≡ true
rest_distinct id ids distinct = (and_parts _ (are_distinct ids) distinct).1

-- batches of other ids touch no file of this one
pub batches_apart : (ids : List ℕ) (causes : List (Option TantivyError)) (files : List SegmentFiles) (id : ℕ) (c : SegmentComponent)
    → AllByRecursion (λ i. i ≢ id) ids
    → AllByRecursion (λ name. Part id c ≢ name) (all_touched (batches_steps ids causes files))
batches_apart [] causes files id c ne = tt
batches_apart (i ∷ ids) [] files id c ne = tt
batches_apart (i ∷ ids) (cause ∷ causes) [] id c ne = tt
batches_apart (i ∷ ids) (cause ∷ causes) (f ∷ files) id c ne =
    all_both (λ name. Part id c ≢ name) (segment_names i) (all_touched (batches_steps ids causes files)) (part_from_parts id i c (λ is. ne.0 (sym is))) (batches_apart ids causes files id c ne.1)

module _ (schema : Schema) (analyzer : Analyzer) where
  stands_on : (id : ℕ) (documents : List Document) (old new : NamedFiles)
      → ((c : SegmentComponent) → get new (Part id c) ≡ get old (Part id c))
      → index.StandsFor segment_forms old schema analyzer id documents
      → index.StandsFor segment_forms new schema analyzer id documents
  stands_on id documents old new kept h =
      record { contents = h.contents; read = h.read; held = held_on id old new kept schema h.contents h.held }

  steps_stand : (size : ℕ) (ids : List ℕ) (causes : List (Option TantivyError)) (files : List SegmentFiles) (batches : List Batch) (old : NamedFiles)
      → length files ≡ length ids → length causes ≡ length ids → are_distinct ids ≡ true
      → AllStandFor schema size analyzer files batches → AllStand schema analyzer (all_files_after (batches_steps ids causes files) old) ids batches
  steps_stand size [] causes files batches old many as_many distinct stand = tt
  steps_stand size (id ∷ ids) [] files batches old many as_many distinct stand = absurd (omega (arith, as_many))
  steps_stand size (id ∷ ids) (cause ∷ causes) [] batches old many as_many distinct stand = absurd (omega (arith, many))
  steps_stand size (id ∷ ids) (cause ∷ causes) (f ∷ files) [] old many as_many distinct stand = absurd stand
  steps_stand size (id ∷ ids) (cause ∷ causes) (f ∷ files) (batch ∷ batches) old many as_many distinct stand =
      let now = all_files_after (write_steps id f) old in
      let rest = batches_steps ids causes files in (
        stands_on id batch.documents now (all_files_after rest now) (λ c. after_keeps rest now (Part id c) (batches_apart ids causes files id c (others_are id ids distinct)))
            (stands_there schema analyzer batch.documents f now id stand.0.stand (six_there id f old)),
        steps_stand size ids causes files batches now (omega (arith, many)) (omega (arith, as_many)) (rest_distinct id ids distinct) stand.1,
      )

  -- the files of each id stand for its batch
  pub all_stand : {T : Type 0} (size : ℕ) (causes : List (Option TantivyError)) (ids : List ℕ) (batches : List Batch) (r : Result T TantivyError) (a b : DirectoryState)
      → length causes ≡ length ids → are_distinct ids ≡ true → MakesBatches causes schema size analyzer ids batches r a b
      → IsTrue a.tells → OnOk r (AllStand schema analyzer b.files ids batches)
  all_stand size causes ids batches (Ok x) a b as_many distinct w told =
      subst (λ (now : NamedFiles). AllStand schema analyzer now ids batches) (sym ((all_went w.works).files told)) (steps_stand size ids causes w.files batches a.files w.whole as_many distinct w.stand)
  all_stand size causes ids batches (Err e) a b as_many distinct w told = tt

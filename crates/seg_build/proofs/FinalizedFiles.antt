-- What a writer kept, once its files are made.
use Rattle.std.proofs.Common.{◌≡◌, ℕ, List, Option, Some, None, Result, IsTrue, sym, subst}
use Rattle.std.specs.Prelude.{OnOk, IsSomeAnd}
use Rattle.std.specs.FinMap.{get}
use Rattle.std.proofs.lemmas.Result.{on_ok_weaker}
use Rattle.seg_common.specs.declared.name.FileName.TheVariants.{Part}
use Rattle.seg_common.specs.declared.name.SegmentComponent.TheVariants.{Postings, Store}
use Rattle.seg_values.specs.Tree.{Document}
use Rattle.seg_values.specs.declared.error.TantivyError.{TantivyError}
use Rattle.seg_model.specs.Fields.{Schema, Analyzer}
use Rattle.seg_meta.specs.IndexOfFiles as index
use Rattle.seg_directory.specs.DiskRuns.{KeepsOnDisk}
use Rattle.seg_directory.specs.DirectoryStates.{DirectoryState}
use Rattle.seg_directory.specs.DirectorySteps.{Works}
use Rattle.seg_segment.specs.IndexForms.{segment_forms}
use Rattle.seg_segment.specs.SegmentFiles.{HasFiles, IsOtherName, write_steps}
use Rattle.seg_segment.proofs.Exports.{are_made, none_on_disk, one, others_on_disk, stands_there}
use Rattle.seg_build.specs.FieldTerms.{fields_of}
use Rattle.seg_build.specs.FinishedFiles.{AreOfKept, Finishes, FinishesKept, IsMadeOfKept, fails, makes}
use Rattle.seg_build.specs.WriterContents.{Kept}
use Rattle.seg_build.specs.SegmentWriters.{IsKeptOf}
use Rattle.seg_build.specs.StoredBlocks.{HasBlocks}
use Rattle.seg_build.specs.PostingsTotals.{TotalsAreCounts}
use Rattle.seg_build.specs.declared.memory_segment.MemorySegment.{MemorySegment}

of_kept : (schema : Schema) (kept : Kept) (made : MemorySegment) → IsMadeOfKept schema kept made → AreOfKept schema kept made.files
of_kept schema kept made is analyzer size documents stamps are = record {
  stand = is.stand analyzer size documents stamps are;
  totals = subst (TotalsAreCounts made.files.postings) (is.fields analyzer size documents stamps are) is.totals;
  blocks = is.blocks analyzer size documents stamps are;
}

-- the files of a segment in memory are made
pub finishes : {T : Type 0} {schema : Schema} {kept : Kept} {made : MemorySegment} {id at : ℕ} {r : Result T TantivyError} {a b : DirectoryState} → IsMadeOfKept schema kept made → at ≡ id → Works (write_steps at made.files) r a b → Finishes schema id kept r a b
finishes {schema = schema} {kept = kept} {made = made} {r = r} {a = a} {b = b} is same works =
    makes made.files (of_kept schema kept made is) (subst (λ (i : ℕ). Works (write_steps i made.files) r a b) same works)

module _ {T : Type 0} (schema : Schema) (id : ℕ) (r : Result T TantivyError) (a b : DirectoryState) (told : IsTrue a.tells) where
  -- the files of documents, where they are made
  abbrev pub MadeOf : Analyzer → ℕ → List Document → Type 0
  MadeOf analyzer size documents =
      index.StandsFor segment_forms b.files schema analyzer id documents
      × ((postings : List ℕ) → get b.files (Part id Postings) ≡ Some postings → TotalsAreCounts postings (fields_of schema analyzer documents))
      × ((store : List ℕ) → get b.files (Part id Store) ≡ Some store → HasBlocks schema size documents store)

  -- and of all that made what is kept
  abbrev Made : Kept → Type 0
  Made kept = (analyzer : Analyzer) (size : ℕ) (documents : List Document) (stamps : List ℕ) → IsKeptOf schema analyzer size documents stamps kept → MadeOf analyzer size documents

  kept_made : (kept : Kept) → Finishes schema id kept r a b → OnOk r (Made kept)
  kept_made kept (fails e why is same) = subst (λ (x : Result T TantivyError). OnOk x (Made kept)) (sym is) tt
  kept_made kept (makes files of works) = on_ok_weaker r
      (λ (has : HasFiles b.files id files) analyzer size documents stamps are. (
        stands_there schema analyzer documents files b.files id (of analyzer size documents stamps are).stand has,
        λ postings there. subst (λ (bytes : List ℕ). TotalsAreCounts bytes (fields_of schema analyzer documents)) (one (get b.files (Part id Postings)) files.postings postings has.1.1.0 there) (of analyzer size documents stamps are).totals,
        λ store there. subst (λ (bytes : List ℕ). HasBlocks schema size documents bytes) (one (get b.files (Part id Store)) files.store store has.1.0 there) (of analyzer size documents stamps are).blocks,
      )) (are_made id files r told works)

  -- they stand for the documents, the totals are counts, and the blocks are cut by their size
  pub are_finished : (kept : Option Kept) → FinishesKept schema id kept r a b
      → OnOk r ((analyzer : Analyzer) (size : ℕ) (documents : List Document) (stamps : List ℕ) → IsSomeAnd kept (IsKeptOf schema analyzer size documents stamps) → MadeOf analyzer size documents)
  are_finished None (is, same) = subst (λ (x : Result T TantivyError). OnOk x ((analyzer : Analyzer) (size : ℕ) (documents : List Document) (stamps : List ℕ) → ⊥ → MadeOf analyzer size documents)) (sym is) tt
  are_finished (Some kept) finishes = kept_made kept finishes

-- of the other names a crash leaves what it might have left before
pub finishing_on_disk : {T : Type 0} (schema : Schema) (id : ℕ) (kept : Option Kept) (r : Result T TantivyError) (a b : DirectoryState) → IsTrue a.disk.told
    → FinishesKept schema id kept r a b → KeepsOnDisk (IsOtherName id) a.disk b.disk
finishing_on_disk schema id None r a b told done = none_on_disk id done.1
finishing_on_disk schema id (Some kept) r a b told (fails e why is same) = none_on_disk id same
finishing_on_disk schema id (Some kept) r a b told (makes files of works) = others_on_disk id files r told works

-- What a writer keeps, it keeps of documents, also after one more.
use Rattle.std.proofs.Common.{◌≡◌, ◌∙◌, ℕ, List, Option, None, Some, Result, Ok, Err, length, ap, sym, subst, inl, inr, arith}
use Rattle.std.specs.Prelude.{◌⊎◌, ◌<◌, ◌^◌, IfErr, IfSome, IsSomeAnd, OnOk}
use Rattle.seg_values.specs.Tree.{Document}
use Rattle.seg_values.specs.declared.error.ArgumentCause.TheVariants as argument
use Rattle.seg_values.specs.declared.error.TantivyError.{TantivyError}
use Rattle.seg_values.specs.declared.error.TantivyError.TheVariants.{InvalidArgument, OutOfMemory, SystemError}
use Rattle.seg_model.specs.Fields.{Analyzer}
use Rattle.seg_build.specs.WriterContents.{Kept}
use Rattle.seg_build.specs.SegmentWriters.{Adds, AddsNone, HasPlace, IsKeptOf, SegmentWriting, Writes, document_count}
use Rattle.seg_build.specs.IndexWriters.{IsUnderWay}

-- ---- of anything that is kept

module _ (P : List Document → List ℕ → Kept → Type 0) where
  abbrev Of : Option Kept → Type 0
  Of o = IfSome o (λ kept. (documents : List Document) × (stamps : List ℕ) × P documents stamps kept)

  some_documents : (o : Option Kept) → IsSomeAnd o HasPlace → Of o
      → (documents : List Document) × (stamps : List ℕ) × IsSomeAnd o (P documents stamps)
  some_documents None place of = absurd place
  some_documents (Some kept) place of = of

  of_documents : (o : Option Kept) (documents : List Document) (stamps : List ℕ) → IsSomeAnd o (P documents stamps) → Of o
  of_documents None documents stamps w = tt
  of_documents (Some kept) documents stamps w = (documents, stamps, w)

  nothing : (o : Option Kept) → o ≡ None → Of o
  nothing o none = subst Of (sym none) tt

module _ (analyzer : Analyzer) where
  -- these documents are kept
  pub writes_some : (w : SegmentWriting) (documents : List Document) (stamps : List ℕ)
      → Writes analyzer documents stamps w → IsUnderWay analyzer w
  writes_some w documents stamps is =
      of_documents (λ ds ss kept. IsKeptOf w.schema analyzer w.block_size ds ss kept) w.kept documents stamps is

  -- ---- one more document

  pub added : (document : Document) (stamp : ℕ) (old new : SegmentWriting) → Adds analyzer document stamp old new
      → IsUnderWay analyzer old → IsUnderWay analyzer new
  added document stamp old new adds under =
      let some = some_documents (λ ds ss kept. IsKeptOf old.schema analyzer old.block_size ds ss kept) old.kept adds.place under in
      writes_some new _ _ (adds.following some.0 some.1 some.2)

  lost_or_same : (document : Document) (stamp : ℕ) (old new : SegmentWriting) (e : TantivyError)
      → AddsNone analyzer document stamp old new e → (new.kept ≡ None) ⊎ (new ≡ old)
  lost_or_same document stamp old new SystemError h = inr h.1
  lost_or_same document stamp old new OutOfMemory h = inl h.1
  lost_or_same document stamp old new (InvalidArgument argument.Documents) h = inr h.1
  lost_or_same document stamp old new (InvalidArgument cause) h = inr h.2
  lost_or_same document stamp old new e h = inr h.2

  pub not_added : (document : Document) (stamp : ℕ) (old new : SegmentWriting) (e : TantivyError)
      → AddsNone analyzer document stamp old new e → IsUnderWay analyzer old → IsUnderWay analyzer new
  not_added document stamp old new e none under = by (lost_or_same document stamp old new e none)
    where
      by : (new.kept ≡ None) ⊎ (new ≡ old) → IsUnderWay analyzer new
      by (inl lost) = nothing (λ ds ss kept. IsKeptOf new.schema analyzer new.block_size ds ss kept) new.kept lost
      by (inr same) = subst (IsUnderWay analyzer) (sym same) under

  -- whatever is answered
  pub still_under_way : {T : Type 0} (document : Document) (stamp : ℕ) (old new : SegmentWriting) (r : Result T TantivyError)
      → OnOk r (Adds analyzer document stamp old new) → IfErr r (AddsNone analyzer document stamp old new)
      → IsUnderWay analyzer old → IsUnderWay analyzer new
  still_under_way document stamp old new (Ok x) adds none under = added document stamp old new adds under
  still_under_way document stamp old new (Err e) adds none under = not_added document stamp old new e none under

  -- ---- how many there are

  pub are_few : (w : SegmentWriting) → IsUnderWay analyzer w → document_count w.kept < 2 ^ 31
  are_few w under = by w.kept under
    where
      by : (o : Option Kept) → IfSome o (λ kept. (documents : List Document) × (stamps : List ℕ)
          × IsKeptOf w.schema analyzer w.block_size documents stamps kept) → document_count o < 2 ^ 31
      by None of = omega arith
      by (Some kept) of =
          let is = of.2 in
          let same : length kept.stamps ≡ length of.0 = ap length is.stamped ∙ is.each in
          omega (arith, same, is.few)

  pub counted : (w : SegmentWriting) (documents : List Document) (stamps : List ℕ) → Writes analyzer documents stamps w
      → document_count w.kept ≡ length documents
  counted w documents stamps writes = by w.kept writes
    where
      by : (o : Option Kept) → IsSomeAnd o (IsKeptOf w.schema analyzer w.block_size documents stamps)
          → document_count o ≡ length documents
      by None of = absurd of
      by (Some kept) of = ap length of.stamped ∙ of.each

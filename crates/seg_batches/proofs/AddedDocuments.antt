-- The documents of a batch, added one by one: a writer has those of the operations so far, and the first that is refused tells why.
use Rattle.std.proofs.Common.{◌≡◌, ℕ, zero, suc, ◌+◌, ◌≤◌, ◌<◌, ◌^◌, true, List, [], ◌∷◌, ◌++◌, length, take, drop, Some, None, Option, Result, Ok, Err, inl, inr, refl, sym, ap, ◌∙◌, subst, arith}
use Rattle.std.specs.Prelude.{◌⊎◌, is_none, is_some, IfOk, IsSomeAnd}
use Rattle.std.specs.List.{list_all, slice_get}
use Rattle.std.proofs.lemmas.Bool.{false≢true}
use Rattle.std.proofs.lemmas.List.{append-nil, length-take-le, take_all}
use Rattle.std.proofs.lemmas.Option.{slice_get_within}
use Rattle.seg_common.proofs.Lists.{take-slice_get}
use Rattle.seg_values.specs.Tree.{Document}
use Rattle.seg_values.specs.declared.error.ArgumentCause.TheVariants as argument
use Rattle.seg_values.specs.declared.error.TantivyError.{TantivyError}
use Rattle.seg_values.specs.declared.error.TantivyError.TheVariants.{SchemaError, InvalidArgument, SystemError, OutOfMemory}
use Rattle.seg_model.specs.TextDocuments.{is_taken}
use Rattle.seg_model.specs.DocumentCheck.{Cause, at_place, document_refusal}
use Rattle.seg_model.specs.Columns.{columns}
use Rattle.seg_model.specs.Fields.{Schema, Analyzer}
use Rattle.seg_model.specs.Operations.{Operation, add, delete, delete_all, additions}
use Rattle.seg_model.specs.Refusals.{operation_refusal, batch_error}
use Rattle.seg_model.specs.Stamps.{addition_stamps}
use Rattle.seg_segment.specs.DocumentsOfFiles.{StandFor}
use Rattle.seg_build.specs.declared.memory_segment.MemorySegment.{MemorySegment}
use Rattle.seg_build.specs.FieldTerms.{FieldTerms, fields_of}
use Rattle.seg_build.specs.WriterContents.{Kept}
use Rattle.seg_build.specs.StoredBlocks.{HasBlocks}
use Rattle.seg_build.specs.SegmentWriters.{SegmentWriting, Adds, AddsNone, IsKeptOf, IsFull, Tells, Writes}
use Rattle.seg_build.specs.PostingsTotals.{TotalsAreCounts}
use Rattle.seg_batches.specs.IndexedBatches.{AreOfBatch, HasAdditions, IsUnused}
use Rattle.seg_batches.proofs.BatchSteps.{mixed_refused}
use Rattle.seg_batches.proofs.TokenCounts.{counts_told}
use Rattle.seg_batches.proofs.RefusedBatches.{refused_from, refused_at}
use Rattle.seg_batches.proofs.SegmentTurns.{additions-append}

-- a writer that was started has no documents
pub started_unused : {Z E : Type 0} (schema given : Schema) (size : ℕ) (analyzer : Analyzer) (analyzers : Z) (id : ℕ) (r : Result (Z × SegmentWriting) E)
    → given ≡ schema
    → IfOk r (λ (w : Z × SegmentWriting). Writes analyzer [] [] w.1) → IfOk r (λ (w : Z × SegmentWriting). (w.0 ≡ analyzers) × (w.1.schema ≡ given) × (w.1.id ≡ id))
    → IfOk r (λ (w : Z × SegmentWriting). w.1.block_size ≡ size)
    → IfOk r (λ (w : Z × SegmentWriting). (w.0 ≡ analyzers) × IsUnused schema size analyzer w.1)
started_unused schema given size analyzer analyzers id (Ok w) same none of sized =
    (of.0, record { none = none; of_schema = of.1 ∙ same; of_size = sized })
started_unused schema given size analyzer analyzers id (Err e) same none of sized = tt

-- ---- one more operation

-- it is taken at a place: a document that it adds comes after the others, and a delete changes nothing
abbrev IsTaken : Analyzer → ℕ → Operation → SegmentWriting → SegmentWriting → Type 0
IsTaken analyzer at (add document) old new = Adds analyzer document at old new
IsTaken analyzer at (delete term) old new = new ≡ old
IsTaken analyzer at (delete_all terms) old new = new ≡ old

same_place : (first : ℕ) (operations : List Operation) (operation : Operation)
    → addition_stamps (first + 1) operations ++ addition_stamps (first + 1 + length operations) (operation ∷ []) ≡ addition_stamps (first + 1) operations ++ addition_stamps (first + suc (length operations)) (operation ∷ [])
same_place first operations operation =
    ap (λ n. addition_stamps (first + 1) operations ++ addition_stamps n (operation ∷ [])) (let e : first + 1 + length operations ≡ first + suc (length operations) = omega arith in e)

stamps-push : (first : ℕ) (operations : List Operation) (operation : Operation)
    → addition_stamps first (operations ++ operation ∷ []) ≡ addition_stamps first operations ++ addition_stamps (first + length operations) (operation ∷ [])
stamps-push first [] operation =
    ap (λ n. addition_stamps n (operation ∷ [])) (let e : first ≡ first + 0 = omega arith in e)
stamps-push first (add document ∷ operations) operation =
    ap (λ l. first ∷ l) (stamps-push (first + 1) operations operation ∙ same_place first operations operation)
stamps-push first (delete term ∷ operations) operation =
    stamps-push (first + 1) operations operation ∙ same_place first operations operation
stamps-push first (delete_all terms ∷ operations) operation =
    stamps-push (first + 1) operations operation ∙ same_place first operations operation

-- an addition is one of the additions
one_of : (operations : List Operation) (i : ℕ) (document : Document) → slice_get operations i ≡ Some (add document)
    → length (additions (take i operations)) < length (additions operations)
one_of [] i document at = absurd (false≢true (ap is_some at))
one_of (add other ∷ operations) zero document at = omega arith
one_of (delete term ∷ operations) zero document at = cc
one_of (delete_all terms ∷ operations) zero document at = cc
one_of (add other ∷ operations) (suc i) document at = omega (arith, one_of operations i document at)
one_of (delete term ∷ operations) (suc i) document at = one_of operations i document at
one_of (delete_all terms ∷ operations) (suc i) document at = one_of operations i document at

module _ (analyzer : Analyzer) (place : ℕ) (old new : SegmentWriting) where
  taken_after : (operation : Operation) (documents : List Document) (stamps : List ℕ)
      → IsTaken analyzer place operation old new → Writes analyzer documents stamps old
      → Writes analyzer (documents ++ additions (operation ∷ [])) (stamps ++ addition_stamps place (operation ∷ [])) new
  taken_after (add document) documents stamps h w = h.following documents stamps w
  taken_after (delete term) documents stamps h w =
      subst (λ ds. Writes analyzer ds (stamps ++ []) new) (sym (append-nil documents)) (subst (λ ss. Writes analyzer documents ss new) (sym (append-nil stamps)) (subst (Writes analyzer documents stamps) (sym h) w))
  taken_after (delete_all terms) documents stamps h w =
      subst (λ ds. Writes analyzer ds (stamps ++ []) new) (sym (append-nil documents)) (subst (λ ss. Writes analyzer documents ss new) (sym (append-nil stamps)) (subst (Writes analyzer documents stamps) (sym h) w))

  pub taken_unrefused : (schema : Schema) (operation : Operation) → old.schema ≡ schema
      → IsTaken analyzer place operation old new → operation_refusal schema analyzer place operation ≡ None
  taken_unrefused schema (add document) same h =
      none_is (document_refusal schema analyzer document) (ap (λ s. is_taken s analyzer document) (sym same) ∙ h.taken)
    where
      none_is : (o : Option Cause) → is_none o ≡ true → at_place place o ≡ None
      none_is None k = refl
      none_is (Some r) k = absurd (false≢true k)
  taken_unrefused schema (delete term) same h = refl
  taken_unrefused schema (delete_all terms) same h = refl

module _ (schema : Schema) (analyzer : Analyzer) (first : ℕ) (operations : List Operation) (i : ℕ) where
  -- ---- one turn
  pub one_more : (operation : Operation) (old new : SegmentWriting) → slice_get operations i ≡ Some operation
      → HasAdditions analyzer first (take i operations) old → IsTaken analyzer (first + i) operation old new
      → HasAdditions analyzer first (take (i + 1) operations) new
  one_more operation old new at has h =
      let so_far = take i operations in
      let front : length so_far ≡ i = length-take-le i operations (omega (arith, slice_get_within operations i operation at)) in
      let stamps : addition_stamps first (so_far ++ operation ∷ []) ≡ addition_stamps first so_far ++ addition_stamps (first + i) (operation ∷ []) = stamps-push first so_far operation ∙ ap (λ n. addition_stamps first so_far ++ addition_stamps (first + n) (operation ∷ [])) front in
      subst (λ l. HasAdditions analyzer first l new) (sym (take-slice_get operations i operation at))
      (subst (λ ds. Writes analyzer ds (addition_stamps first (so_far ++ operation ∷ [])) new) (sym (additions-append so_far (operation ∷ [])))
      (subst (λ ss. Writes analyzer (additions so_far ++ additions (operation ∷ [])) ss new) (sym stamps)
      (taken_after analyzer (first + i) old new operation (additions so_far) (addition_stamps first so_far) h has)))

  -- ---- a document that is not added
  module _ (few : length (additions operations) < 2 ^ 31)
      (so_far : refused_from schema analyzer (first + i) (drop i operations) ≡ refused_from schema analyzer first operations)
      (old new : SegmentWriting) (same : old.schema ≡ schema)
      (has : HasAdditions analyzer first (take i operations) old)
      (document : Document) (at : slice_get operations i ≡ Some (add document)) where
    refusal_tells : (e : TantivyError) → Tells old.schema analyzer document (first + i) e
        → batch_error schema analyzer first operations ≡ Some e
    refusal_tells e h =
        refused_at schema analyzer first operations i (add document) at e (ap (λ s. at_place (first + i) (document_refusal s analyzer document)) (sym same) ∙ h) few so_far

    pub not_added : (e : TantivyError) → AddsNone analyzer document (first + i) old new e
        → (batch_error schema analyzer first operations ≡ Some e) ⊎ (e ≡ OutOfMemory)
    not_added SystemError h =
        absurd (subst (λ o. IsSomeAnd o (IsKeptOf old.schema analyzer old.block_size (additions (take i operations)) (addition_stamps first (take i operations)))) h.0 has)
    not_added OutOfMemory h = inr refl
    not_added (InvalidArgument argument.Documents) h = absurd (full old.kept has h.0)
      where
        full : (kept : Option Kept)
            → IsSomeAnd kept (IsKeptOf old.schema analyzer old.block_size (additions (take i operations)) (addition_stamps first (take i operations)))
            → IsSomeAnd kept IsFull → ⊥
        full None w f = f
        full (Some kept) w f =
            let many : length kept.stamps ≡ length (additions (take i operations)) = ap length w.stamped ∙ w.each in
            omega (arith, many, f, few, one_of operations i document at)
    not_added (SchemaError cause) h = inl (refusal_tells _ h.1)
    not_added (InvalidArgument cause) h = inl (refusal_tells _ h.1)
    not_added e h = inl (refusal_tells e h.1)

-- ---- all of them

pub all_added : (analyzer : Analyzer) (first : ℕ) (operations : List Operation) (n : ℕ) (writer : SegmentWriting)
    → length operations ≤ n → HasAdditions analyzer first (take n operations) writer
    → HasAdditions analyzer first operations writer
all_added analyzer first operations n writer le h =
    subst (λ l. HasAdditions analyzer first l writer) (take_all n operations le) h

module _ (schema : Schema) (analyzer : Analyzer) (first : ℕ) (operations : List Operation) (writer : SegmentWriting)
    (same : writer.schema ≡ schema) (has : HasAdditions analyzer first operations writer) where
  -- they passed the check
  pub were_taken : list_all (is_taken schema analyzer) (additions operations) ≡ true
  were_taken = by writer.kept has
    where
      by : (kept : Option Kept)
          → IsSomeAnd kept (IsKeptOf writer.schema analyzer writer.block_size (additions operations) (addition_stamps first operations))
          → list_all (is_taken schema analyzer) (additions operations) ≡ true
      by None k = absurd k
      by (Some kept) k = ap (λ s. list_all (is_taken s analyzer) (additions operations)) (sym same) ∙ k.taken

  writes : (given : Analyzer) → given ≡ analyzer → Writes given (additions operations) (addition_stamps first operations) writer
  writes given is = subst (λ a. Writes a (additions operations) (addition_stamps first operations) writer) (sym is) has

  -- why no segment is made of it
  pub not_made : (given : Analyzer) → given ≡ analyzer → length (additions operations) < 2 ^ 31 → (e : TantivyError)
      → ((e ≡ SystemError) × (writer.kept ≡ None))
      ⊎ ((e ≡ OutOfMemory)
      ⊎ ((e ≡ InvalidArgument argument.Numbers)
      × ((ds : List Document) (stamps : List ℕ) → Writes given ds stamps writer → columns writer.schema given ds ≡ None)))
      → (batch_error schema analyzer first operations ≡ Some e) ⊎ (e ≡ OutOfMemory)
  not_made given is few e (inl (lacks, none)) =
      absurd (subst (λ o. IsSomeAnd o (IsKeptOf writer.schema analyzer writer.block_size (additions operations) (addition_stamps first operations))) none has)
  not_made given is few e (inr (inl memory)) = inr memory
  not_made given is few e (inr (inr (told, mixed))) =
      inl
      (mixed_refused schema analyzer first operations few were_taken
      (sym
      (ap (λ a. columns writer.schema a (additions operations)) is
      ∙ ap (λ s. columns s analyzer (additions operations)) same)
      ∙ mixed (additions operations) (addition_stamps first operations) (writes given is))
      ∙ ap (λ d. Some d) (sym told))

  -- the segment that is made of the writer
  pub of_batch : (size : ℕ) (given : Analyzer) (segment : MemorySegment) → writer.block_size ≡ size → given ≡ analyzer
      → length (additions operations) < 2 ^ 31
      → ((ds : List Document) (stamps : List ℕ) → Writes given ds stamps writer → StandFor writer.schema given ds segment.files)
      → ((ds : List Document) (stamps : List ℕ) → Writes given ds stamps writer → segment.fields ≡ fields_of writer.schema given ds)
      → TotalsAreCounts segment.files.postings segment.fields
      → ((ds : List Document) (stamps : List ℕ) → Writes given ds stamps writer → HasBlocks writer.schema writer.block_size ds segment.files.store)
      → ((ds : List Document) (stamps : List ℕ) → Writes given ds stamps writer → segment.stamps.items ≡ stamps)
      → AreOfBatch schema size analyzer first operations segment.files segment.stamps.items
  of_batch size given segment sized is few stand fields counts blocks stamps = record {
    stand = stands;
    totals =
        counts_told schema analyzer (additions operations) segment.files stands
        (subst (λ (fs : List FieldTerms). TotalsAreCounts segment.files.postings fs) gathered counts);
    blocks =
        subst (λ n. HasBlocks schema n (additions operations) segment.files.store) sized
        (subst (λ s. HasBlocks s writer.block_size (additions operations) segment.files.store) same
        (blocks (additions operations) (addition_stamps first operations) (writes given is)));
    stamped = stamps (additions operations) (addition_stamps first operations) (writes given is);
    few = few;
  }
    where
      stands : StandFor schema analyzer (additions operations) segment.files
      stands = subst (λ s. StandFor s analyzer (additions operations) segment.files) same (subst (λ a. StandFor writer.schema a (additions operations) segment.files) is (stand (additions operations) (addition_stamps first operations) (writes given is)))

      gathered : segment.fields ≡ fields_of schema analyzer (additions operations)
      gathered =
          fields (additions operations) (addition_stamps first operations) (writes given is)
          ∙ ap (λ a. fields_of writer.schema a (additions operations)) is
          ∙ ap (λ s. fields_of s analyzer (additions operations)) same

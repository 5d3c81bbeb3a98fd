-- What the deletes that wait leave of a batch.
use Rattle.std.proofs.Common.{◌≡◌, ℕ, zero, suc, ◌+◌, ◌<◌, ◌^◌, Bool, true, false, List, [], ◌∷◌, ◌++◌, length, map, take, drop, replicate, Some, None, Option, refl, sym, ap, subst, ◌∙◌, append_assoc, take-append-drop, arith}
use Rattle.std.specs.Prelude.{is_some, option_copied}
use Rattle.std.specs.Borrow.{Bor}
use Rattle.std.specs.List.{AllByRecursion, range_with_len, slice_get}
use Rattle.std.specs.Option.{option_map}
use Rattle.std.proofs.lemmas.Bool.{false≢true}
use Rattle.std.proofs.lemmas.Option.{same_Some}
use Rattle.seg_common.specs.declared.name.SegmentComponent.{SegmentComponent}
use Rattle.seg_common.proofs.Lists.{drop-slice_get_none}
use Rattle.seg_values.specs.Tree.{Document}
use Rattle.seg_meta.specs.Metas.{SegmentParts}
use Rattle.seg_build.specs.SegmentWriters.{SegmentWriting}
use Rattle.seg_model.specs.Columns.{Columns, columns}
use Rattle.seg_model.specs.Contents.{Contents, full_reading, reading_with}
use Rattle.seg_model.specs.Fields.{Schema, Analyzer}
use Rattle.seg_model.specs.Operations.{Operation, additions, alive_after}
use Rattle.seg_model.specs.DocumentTerms.{all_terms}
use Rattle.seg_model.specs.RemovalLaws.{ArePassed}
use Rattle.seg_model.specs.Stamps.{addition_stamps, stamped_deletes}
use Rattle.seg_model.proofs.Exports.{length-additions}
use Rattle.seg_batches.specs.declared.doc_opstamp_mapping.DocToOpstampMapping.TheVariants.{WithMap}
use Rattle.seg_batches.specs.declared.operation.DeleteOperation.{DeleteOperation}
use Rattle.seg_segment.specs.DocumentsOfFiles.{StandFor}
use Rattle.seg_open.specs.OpenSegment.{OpenSegment, contents_of, terms_in}
use Rattle.seg_segment.specs.SegmentFiles.{bytes_of}
use Rattle.seg_segment.specs.Laws.{FilesSpellOneContents}
use Rattle.seg_segment.specs.SpelledContents.{Spell}
use Rattle.seg_open.specs.Disagreement.{Disagree, IsFirstWrong, IsWhyNotOpen, up_to}
use Rattle.seg_open.specs.declared.open_error.OpenError.{OpenError}
use Rattle.seg_open.specs.declared.open_error.OpenError.TheVariants.{Damaged}
use Rattle.seg_segment.specs.declared.segment_files.SegmentFiles.{SegmentFiles}
use Rattle.seg_batches.specs.AppliedDeletes.{IsTold, left_by, term_names}
use Rattle.seg_batches.specs.Laws.{as_operations, AppliedDeletesLeaveTheAlive}
use Rattle.seg_batches.specs.IndexedBatches.{AreOfBatch, IsUnused}
use Rattle.seg_batches.specs.BatchSegments.{AreWhole}
use Rattle.seg_batches.specs.DeleteCursors.{passed_below}
use Rattle.seg_batches.specs.declared.term_target.TermTarget.{TermTarget}
use Rattle.seg_batches.proofs.PassedDeletes.{batch_passes}

-- ---- lists

-- a look-up that finds nothing is at the end
pub at_end : {X : Type 0} (found : Option (Bor X)) (asked xs : List X) (i : ℕ) → asked ≡ xs
    → option_copied found ≡ slice_get asked i → is_some found ≡ false → drop i xs ≡ []
at_end None asked xs i same is none = drop-slice_get_none xs i (ap (λ l. slice_get l i) (sym same) ∙ sym is)
at_end (Some x) asked xs i same is none = absurd (false≢true (sym none))

all_pass : (from n : ℕ) → map (λ d. true) (range_with_len from n) ≡ replicate n true
all_pass from zero = refl
all_pass from (suc n) = ap (λ l. true ∷ l) (all_pass (from + 1) n)

-- ---- files that were just made

-- what is read of documents
pub read_of : (schema : Schema) (analyzer : Analyzer) (documents : List Document) (contents : Contents)
    → full_reading schema analyzer documents ≡ Some contents
    → (contents.documents ≡ length documents) × (contents.terms ≡ all_terms schema analyzer documents)
read_of schema analyzer documents contents read = by (columns schema analyzer documents) read
  where
    by : (cs : Option Columns) → option_map (reading_with schema analyzer documents) cs ≡ Some contents
        → (contents.documents ≡ length documents) × (contents.terms ≡ all_terms schema analyzer documents)
    by None e = absurd (false≢true (ap is_some e))
    by (Some cs) e =
        let same = sym (same_Some (reading_with schema analyzer documents cs) contents e) in
        (ap (λ (c : Contents). c.documents) same, ap (λ (c : Contents). c.terms) same)

-- those of a batch, by what its writer was started with
pub of_started : (writer : SegmentWriting) (schema : Schema) (block_size : ℕ) (by analyzer : Analyzer) (first : ℕ) (operations : List Operation) (files : SegmentFiles) (stamps : List ℕ)
    → IsUnused schema block_size analyzer writer → by ≡ analyzer
    → AreOfBatch writer.schema writer.block_size by first operations files stamps
    → AreOfBatch schema block_size analyzer first operations files stamps
of_started writer schema block_size by analyzer first operations files stamps unused same of =
    subst (λ s. AreOfBatch s block_size analyzer first operations files stamps) unused.of_schema
    (subst (λ n. AreOfBatch writer.schema n analyzer first operations files stamps) unused.of_size
    (subst (λ a. AreOfBatch writer.schema writer.block_size a first operations files stamps) same of))

-- they are whole, and have few documents
module _ (schema : Schema) (block_size : ℕ) (analyzer : Analyzer) (first : ℕ) (operations : List Operation)
    (files : SegmentFiles) (stamps : List ℕ)
    (are : AreOfBatch schema block_size analyzer first operations files stamps) where
  stamps_counted : length stamps ≡ length (additions operations)
  stamps_counted = ap length are.stamped ∙ length-additions first operations

  pub batch_few : length stamps < 2 ^ 31
  batch_few = omega (arith, stamps_counted, are.few)

  pub batch_whole : AreWhole schema files (length stamps)
  batch_whole = record {
    contents = are.stand.contents;
    spelled = are.stand.spelled;
    counted =
        (read_of schema analyzer (additions operations) are.stand.contents are.stand.read).0 ∙ sym stamps_counted;
  }

-- and so they are for a segment of this schema and number of documents
pub whole_for : (segment : SegmentParts) (schema : Schema) (files : SegmentFiles) (n : ℕ)
    → segment.schema ≡ schema → segment.meta.documents ≡ n → AreWhole schema files n
    → AreWhole segment.schema files segment.meta.documents
whole_for segment schema files n same counted whole =
    subst (λ s. AreWhole s files segment.meta.documents) (sym same) (subst (AreWhole schema files) (sym counted) whole)

module _ (given schema : Schema) (shared files : SegmentFiles) (n : ℕ) (same : given ≡ schema)
    (share : shared ≡ files) where
  -- files that are whole disagree nowhere
  pub undamaged : (e : OpenError) (component : SegmentComponent) → e ≡ Damaged component → AreWhole schema files n
      → IsWhyNotOpen given n shared e → ⊥
  undamaged e component is whole damaged =
      disagree files whole.contents (all (up_to component)) whole.spelled whole.counted
    where
      disagree : Disagree schema n files component
      disagree =
          let wrong : IsFirstWrong given n shared component = subst (IsWhyNotOpen given n shared) is damaged in
          subst (λ s. Disagree s n files component) same (subst (λ fs. Disagree given n fs component) share wrong.disagree)

      all : (cs : List SegmentComponent) → AllByRecursion (λ c. bytes_of files c ≡ bytes_of files c) cs
      all [] = tt
      all (c ∷ cs) = (refl, all cs)

-- ---- deletes that wait

told_of : (n m : ℕ) (left alive : List Bool) (told : Option (List Bool)) → n ≡ m → left ≡ alive → IsTold n left told
    → IsTold m alive told
told_of n m left alive told counted same h =
    subst (λ k. IsTold k alive told) counted (subst (λ l. IsTold n l told) same h)

module _ (law : AppliedDeletesLeaveTheAlive) (schema : Schema) (analyzer : Analyzer) (before batch after : List Operation) (first : ℕ) (place : length before ≡ first) (stamps : Bor (List ℕ)) (are : stamps.now ≡ addition_stamps first batch)
    (operations : List (DeleteOperation TermTarget)) (all : as_operations operations ≡ stamped_deletes 0 (before ++ (batch ++ after))) (at : ℕ) (passed : passed_below first (take at operations)) where
  counted : length (additions batch) ≡ length stamps.now
  counted = sym (ap length are ∙ length-additions first batch)

  -- those from a place on leave what no later operation removes
  waiting_leave : left_by (term_names (all_terms schema analyzer (additions batch))) (WithMap stamps) (length (additions batch)) (drop at operations) ≡ alive_after schema analyzer batch after
  waiting_leave = law schema analyzer before batch after stamps (take at operations) (drop at operations)
      (are ∙ ap (λ n. addition_stamps n batch) (sym place))
      (ap as_operations (take-append-drop at operations) ∙ all ∙ ap (stamped_deletes 0) (sym (append_assoc before batch after)))
      (subst (λ ss. ArePassed ss (as_operations (take at operations))) (sym are) (batch_passes first batch (take at operations) passed))

  -- where none waits all are left
  pub none_waits : drop at operations ≡ [] → IsTold (length stamps.now) (alive_after schema analyzer batch after) None
  none_waits none =
      sym waiting_leave
      ∙ ap (left_by (term_names (all_terms schema analyzer (additions batch))) (WithMap stamps) (length (additions batch))) none
      ∙ all_pass 0 (length (additions batch))
      ∙ ap (λ n. replicate n true) counted

  -- what is told of those that a reader of the batch's files finds
  pub told_alive : FilesSpellOneContents
      → (files : SegmentFiles) (reader : OpenSegment) (waiting : List (DeleteOperation TermTarget)) (told : Option (List Bool))
      → StandFor schema analyzer (additions batch) files
      → Spell schema files (contents_of reader) → reader.documents ≡ length stamps.now → waiting ≡ operations
      → IsTold reader.documents (left_by (term_names (map terms_in reader.fields)) (WithMap stamps) reader.documents (drop at waiting)) told
      → IsTold (length stamps.now) (alive_after schema analyzer batch after) told
  told_alive one files reader waiting told made spelled number same h =
      let terms : map terms_in reader.fields ≡ all_terms schema analyzer (additions batch) =
      ap (λ (c : Contents). c.terms) (one schema files (contents_of reader) made.contents spelled made.spelled) ∙ (read_of schema analyzer (additions batch) made.contents made.read).1 in
      told_of reader.documents (length stamps.now) (left_by (term_names (map terms_in reader.fields)) (WithMap stamps) reader.documents (drop at waiting)) (alive_after schema analyzer batch after) told number
      (ap (λ os. left_by (term_names (map terms_in reader.fields)) (WithMap stamps) reader.documents (drop at os)) same
      ∙ ap (λ ts. left_by (term_names ts) (WithMap stamps) reader.documents (drop at operations)) terms
      ∙ ap (λ n. left_by (term_names (all_terms schema analyzer (additions batch))) (WithMap stamps) n (drop at operations)) (number ∙ sym counted)
      ∙ waiting_leave) h

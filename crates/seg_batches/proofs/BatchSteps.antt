-- One batch: the operations that it is made of, which of its documents are alive, and why it is refused.
use Rattle.std.proofs.Common.{◌≡◌, ℕ, suc, ◌+◌, ◌-◌, ◌^◌, ◌<◌, ◌≤◌, Bool, true, List, [], ◌∷◌, ◌++◌, length, map, take, drop, Some, None, Option, refl, sym, ap, ◌∙◌, subst, arith}
use Rattle.std.specs.Prelude.{is_none, is_some, slice_get, slice_range, unwrap_or}
use Rattle.std.specs.List.{enumerate_from, list_all, take-map, drop-map}
use Rattle.std.specs.Option.{option_map, option_or}
use Rattle.std.proofs.lemmas.Bool.{and_parts, false≢true}
use Rattle.std.proofs.lemmas.Bool.Decides.{Decides-ltb}
use Rattle.std.proofs.lemmas.List.{drop-drop, length-take-le, length-map, take-append-drop}
use Rattle.std.proofs.lemmas.Option.{none-some}
use Rattle.seg_common.proofs.Lists.{unnumbered}
use Rattle.seg_values.specs.Tree.{Document}
use Rattle.seg_values.specs.declared.error.ArgumentCause.TheVariants.{Documents, Numbers}
use Rattle.seg_values.specs.declared.error.TantivyError.{TantivyError}
use Rattle.seg_values.specs.declared.error.TantivyError.TheVariants.{SchemaError, InvalidArgument, IndexAlreadyExists, OpenReadError, OpenWriteError, IoError, DataCorruption, SystemError, FieldNotFound, OutOfMemory}
use Rattle.seg_batches.specs.declared.operation.DeleteOperation.{DeleteOperation}
use Rattle.seg_model.specs.TextDocuments.{is_taken}
use Rattle.seg_model.specs.DocumentCheck.{Cause, at_place, document_refusal, first_of, unless}
use Rattle.seg_model.specs.Columns.{Columns, columns}
use Rattle.seg_model.specs.Contents.{Contents, full_reading, reading_with}
use Rattle.seg_model.specs.Fields.{Schema, Analyzer}
use Rattle.seg_model.specs.Operations.{Operation, add, delete, delete_all, additions, alive_after}
use Rattle.seg_model.specs.Refusals.{batch_refusal, count_refusal, numbers_refusal, operation_refusal, added_by, IfRefusal}
use Rattle.seg_model.specs.Stamps.{stamped_deletes}
use Rattle.seg_batches.specs.AppliedDeletes.{IsTold}
use Rattle.seg_batches.specs.Laws.{as_operations}
use Rattle.seg_check.specs.UserOperations.{operation_of}
use Rattle.seg_check.specs.declared.user_operation.UserOperation.{UserOperation}
use Rattle.seg_segment.specs.DocumentsOfFiles.{StandFor}
use Rattle.seg_segment.specs.declared.segment_files.SegmentFiles.{SegmentFiles}
use Rattle.seg_batches.specs.WrittenSegments.{LacksSome, WrittenSegment, alive_of, segment_of}
use Rattle.seg_batches.specs.BatchWriteSteps.{batch_between}
use Rattle.seg_batches.specs.declared.term_target.TermTarget.{TermTarget}
use Rattle.seg_batches.proofs.BatchTurns.{end_at}

-- ---- which documents are alive

-- each document is alive or not
pub length-alive_after : (schema : Schema) (analyzer : Analyzer) (operations after : List Operation)
    → length (alive_after schema analyzer operations after) ≡ length (additions operations)
length-alive_after schema analyzer [] after = refl
length-alive_after schema analyzer (add document ∷ operations) after =
    ap (λ n. suc n) (length-alive_after schema analyzer operations after)
length-alive_after schema analyzer (delete term ∷ operations) after =
    length-alive_after schema analyzer operations after
length-alive_after schema analyzer (delete_all terms ∷ operations) after =
    length-alive_after schema analyzer operations after

-- what is told says which are alive
told_marks : (documents : ℕ) (left : List Bool) (set : Option (List Bool)) → IsTold documents left set
    → alive_of documents set ≡ left
told_marks documents left None told = sym told
told_marks documents left (Some set) told = told.0

told_set : (documents : ℕ) (left : List Bool) (set : Option (List Bool)) → length left ≡ documents
    → IsTold documents left set → LacksSome documents set
told_set documents left None counted told = tt
told_set documents left (Some set) counted told = (ap length told.0 ∙ counted, told.1)

-- ---- refusals

none_is : {X : Type 0} (o : Option X) → is_none o ≡ true → o ≡ None
none_is None h = refl
none_is (Some x) h = absurd (false≢true h)

module _ (schema : Schema) (analyzer : Analyzer) where
  -- documents that are taken are not refused
  none_refused : (n : ℕ) (operations : List Operation)
      → list_all (is_taken schema analyzer) (additions operations) ≡ true
      → first_of (λ p. operation_refusal schema analyzer p.0 p.1) (enumerate_from n operations) ≡ None
  none_refused n [] taken = refl
  none_refused n (add document ∷ operations) taken =
      let parts = and_parts (is_taken schema analyzer document) (list_all (is_taken schema analyzer) (additions operations)) taken in
      ap (λ (o : Option Cause). option_or (at_place n o) (first_of (λ p. operation_refusal schema analyzer p.0 p.1) (enumerate_from (n + 1) operations))) (none_is (document_refusal schema analyzer document) parts.0)
      ∙ none_refused (n + 1) operations parts.1
  none_refused n (delete term ∷ operations) taken = none_refused (n + 1) operations taken
  none_refused n (delete_all terms ∷ operations) taken = none_refused (n + 1) operations taken

  -- documents that are read have columns
  have_columns : (documents : List Document) (contents : Contents)
      → full_reading schema analyzer documents ≡ Some contents → is_some (columns schema analyzer documents) ≡ true
  have_columns documents contents read = by (columns schema analyzer documents) read
    where
      by : (o : Option Columns) → option_map (reading_with schema analyzer documents) o ≡ Some contents
          → is_some o ≡ true
      by None h = absurd (none-some contents h)
      by (Some cs) h = refl

  -- a batch of few documents that are taken is refused for their numbers alone
  up_to_numbers : (first : ℕ) (operations : List Operation)
      → length (additions operations) < 2 ^ 31 → list_all (is_taken schema analyzer) (additions operations) ≡ true
      → batch_refusal schema analyzer (enumerate_from first operations) ≡ numbers_refusal schema analyzer (additions operations)
  up_to_numbers first operations few taken =
      let same : added_by (enumerate_from first operations) ≡ additions operations = ap additions (unnumbered first operations) in
      ap (λ ds. option_or (count_refusal ds) (option_or (first_of (λ p. operation_refusal schema analyzer p.0 p.1) (enumerate_from first operations)) (numbers_refusal schema analyzer ds))) same
      ∙ ap (λ b. option_or (unless b (InvalidArgument Documents)) (option_or (first_of (λ p. operation_refusal schema analyzer p.0 p.1) (enumerate_from first operations)) (numbers_refusal schema analyzer (additions operations)))) ((Decides-ltb (length (additions operations)) (2 ^ 31)).1 few)
      ∙ ap (λ o. option_or o (numbers_refusal schema analyzer (additions operations))) (none_refused first operations taken)

  -- one whose documents have no columns is
  pub mixed_refused : (first : ℕ) (operations : List Operation)
      → length (additions operations) < 2 ^ 31 → list_all (is_taken schema analyzer) (additions operations) ≡ true
      → columns schema analyzer (additions operations) ≡ None
      → batch_refusal schema analyzer (enumerate_from first operations) ≡ Some (InvalidArgument Numbers)
  mixed_refused first operations few taken none =
      up_to_numbers first operations few taken
      ∙ ap (λ (o : Option Columns). unless (is_some o) (InvalidArgument Numbers)) none

  -- a batch that is made is not refused
  pub not_refused : (first : ℕ) (operations : List Operation) (files : SegmentFiles)
      → length (additions operations) < 2 ^ 31 → list_all (is_taken schema analyzer) (additions operations) ≡ true
      → StandFor schema analyzer (additions operations) files
      → batch_refusal schema analyzer (enumerate_from first operations) ≡ None
  not_refused first operations files few taken made =
      up_to_numbers first operations few taken
      ∙ ap (λ b. unless b (InvalidArgument Numbers)) (have_columns (additions operations) made.contents made.read)

-- ---- an error before a file is made

-- what holds of an error holds of one that tells a refusal
pub if_refusal : (P : TantivyError → Type 0) (e : TantivyError) → P e → IfRefusal P e
if_refusal P (SchemaError cause) h = h
if_refusal P (InvalidArgument cause) h = h
if_refusal P IndexAlreadyExists h = tt
if_refusal P OpenReadError h = tt
if_refusal P OpenWriteError h = tt
if_refusal P IoError h = tt
if_refusal P (DataCorruption name) h = tt
if_refusal P SystemError h = tt
if_refusal P FieldNotFound h = tt
if_refusal P OutOfMemory h = tt

-- and what follows from it
pub refusal_weaker : (P Q : TantivyError → Type 0) → ((e : TantivyError) → P e → Q e) → (e : TantivyError)
    → IfRefusal P e → IfRefusal Q e
refusal_weaker P Q follows (SchemaError cause) h = follows (SchemaError cause) h
refusal_weaker P Q follows (InvalidArgument cause) h = follows (InvalidArgument cause) h
refusal_weaker P Q follows IndexAlreadyExists h = tt
refusal_weaker P Q follows OpenReadError h = tt
refusal_weaker P Q follows OpenWriteError h = tt
refusal_weaker P Q follows IoError h = tt
refusal_weaker P Q follows (DataCorruption name) h = tt
refusal_weaker P Q follows SystemError h = tt
refusal_weaker P Q follows FieldNotFound h = tt
refusal_weaker P Q follows OutOfMemory h = tt

-- ---- the operations that it is made of

-- where it ends, in the words of an index
pub ends_here : (operations : List (UserOperation Document)) (cuts : List ℕ) (at end : ℕ)
    → end ≡ unwrap_or (slice_get cuts at) (length operations) → end ≡ end_at (map operation_of operations) cuts at
ends_here operations cuts at end is = is ∙ ap (unwrap_or (slice_get cuts at)) (sym (length-map operations operation_of))

module _ (operations : List (UserOperation Document)) (first end : ℕ) where
  abbrev all : List Operation
  all = map operation_of operations

  pub range_mapped : map operation_of (slice_range operations first end) ≡ slice_range all first end
  range_mapped =
      sym (take-map operation_of (end - first) (drop first operations)) ∙ ap (take (end - first)) (sym (drop-map operation_of first operations))

  module _ (rises : first ≤ end) (within : end ≤ length operations) where
    three_parts : take first all ++ (slice_range all first end ++ drop end all) ≡ all
    three_parts =
        ap (λ l. take first all ++ (slice_range all first end ++ l)) (sym (drop-drop (end - first) first all ∙ ap (λ n. drop n all) (let n : first + (end - first) ≡ end = omega (arith, rises) in n)))
        ∙ ap (λ l. take first all ++ l) (take-append-drop (end - first) (drop first all))
        ∙ take-append-drop first all

    before_it : length (take first all) ≡ first
    before_it = length-take-le first all (omega (arith, rises, within, length-map operations operation_of))

    module _ (schema : Schema) (analyzer : Analyzer) (queue : List (DeleteOperation TermTarget))
        (waits : as_operations queue ≡ stamped_deletes 0 all) (documents : ℕ)
        (counted : documents ≡ length (additions (map operation_of (slice_range operations first end))))
        (set : Option (List Bool)) where
      -- what is told of it, whatever comes before it and after it
      abbrev pub Told : Type 0
      Told =
          (before after : List Operation) → length before ≡ first → as_operations queue ≡ stamped_deletes 0 (before ++ (map operation_of (slice_range operations first end) ++ after))
          → IsTold documents (alive_after schema analyzer (map operation_of (slice_range operations first end)) after) set

      told_here : Told → IsTold documents (alive_after schema analyzer (slice_range all first end) (drop end all)) set
      told_here told =
          subst (λ os. IsTold documents (alive_after schema analyzer os (drop end all)) set) range_mapped
          (told (take first all) (drop end all) before_it (waits ∙ sym (ap (λ os. stamped_deletes 0 (take first all ++ (os ++ drop end all))) range_mapped ∙ ap (stamped_deletes 0) three_parts)))

      counted_here : documents ≡ length (additions (slice_range all first end))
      counted_here = counted ∙ ap (λ os. length (additions os)) range_mapped

      pub set_here : Told → LacksSome documents set
      set_here told =
          told_set documents (alive_after schema analyzer (slice_range all first end) (drop end all)) set
          (length-alive_after schema analyzer (slice_range all first end) (drop end all) ∙ sym counted_here) (told_here told)

      pub segment_here : (id : ℕ) (s : WrittenSegment) → Told
          → s ≡ record { id = id; documents = documents; alive = alive_of documents set }
          → s ≡ segment_of id (batch_between schema analyzer first end all)
      segment_here id s told is =
          is
          ∙ ap (λ (marks : List Bool). (let w : WrittenSegment = record { id = id; documents = documents; alive = marks } in w)) (told_marks documents (alive_after schema analyzer (slice_range all first end) (drop end all)) set (told_here told))
          ∙ ap (λ n. (let w : WrittenSegment = record { id = id; documents = n; alive = alive_after schema analyzer (slice_range all first end) (drop end all) } in w)) counted_here

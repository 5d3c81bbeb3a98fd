-- The errors of building: which of them tell a refusal or damage, and which refusals there are.
use Rattle.std.proofs.Common.{◌≡◌, ◌≤◌, ◌<◌, ◌^◌, ℕ, List, [], ◌∷◌, length, Bool, true, false, Option, None, Some, refl, sym, ap, subst, ◌∙◌, inl, inr}
use Rattle.std.specs.Prelude.{◌⊎◌, is_none, is_some, nat_lt}
use Rattle.std.specs.List.{AllByRecursion, enumerate_from, list_all}
use Rattle.std.specs.Option.{option_or}
use Rattle.std.proofs.lemmas.Bool.{false≢true, and_parts, le-ltb, lt-ltb}
use Rattle.seg_common.proofs.Lists.{unnumbered}
use Rattle.seg_values.specs.Tree.{Document}
use Rattle.seg_values.specs.declared.error.ArgumentCause.TheVariants as argument
use Rattle.seg_values.specs.declared.error.TantivyError.{TantivyError}
use Rattle.seg_values.specs.declared.error.TantivyError.TheVariants.{SchemaError, InvalidArgument, IndexAlreadyExists, OpenReadError, OpenWriteError, IoError, DataCorruption, SystemError, FieldNotFound, OutOfMemory}
use Rattle.seg_meta.specs.MetaMeaning.{settings_of}
use Rattle.seg_meta.specs.declared.index_settings.IndexSettings.{IndexSettings}
use Rattle.seg_model.specs.TextDocuments.{is_taken}
use Rattle.seg_model.specs.DocumentCheck.{Cause, document_refusal, first_of, unless}
use Rattle.seg_model.specs.Columns.{Columns, columns}
use Rattle.seg_model.specs.Contents.{full_reading, reading_with}
use Rattle.seg_model.specs.Fields.{Schema, Analyzer}
use Rattle.seg_model.specs.Input.{Input, input_batches, input_survivors}
use Rattle.seg_model.specs.Operations.{Operation, additions, batches_from}
use Rattle.seg_model.specs.Refusals.{cut_from, count_refusal, numbers_refusal, batch_refusal, build_refusal, IfRefusal, IsRefusal, batches_error}
use Rattle.seg_model.specs.ValidInputs.{Known, FitsSegment, shape_refusal, schema_refusal, input_refusal, names_fit, settings_fit}
use Rattle.seg_check.specs.WriterStart.{start_refusal}
use Rattle.seg_open.specs.OpeningSteps.{IsNoDamage}
use Rattle.seg_check.specs.AdmittedInputs.{IsValidIf}
use Rattle.seg_model.proofs.Exports.{Fits, Taken, first_none, none_map, or_both, parts_none, taken_pass}
use Rattle.seg_segment.specs.ReadErrors.{IsReadError}
use Rattle.seg_batches.proofs.Exports.{if_refusal}

-- ---- kinds of errors

-- the reading of segments refuses nothing
pub read_unrefused : (P : TantivyError → Type 0) (e : TantivyError) → IsReadError e → IfRefusal P e
read_unrefused P (DataCorruption name) h = tt
read_unrefused P OutOfMemory h = tt
read_unrefused P OpenReadError h = tt
read_unrefused P (SchemaError cause) h = absurd h
read_unrefused P (InvalidArgument cause) h = absurd h
read_unrefused P IndexAlreadyExists h = tt
read_unrefused P OpenWriteError h = tt
read_unrefused P IoError h = tt
read_unrefused P SystemError h = tt
read_unrefused P FieldNotFound h = tt

pub read_exists : (e : TantivyError) → IsReadError e → e ≡ IndexAlreadyExists → ⊥
read_exists e h is = subst IsReadError is h

-- a refusal tells of no damage
pub refusal_undamaged : (e : TantivyError) → IsRefusal e → IsNoDamage e
refusal_undamaged (DataCorruption name) h = h
refusal_undamaged (SchemaError cause) h = tt
refusal_undamaged (InvalidArgument cause) h = tt
refusal_undamaged IndexAlreadyExists h = tt
refusal_undamaged OpenReadError h = tt
refusal_undamaged OpenWriteError h = tt
refusal_undamaged IoError h = tt
refusal_undamaged SystemError h = tt
refusal_undamaged FieldNotFound h = tt
refusal_undamaged OutOfMemory h = tt

-- ---- what the first tests leave

-- what is refused first is refused
pub first_is_refused : (known : Known) (analyzer : Analyzer) (input : Input) (e : TantivyError)
    → input_refusal known analyzer input ≡ Some e → build_refusal known analyzer input ≡ Some e
first_is_refused known analyzer input e h = over (input_refusal known analyzer input) _ h
  where
    over : (first rest : Option TantivyError) → first ≡ Some e → option_or first rest ≡ Some e
    over first rest k = ap (λ o. option_or o rest) k

-- a first error that the tests told, or out of memory
pub caused_refusal : (known : Known) (analyzer : Analyzer) (input : Input) (e : TantivyError)
    → (input_refusal known analyzer input ≡ Some e) ⊎ (e ≡ OutOfMemory)
    → IfRefusal (λ x. build_refusal known analyzer input ≡ Some x) e
caused_refusal known analyzer input e (inl is) =
    if_refusal (λ x. build_refusal known analyzer input ≡ Some x) e (first_is_refused known analyzer input e is)
caused_refusal known analyzer input e (inr is) =
    subst (IfRefusal (λ x. build_refusal known analyzer input ≡ Some x)) (sym is) tt

-- the settings are supported
unless_true : (b : Bool) (e : TantivyError) → unless b e ≡ None → b ≡ true
unless_true true e h = refl
unless_true false e h = absurd (cc h)

pub settings_suit : (known : Known) (analyzer : Analyzer) (input : Input) → input_refusal known analyzer input ≡ None
    → settings_fit input.settings ≡ true
settings_suit known analyzer input none =
    let shaped =
    or_both (shape_refusal input.operations input.cuts input.filters (input_batches analyzer input) input.ids) _ none in
    let begun = or_both (schema_refusal known input.schema input.settings) _ shaped.1 in
    let named = or_both (unless (names_fit input.schema) (InvalidArgument argument.FieldName)) _ begun.0 in
    let fits = or_both (unless (settings_fit input.settings) (InvalidArgument argument.Settings)) _ named.1 in
    unless_true (settings_fit input.settings) (InvalidArgument argument.Settings) fits.0

-- ---- a writer is made

pub starts : (known : Known) (analyzer : Analyzer) (input : Input) (settings : IndexSettings)
    → input.settings ≡ settings_of settings → input_refusal known analyzer input ≡ None
    → start_refusal known 15000 input.schema settings ≡ None
starts known analyzer input settings is none =
    let shaped =
    or_both (shape_refusal input.operations input.cuts input.filters (input_batches analyzer input) input.ids) _ none in
    let begun = or_both (schema_refusal known input.schema input.settings) _ shaped.1 in
    ap (schema_refusal known input.schema) (sym is) ∙ begun.0

-- ---- no batch is refused

module _ (schema : Schema) (analyzer : Analyzer) where
  -- documents that were taken pass the check
  each_taken : (documents : List Document) → list_all (is_taken schema analyzer) documents ≡ true
      → AllByRecursion (Taken schema analyzer) documents
  each_taken [] h = tt
  each_taken (d ∷ ds) h = (
    by (document_refusal schema analyzer d) refl,
    each_taken ds
        (and_parts (is_taken schema analyzer d) (list_all (is_taken schema analyzer) ds) h).1,
  )
    where
      by : (o : Option Cause) → document_refusal schema analyzer d ≡ o → document_refusal schema analyzer d ≡ None
      by None is = is
      by (Some r) is =
          absurd
          (false≢true
          (sym (ap is_none is) ∙ (and_parts (is_taken schema analyzer d) (list_all (is_taken schema analyzer) ds) h).0))

-- what is known of an input once its work index is written
pub record IsWritten (analyzer : Analyzer) (input : Input) : Type 0 where
  pub fit : AllByRecursion (Fits input.schema analyzer) (input_batches analyzer input)
  pub taken : list_all (is_taken input.schema analyzer) (additions input.operations) ≡ true

module _ (known : Known) (analyzer : Analyzer) (input : Input) where
  abbrev numbered : List (ℕ × Operation)
  numbered = enumerate_from 0 input.operations

  batches_unrefused : IsWritten analyzer input
      → first_of (batch_refusal input.schema analyzer) (cut_from 0 input.cuts numbered) ≡ None
  batches_unrefused w =
      first_none (batch_refusal input.schema analyzer) (cut_from 0 input.cuts numbered)
      (parts_none input.schema analyzer 0 input.cuts numbered
      (taken_pass input.schema analyzer numbered
      (subst (λ os. AllByRecursion (Taken input.schema analyzer) (additions os)) (sym (unnumbered 0 input.operations))
      (each_taken input.schema analyzer (additions input.operations) w.taken)))
      (subst
      (λ os. AllByRecursion (Fits input.schema analyzer) (batches_from input.schema analyzer 0 input.cuts os))
      (sym (unnumbered 0 input.operations)) w.fit))

  -- what is after the tests of the input
  abbrev after_input : Option TantivyError → Option TantivyError
  after_input by_batches =
      option_or by_batches
      (option_or (count_refusal (input_survivors analyzer input))
      (numbers_refusal input.schema analyzer (input_survivors analyzer input)))

  past_input : input_refusal known analyzer input ≡ None
      → build_refusal known analyzer input ≡ after_input (first_of (batch_refusal input.schema analyzer) (cut_from 0 input.cuts numbered))
  past_input none =
      ap
      (λ o. option_or o (after_input (first_of (batch_refusal input.schema analyzer) (cut_from 0 input.cuts numbered))))
      none

  -- a refusal of a batch, after the input's
  pub by_batches : (e : TantivyError) → input_refusal known analyzer input ≡ None
      → batches_error input.schema analyzer 0 input.cuts input.operations ≡ Some e
      → build_refusal known analyzer input ≡ Some e
  by_batches e none h = past_input none ∙ ap after_input h

  -- what is told of the survivors, after both
  past_batches : IsWritten analyzer input → input_refusal known analyzer input ≡ None → (few : Bool)
      → nat_lt (length (input_survivors analyzer input)) (2 ^ 31) ≡ few
      → build_refusal known analyzer input
      ≡ option_or (unless few (InvalidArgument argument.Documents))
      (numbers_refusal input.schema analyzer (input_survivors analyzer input))
  past_batches w none few is =
      past_input none
      ∙ ap after_input (batches_unrefused w)
      ∙ ap
      (λ b. option_or (unless b (InvalidArgument argument.Documents))
      (numbers_refusal input.schema analyzer (input_survivors analyzer input)))
      is

  -- they are too many
  pub by_survivors : IsWritten analyzer input → input_refusal known analyzer input ≡ None
      → 2 ^ 31 ≤ length (input_survivors analyzer input)
      → build_refusal known analyzer input ≡ Some (InvalidArgument argument.Documents)
  by_survivors w none many =
      past_batches w none false (le-ltb (length (input_survivors analyzer input)) (2 ^ 31) many)

  -- or have no columns
  pub by_numbers : IsWritten analyzer input → input_refusal known analyzer input ≡ None
      → length (input_survivors analyzer input) < 2 ^ 31
      → full_reading input.schema analyzer (input_survivors analyzer input) ≡ None
      → build_refusal known analyzer input ≡ Some (InvalidArgument argument.Numbers)
  by_numbers w none few mixed =
      past_batches w none true (lt-ltb (length (input_survivors analyzer input)) (2 ^ 31) few)
      ∙ ap (λ (o : Option Columns). unless (is_some o) (InvalidArgument argument.Numbers))
      (none_map (reading_with input.schema analyzer (input_survivors analyzer input))
      (columns input.schema analyzer (input_survivors analyzer input)) mixed)

  -- an input of which both indexes are written is valid
  pub is_valid_if : (told : Type 0) → IsWritten analyzer input → input_refusal known analyzer input ≡ None
      → (told → FitsSegment input.schema analyzer (input_survivors analyzer input)) → IsValidIf told known analyzer input
  is_valid_if told w none survivors = record {
    accepted = none;
    taken = each_taken input.schema analyzer (additions input.operations) w.taken;
    batches = w.fit;
    survivors = survivors;
  }

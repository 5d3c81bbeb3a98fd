-- An input is valid exactly where nothing refuses it.
use Rattle.std.proofs.Common.{◌≡◌, ℕ, ◌-◌, ◌^◌, ◌<◌, true, List, [], ◌∷◌, map, length, take, drop, None, Option, sym, refl, ap, subst}
use Rattle.std.specs.Prelude.{is_some}
use Rattle.std.specs.List.{enumerate_from, AllByRecursion, take-map, drop-map}
use Rattle.std.specs.Option.{option_or}
use Rattle.std.proofs.lemmas.List.{take-append-drop}
use Rattle.std.proofs.lemmas.Bool.Decides.{Decides-ltb}
use Rattle.seg_common.proofs.Lists.{all_both, all_taken, all_left, unnumbered}
use Rattle.seg_values.specs.Tree.{Document}
use Rattle.seg_values.specs.declared.error.ArgumentCause.TheVariants.{Documents, Numbers}
use Rattle.seg_values.specs.declared.error.TantivyError.{TantivyError}
use Rattle.seg_values.specs.declared.error.TantivyError.TheVariants.{InvalidArgument}
use Rattle.seg_model.specs.Fields.{Schema, Analyzer}
use Rattle.seg_model.specs.Operations.{Operation, add, delete, delete_all, additions, Batch, batches_from}
use Rattle.seg_model.specs.DocumentCheck.{Cause, document_refusal, first_of, unless}
use Rattle.seg_model.specs.Columns.{columns}
use Rattle.seg_model.specs.Input.{Input, input_survivors}
use Rattle.seg_model.specs.ValidInputs.{Known, input_refusal, FitsSegment, IsValid}
use Rattle.seg_model.specs.Refusals.{cut_from, operation_refusal, count_refusal, numbers_refusal, added_by, batch_refusal, build_refusal}
use Rattle.seg_model.specs.Laws.{ValidInputsAreNotRefused}
use Rattle.seg_model.proofs.FirstAnswers.{unless_true, or_first, or_second, or_none, map_none, none_map, first_none, none_first}

-- ---- parts of a list

module _ {X : Type 0} (P : X → Type 0) where
  all_again : (n : ℕ) (xs : List X) → AllByRecursion P (take n xs) → AllByRecursion P (drop n xs) → AllByRecursion P xs
  all_again n xs h k = subst (AllByRecursion P) (take-append-drop n xs) (all_both P (take n xs) (drop n xs) h k)

module _ (schema : Schema) (analyzer : Analyzer) where
  -- ---- documents that one segment can hold

  pub count_none : (ds : List Document) → length ds < 2 ^ 31 → count_refusal ds ≡ None
  count_none ds h = ap (λ b. unless b (InvalidArgument Documents)) ((Decides-ltb (length ds) (2 ^ 31)).1 h)

  pub none_count : (ds : List Document) → count_refusal ds ≡ None → length ds < 2 ^ 31
  none_count ds e = (Decides-ltb (length ds) (2 ^ 31)).0 (unless_true _ (InvalidArgument Documents) e)

  pub numbers_none : (ds : List Document) → is_some (columns schema analyzer ds) ≡ true → numbers_refusal schema analyzer ds ≡ None
  numbers_none ds h = ap (λ b. unless b (InvalidArgument Numbers)) h

  pub none_numbers : (ds : List Document) → numbers_refusal schema analyzer ds ≡ None → is_some (columns schema analyzer ds) ≡ true
  none_numbers ds e = unless_true _ (InvalidArgument Numbers) e

  fits : (ds : List Document) → count_refusal ds ≡ None → numbers_refusal schema analyzer ds ≡ None → FitsSegment schema analyzer ds
  fits ds c n = record { few = none_count ds c; columns = none_numbers ds n }

  -- ---- documents that pass the check

  abbrev pub Passes : ℕ × Operation → Type 0
  Passes p = operation_refusal schema analyzer p.0 p.1 ≡ None

  abbrev pub Taken : Document → Type 0
  Taken d = document_refusal schema analyzer d ≡ None

  -- documents that are all taken, operation by operation
  pub taken_step : (at : ℕ) (o : Operation) (os : List Operation) → AllByRecursion Taken (additions (o ∷ os)) → (operation_refusal schema analyzer at o ≡ None) × AllByRecursion Taken (additions os)
  taken_step at (add d) os h = (map_none (λ (c : Cause). c at) (document_refusal schema analyzer d) h.0, h.1)
  taken_step at (delete t) os h = (refl, h)
  taken_step at (delete_all ts) os h = (refl, h)

  pass_step : (at : ℕ) (o : Operation) (os : List Operation) → operation_refusal schema analyzer at o ≡ None → AllByRecursion Taken (additions os) → AllByRecursion Taken (additions (o ∷ os))
  pass_step at (add d) os e h = (none_map (λ (c : Cause). c at) (document_refusal schema analyzer d) e, h)
  pass_step at (delete t) os e h = h
  pass_step at (delete_all ts) os e h = h

  pub taken_pass : (ps : List (ℕ × Operation)) → AllByRecursion Taken (added_by ps) → AllByRecursion Passes ps
  taken_pass [] h = tt
  taken_pass (p ∷ ps) h =
      let step = taken_step p.0 p.1 (map (λ q. q.1) ps) h in
      (step.0, taken_pass ps step.1)

  pub pass_taken : (ps : List (ℕ × Operation)) → AllByRecursion Passes ps → AllByRecursion Taken (added_by ps)
  pass_taken [] h = tt
  pass_taken (p ∷ ps) h = pass_step p.0 p.1 (map (λ q. q.1) ps) h.0 (pass_taken ps h.1)

  -- ---- batch by batch

  abbrev pub Fits : Batch → Type 0
  Fits b = FitsSegment schema analyzer b.documents

  -- a part that passes and fits is not refused
  pub part_none : (part : List (ℕ × Operation)) → AllByRecursion Passes part → FitsSegment schema analyzer (added_by part) → batch_refusal schema analyzer part ≡ None
  part_none part h f =
      or_none (count_refusal (added_by part)) _ (count_none (added_by part) f.few)
      (or_none (first_of (λ p. operation_refusal schema analyzer p.0 p.1) part) _ (first_none (λ p. operation_refusal schema analyzer p.0 p.1) part h) (numbers_none (added_by part) f.columns))

  -- what is after the first test of a batch
  abbrev later : List (ℕ × Operation) → Option TantivyError
  later part = option_or (first_of (λ p. operation_refusal schema analyzer p.0 p.1) part) (numbers_refusal schema analyzer (added_by part))

  none_part : (part : List (ℕ × Operation)) → batch_refusal schema analyzer part ≡ None → AllByRecursion Passes part × FitsSegment schema analyzer (added_by part)
  none_part part e =
      let rest : later part ≡ None = or_second (count_refusal (added_by part)) (later part) e in (
        none_first (λ p. operation_refusal schema analyzer p.0 p.1) part (or_first (first_of (λ p. operation_refusal schema analyzer p.0 p.1) part) (numbers_refusal schema analyzer (added_by part)) rest),
        fits (added_by part) (or_first (count_refusal (added_by part)) (later part) e) (or_second (first_of (λ p. operation_refusal schema analyzer p.0 p.1) part) (numbers_refusal schema analyzer (added_by part)) rest),
      )

  abbrev Unrefused : List (ℕ × Operation) → Type 0
  Unrefused part = batch_refusal schema analyzer part ≡ None

  abbrev operations_of : List (ℕ × Operation) → List Operation
  operations_of ps = map (λ p. p.1) ps

  pub parts_none : (from : ℕ) (cuts : List ℕ) (ps : List (ℕ × Operation)) → AllByRecursion Passes ps → AllByRecursion Fits (batches_from schema analyzer from cuts (operations_of ps)) → AllByRecursion Unrefused (cut_from from cuts ps)
  parts_none from [] ps h f = (part_none ps h f.0, tt)
  parts_none from (cut ∷ cuts) ps h f = (
    part_none (take (cut - from) ps) (all_taken Passes (cut - from) ps h) (subst (λ os. FitsSegment schema analyzer (additions os)) (take-map (λ p. p.1) (cut - from) ps) f.0),
    parts_none cut cuts (drop (cut - from) ps) (all_left Passes (cut - from) ps h) (subst (λ os. AllByRecursion Fits (batches_from schema analyzer cut cuts os)) (drop-map (λ p. p.1) (cut - from) ps) f.1),
  )

  none_parts : (from : ℕ) (cuts : List ℕ) (ps : List (ℕ × Operation)) → AllByRecursion Unrefused (cut_from from cuts ps) → AllByRecursion Passes ps × AllByRecursion Fits (batches_from schema analyzer from cuts (operations_of ps))
  none_parts from [] ps e =
      let here = none_part ps e.0 in
      (here.0, (here.1, tt))
  none_parts from (cut ∷ cuts) ps e =
      let here = none_part (take (cut - from) ps) e.0 in
      let rest = none_parts cut cuts (drop (cut - from) ps) e.1 in (
        all_again Passes (cut - from) ps here.0 rest.0,
        (
          subst (λ os. FitsSegment schema analyzer (additions os)) (sym (take-map (λ p. p.1) (cut - from) ps)) here.1,
          subst (λ os. AllByRecursion Fits (batches_from schema analyzer cut cuts os)) (sym (drop-map (λ p. p.1) (cut - from) ps)) rest.1,
        ),
      )

module _ (known : Known) (analyzer : Analyzer) (input : Input) where
  abbrev numbered : List (ℕ × Operation)
  numbered = enumerate_from 0 input.operations

  abbrev by_input : Option TantivyError
  by_input = input_refusal known analyzer input

  abbrev by_batches : Option TantivyError
  by_batches = first_of (batch_refusal input.schema analyzer) (cut_from 0 input.cuts numbered)

  abbrev by_count : Option TantivyError
  by_count = count_refusal (input_survivors analyzer input)

  abbrev by_numbers : Option TantivyError
  by_numbers = numbers_refusal input.schema analyzer (input_survivors analyzer input)

  same : map (λ p. p.1) numbered ≡ input.operations
  same = unnumbered 0 input.operations

  valid_none : IsValid known analyzer input → build_refusal known analyzer input ≡ None
  valid_none v =
      or_none by_input (option_or by_batches (option_or by_count by_numbers)) v.accepted
      (or_none by_batches (option_or by_count by_numbers) (first_none (batch_refusal input.schema analyzer) (cut_from 0 input.cuts numbered) (parts_none input.schema analyzer 0 input.cuts numbered
      (taken_pass input.schema analyzer numbered (subst (λ os. AllByRecursion (Taken input.schema analyzer) (additions os)) (sym same) v.taken))
      (subst (λ os. AllByRecursion (Fits input.schema analyzer) (batches_from input.schema analyzer 0 input.cuts os)) (sym same) v.batches)))
      (or_none by_count by_numbers (count_none input.schema analyzer (input_survivors analyzer input) v.survivors.few) (numbers_none input.schema analyzer (input_survivors analyzer input) v.survivors.columns)))

  none_valid : build_refusal known analyzer input ≡ None → IsValid known analyzer input
  none_valid e =
      let behind_input : option_or by_batches (option_or by_count by_numbers) ≡ None = or_second by_input (option_or by_batches (option_or by_count by_numbers)) e in
      let behind_batches : option_or by_count by_numbers ≡ None = or_second by_batches (option_or by_count by_numbers) behind_input in
      let parts = none_parts input.schema analyzer 0 input.cuts numbered (none_first (batch_refusal input.schema analyzer) (cut_from 0 input.cuts numbered) (or_first by_batches (option_or by_count by_numbers) behind_input)) in
      record {
        accepted = or_first by_input (option_or by_batches (option_or by_count by_numbers)) e;
        taken = subst (λ os. AllByRecursion (Taken input.schema analyzer) (additions os)) same (pass_taken input.schema analyzer numbered parts.0);
        batches = subst (λ os. AllByRecursion (Fits input.schema analyzer) (batches_from input.schema analyzer 0 input.cuts os)) same parts.1;
        survivors = fits input.schema analyzer (input_survivors analyzer input) (or_first by_count by_numbers behind_batches) (or_second by_count by_numbers behind_batches);
      }

pub valid_inputs_are_not_refused : ValidInputsAreNotRefused
valid_inputs_are_not_refused known analyzer input = (valid_none known analyzer input, none_valid known analyzer input)

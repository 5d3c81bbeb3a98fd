-- The lengths of one document, recorded in the fields that have a text of it.
use Rattle.std.proofs.Common.{◌≡◌, ◌≢◌, ℕ, zero, suc, ◌+◌, ◌-◌, ◌≤◌, true, false, cond, List, [], ◌∷◌, ◌++◌, map, length, replicate, Some, None, Option, option_map, refl, sym, ap, ◌∙◌, subst, arith, inl, inr, ◌⊎◌, append-nil, append_assoc, length-append}
use Rattle.std.specs.Prelude.{is_some, option_and_then, IfSome}
use Rattle.std.specs.List.{slice_get, AllByRecursion}
use Rattle.std.proofs.lemmas.Bool.{false≢true, lt-leb, le-leb}
use Rattle.std.proofs.lemmas.Bool.Decides.{eqb_tells}
use Rattle.std.proofs.lemmas.List.{length-replicate, replicate_more}
use Rattle.std.proofs.lemmas.Option.{same_Some}
use Rattle.seg_common.specs.WriterGrowth.{HasGrown}
use Rattle.seg_model.specs.Norms.{length_id}
use Rattle.seg_norms.specs.FieldNorms.{at_field, filled, with_length}
use Rattle.seg_build.specs.AddedValues.{length_of}
use Rattle.seg_build.specs.DocumentLengths.{AreUpTo, lacks_length, recorded_once, length_at, with_length_of, with_lengths, with_each_length}
use Rattle.seg_build.specs.FieldState.{FieldSoFar}

-- what is kept of all fields
abbrev pub Kept : Type 0
Kept = List (Option (List ℕ))

-- ---- one field

at_place : (change : List ℕ → List ℕ) (kept : Kept) (k : ℕ) → slice_get (at_field k change kept) k ≡ option_map (option_map change) (slice_get kept k)
at_place change [] k = refl
at_place change (x ∷ xs) zero = refl
at_place change (x ∷ xs) (suc k) = at_place change xs k

at_other : (change : List ℕ → List ℕ) (kept : Kept) (j k : ℕ) → k ≢ j → slice_get (at_field j change kept) k ≡ slice_get kept k
at_other change [] j k ne = refl
at_other change (x ∷ xs) zero zero ne = absurd (ne refl)
at_other change (x ∷ xs) zero (suc k) ne = refl
at_other change (x ∷ xs) (suc j) zero ne = refl
at_other change (x ∷ xs) (suc j) (suc k) ne = at_other change xs j k (λ e. ne (ap suc e))

length-at_field : (change : List ℕ → List ℕ) (kept : Kept) (k : ℕ) → length (at_field k change kept) ≡ length kept
length-at_field change [] k = refl
length-at_field change (x ∷ xs) zero = refl
length-at_field change (x ∷ xs) (suc k) = ap suc (length-at_field change xs k)

-- the ids of a field, if it has lengths
abbrev pub ids_at : ℕ → Option Kept → Option (List ℕ)
ids_at place kept = option_and_then (λ ks. option_and_then (λ ids. ids) (slice_get ks place)) kept

module _ (id count : ℕ) where
  once_lacking : (ids : List ℕ) → lacks_length id (Some ids) ≡ true → recorded_once id count ids ≡ with_length id count ids
  once_lacking ids h = ap (λ b. cond b (with_length id count ids) ids) h

  once_there : (ids : List ℕ) → lacks_length id (Some ids) ≡ false → recorded_once id count ids ≡ ids
  once_there ids h = ap (λ b. cond b (with_length id count ids) ids) h

  -- where none is lacking all stays
  same_field : (kept : Kept) (place : ℕ) → lacks_length id (option_and_then (λ ids. ids) (slice_get kept place)) ≡ false → at_field place (recorded_once id count) kept ≡ kept
  same_field [] place h = refl
  same_field (None ∷ ks) zero h = refl
  same_field (Some ids ∷ ks) zero h = ap (λ l. Some l ∷ ks) (once_there ids h)
  same_field (k ∷ ks) (suc place) h = ap (λ l. k ∷ l) (same_field ks place h)

  pub stays_recorded : (kept : Option Kept) (place : ℕ) → lacks_length id (ids_at place kept) ≡ false → kept ≡ option_map (at_field place (recorded_once id count)) kept
  stays_recorded (Some ks) place h = ap Some (sym (same_field ks place h))
  stays_recorded None place h = refl

  -- where it is lacking it comes
  new_field : (kept : Kept) (place : ℕ) → lacks_length id (option_and_then (λ ids. ids) (slice_get kept place)) ≡ true → at_field place (with_length id count) kept ≡ at_field place (recorded_once id count) kept
  new_field [] place h = refl
  new_field (None ∷ ks) zero h = refl
  new_field (Some ids ∷ ks) zero h = ap (λ l. Some l ∷ ks) (sym (once_lacking ids h))
  new_field (k ∷ ks) (suc place) h = ap (λ l. k ∷ l) (new_field ks place h)

  pub comes_recorded : (old new : Option Kept) (place : ℕ) → lacks_length id (ids_at place old) ≡ true → HasGrown old new (at_field place (with_length id count)) → new ≡ option_map (at_field place (recorded_once id count)) old
  comes_recorded (Some ks) new place h grown =
      grown.is ∙ ap (λ l. Some (at_field place (with_length id count) l)) (sym (same_Some ks grown.kept grown.was)) ∙ ap Some (new_field ks place h)
  comes_recorded None new place h grown = absurd (false≢true (ap is_some grown.was))

-- ---- the ids of one field, filled up

length-filled : (n : ℕ) (ids : List ℕ) → length ids ≤ n → length (filled n ids) ≡ n
length-filled n ids le = omega (arith, le, length-append ids (replicate (n - length ids) 0), length-replicate {A = ℕ} (n - length ids) 0)

filled-full : (n : ℕ) (ids : List ℕ) → n ≤ length ids → filled n ids ≡ ids
filled-full n ids le = ap (λ m. ids ++ replicate m 0) (let z : n - length ids ≡ 0 = omega (arith, le) in z) ∙ append-nil ids

-- a length is recorded after as many as there are, filled up or not
filled-twice : (id count : ℕ) (ids : List ℕ) → with_length id count (filled id ids) ≡ with_length id count ids
filled-twice id count ids = ap (λ l. l ++ length_id count ∷ []) (filled-full id (filled id ids) (let z : id ≤ length (filled id ids) = omega (arith, length-append ids (replicate (id - length ids) 0), length-replicate {A = ℕ} (id - length ids) 0) in z))

no_length : length_id 0 ≡ 0
unfolding length_id
no_length = refl

module _ (id : ℕ) (ids : List ℕ) (few : length ids ≤ id) where
  length-with_length : (count : ℕ) → length (with_length id count ids) ≡ id + 1
  length-with_length count = omega (arith, length-append (filled id ids) (length_id count ∷ []), length-filled id ids few)

  -- one that is recorded fills it up
  filled-recorded : (count : ℕ) → filled (id + 1) (with_length id count ids) ≡ with_length id count ids
  filled-recorded count = filled-full (id + 1) (with_length id count ids) (omega (arith, length-with_length count))

  -- and one that isn't recorded is 0
  filled-lacking : filled (id + 1) ids ≡ with_length id 0 ids
  filled-lacking =
      ap (λ m. ids ++ replicate m 0) (let z : id + 1 - length ids ≡ id - length ids + 1 = omega (arith, few) in z)
      ∙ ap (λ l. ids ++ l) (sym (replicate_more (id - length ids) 0))
      ∙ sym (append_assoc ids (replicate (id - length ids) 0) (0 ∷ []))
      ∙ ap (λ m. filled id ids ++ m ∷ []) (sym no_length)

-- ---- fields one after another

-- none of these is the field
abbrev pub IsNoneOf : ℕ → List ℕ → Type 0
IsNoneOf k places = AllByRecursion (λ place. k ≢ place) places

module _ (id : ℕ) (fields : List FieldSoFar) where
  pub length-with_lengths : (places : List ℕ) (kept : Kept) → length (with_lengths id fields places kept) ≡ length kept
  length-with_lengths [] kept = refl
  length-with_lengths (p ∷ ps) kept = length-with_lengths ps (with_length_of id fields p kept) ∙ length-at_field (recorded_once id (length_at id (slice_get fields p))) kept p

  module _ (k : ℕ) where
    -- a change of some field leaves a length that is there
    stays : (places : List ℕ) (kept : Kept) (ids : List ℕ) → slice_get kept k ≡ Some (Some ids) → lacks_length id (Some ids) ≡ false → slice_get (with_lengths id fields places kept) k ≡ Some (Some ids)
    stays [] kept ids at there = at
    stays (p ∷ ps) kept ids at there = stays ps (with_length_of id fields p kept) ids here there
      where
        here : slice_get (with_length_of id fields p kept) k ≡ Some (Some ids)
        here = elim (eqb_tells k p) [
          | inl h ↦
              ap (λ n. slice_get (at_field n (recorded_once id (length_at id (slice_get fields n))) kept) k) (sym h.1)
              ∙ at_place (recorded_once id (length_at id (slice_get fields k))) kept k
              ∙ ap (option_map (option_map (recorded_once id (length_at id (slice_get fields k))))) at
              ∙ ap (λ l. Some (Some l)) (once_there id (length_at id (slice_get fields k)) ids there)
          | inr h ↦ at_other (recorded_once id (length_at id (slice_get fields p))) kept p k h.1 ∙ at
        ]

    -- and a field without lengths
    stays_none : (places : List ℕ) (kept : Kept) → slice_get kept k ≡ Some None → slice_get (with_lengths id fields places kept) k ≡ Some None
    stays_none [] kept at = at
    stays_none (p ∷ ps) kept at = stays_none ps (with_length_of id fields p kept) here
      where
        here : slice_get (with_length_of id fields p kept) k ≡ Some None
        here = elim (eqb_tells k p) [
          | inl h ↦
              ap (λ n. slice_get (at_field n (recorded_once id (length_at id (slice_get fields n))) kept) k) (sym h.1)
              ∙ at_place (recorded_once id (length_at id (slice_get fields k))) kept k
              ∙ ap (option_map (option_map (recorded_once id (length_at id (slice_get fields k))))) at
          | inr h ↦ at_other (recorded_once id (length_at id (slice_get fields p))) kept p k h.1 ∙ at
        ]

    -- a length that is lacking is recorded where the field is among these, and is lacking where it isn't
    abbrev Comes : List ℕ → Kept → List ℕ → Type 0
    Comes places kept ids =
        (slice_get (with_lengths id fields places kept) k ≡ Some (Some (with_length id (length_at id (slice_get fields k)) ids)))
        ⊎ ((slice_get (with_lengths id fields places kept) k ≡ Some (Some ids)) × IsNoneOf k places)

    comes : (places : List ℕ) (kept : Kept) (ids : List ℕ) → slice_get kept k ≡ Some (Some ids) → length ids ≤ id → Comes places kept ids
    comes [] kept ids at few = inr (at, tt)
    comes (p ∷ ps) kept ids at few = elim (eqb_tells k p) [
      | inl h ↦
          let count = length_at id (slice_get fields k) in
          let here : slice_get (with_length_of id fields p kept) k ≡ Some (Some (with_length id count ids)) =
          ap (λ n. slice_get (at_field n (recorded_once id (length_at id (slice_get fields n))) kept) k) (sym h.1)
          ∙ at_place (recorded_once id count) kept k
          ∙ ap (option_map (option_map (recorded_once id count))) at
          ∙ ap (λ l. Some (Some l)) (once_lacking id count ids (le-leb (length ids) id few)) in
          let there : lacks_length id (Some (with_length id count ids)) ≡ false = lt-leb (length (with_length id count ids)) id (omega (arith, length-with_length id ids few count)) in
          inl (stays ps (with_length_of id fields p kept) (with_length id count ids) here there)
      | inr h ↦ elim (comes ps (with_length_of id fields p kept) ids (at_other (recorded_once id (length_at id (slice_get fields p))) kept p k h.1 ∙ at) few) [
        | inl there ↦ inl there
        | inr lacks ↦ inr (lacks.0, (h.1, lacks.1))
      ]
    ]

-- ---- all fields

-- what is kept of a field before a document and after it
pub record IsRecordedAt (id k : ℕ) (field : FieldSoFar) (o : Option (List ℕ)) (now : Kept) : Type 0 where
  pub new : Option (List ℕ)
  pub at : slice_get now k ≡ Some new
  pub is : option_map (filled (id + 1)) new ≡ option_map (with_length id (length_of id field)) o
  pub up_to : IfSome new (λ ids. length ids ≤ id + 1)

module _ (id : ℕ) (fields : List FieldSoFar) (places : List ℕ) (kept : Kept) (k : ℕ) (field : FieldSoFar) (at_f : slice_get fields k ≡ Some field) (none : IsNoneOf k places → length_of id field ≡ 0) where
  pub recorded_at : (o : Option (List ℕ)) → slice_get kept k ≡ Some o → IfSome o (λ ids. length ids ≤ id) → IsRecordedAt id k field o (with_lengths id fields places kept)
  recorded_at None at few = record { new = None; at = stays_none id fields k places kept at; is = refl; up_to = tt }
  recorded_at (Some ids) at few = elim (comes id fields k places kept ids at few) [
    | inl there ↦
        let count : length_at id (slice_get fields k) ≡ length_of id field = ap (length_at id) at_f in
        record {
          new = Some (with_length id (length_at id (slice_get fields k)) ids);
          at = there;
          is = ap Some (filled-recorded id ids few (length_at id (slice_get fields k)) ∙ ap (λ n. with_length id n ids) count);
          up_to = omega (arith, length-with_length id ids few (length_at id (slice_get fields k)));
        }
    | inr lacks ↦
        record {
          new = Some ids;
          at = lacks.0;
          is = ap Some (filled-lacking id ids few ∙ ap (λ n. with_length id n ids) (sym (none lacks.1)));
          up_to = omega (arith, few);
        }
  ]

-- the ids after a document, filled up, are those before it with its lengths
pub record AreRecorded (id : ℕ) (fields : List FieldSoFar) (old new : Kept) : Type 0 where
  pub up_to : AreUpTo (id + 1) new
  pub filled : map (option_map (filled (id + 1))) new ≡ with_each_length id fields old

pub all_recorded : (id : ℕ) (fields : List FieldSoFar) (old new : Kept) → length fields ≡ length old → length new ≡ length old
    → ((k : ℕ) (f : FieldSoFar) (o : Option (List ℕ)) → slice_get fields k ≡ Some f → slice_get old k ≡ Some o → IsRecordedAt id k f o new)
    → AreRecorded id fields old new
all_recorded id [] [] [] as_many same h = record { up_to = tt; filled = refl }
all_recorded id [] [] (n ∷ new) as_many same h = absurd (let z : ⊥ = omega (arith, same) in z)
all_recorded id [] (o ∷ old) new as_many same h = absurd (let z : ⊥ = omega (arith, as_many) in z)
all_recorded id (f ∷ fs) [] new as_many same h = absurd (let z : ⊥ = omega (arith, as_many) in z)
all_recorded id (f ∷ fs) (o ∷ old) [] as_many same h = absurd (let z : ⊥ = omega (arith, same) in z)
all_recorded id (f ∷ fs) (o ∷ old) (n ∷ new) as_many same h =
    let first = h 0 f o refl refl in
    let here : first.new ≡ n = sym (same_Some n first.new first.at) in
    let rest = all_recorded id fs old new (omega (arith, as_many)) (omega (arith, same)) (λ k g p at_f at_o.
    let r = h (suc k) g p at_f at_o in record { new = r.new; at = r.at; is = r.is; up_to = r.up_to }) in
    record {
      up_to = (subst (λ x. IfSome x (λ ids. length ids ≤ id + 1)) here first.up_to, rest.up_to);
      filled = λ i. (ap (option_map (filled (id + 1))) (sym here) ∙ first.is) i ∷ rest.filled i;
    }

-- lengths are recorded after ids that were filled up as after those that were not
pub lengths_filled : (id : ℕ) (fields : List FieldSoFar) (kept : Kept) → length fields ≡ length kept → with_each_length id fields kept ≡ with_each_length id fields (map (option_map (filled id)) kept)
lengths_filled id [] [] same = refl
lengths_filled id [] (k ∷ ks) same = absurd (let z : ⊥ = omega (arith, same) in z)
lengths_filled id (f ∷ fs) [] same = refl
lengths_filled id (f ∷ fs) (None ∷ ks) same = ap (λ l. None ∷ l) (lengths_filled id fs ks (omega (arith, same)))
lengths_filled id (f ∷ fs) (Some ids ∷ ks) same = λ i. Some (sym (filled-twice id (length_of id f) ids) i) ∷ lengths_filled id fs ks (omega (arith, same)) i

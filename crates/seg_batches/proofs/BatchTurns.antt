-- The batches of operations, one after the other: where each begins and ends, and what it leaves to those after it.
use Rattle.std.proofs.Common.{◌≡◌, ℕ, zero, suc, ◌+◌, ◌-◌, ◌<◌, ◌≤◌, true, List, [], ◌∷◌, length, take, drop, Some, None, Option, refl, sym, ap, ◌∙◌, subst, inl, inr, arith}
use Rattle.std.specs.Prelude.{◌⊎◌, ◌&&◌, nat_le, unwrap_or, slice_range}
use Rattle.std.specs.List.{list_all, slice_get, enumerate_from}
use Rattle.std.proofs.lemmas.Bool.{and_parts, le-leb, leb-true}
use Rattle.std.proofs.lemmas.Option.{slice_get_within}
use Rattle.std.proofs.lemmas.List.{take_all, drop_all, drop-drop, length-drop}
use Rattle.seg_common.proofs.Lists.{drop-slice_get}
use Rattle.seg_model.specs.Fields.{Schema, Analyzer}
use Rattle.seg_model.specs.Operations.{Operation, Batch, additions, alive_after, batches_from}
use Rattle.seg_model.specs.Refusals.{cut_from}
use Rattle.seg_model.specs.ValidInputs.{never_falls, cuts_fit}
use Rattle.seg_batches.specs.BatchWriteSteps.{batch_between}
use Rattle.seg_batches.proofs.ListMembers.{not_within}

-- members with their numbers, in two parts
take-enumerate : {X : Type 0} (n k : ℕ) (xs : List X) → take n (enumerate_from k xs) ≡ enumerate_from k (take n xs)
take-enumerate zero k xs = refl
take-enumerate (suc n) k [] = refl
take-enumerate (suc n) k (x ∷ xs) = ap (λ l. (k, x) ∷ l) (take-enumerate n (k + 1) xs)

drop-enumerate : {X : Type 0} (n k : ℕ) (xs : List X)
    → drop n (enumerate_from k xs) ≡ enumerate_from (k + n) (drop n xs)
drop-enumerate zero k xs = ap (λ m. enumerate_from m xs) (let z : k ≡ k + 0 = omega arith in z)
drop-enumerate (suc n) k [] = refl
drop-enumerate (suc n) k (x ∷ xs) =
    drop-enumerate n (k + 1) xs ∙ ap (λ m. enumerate_from m (drop n xs)) (let z : k + 1 + n ≡ k + suc n = omega arith in z)

-- ---- places

-- where a batch ends after this many cuts: at the next cut, or at the end
abbrev pub end_at : List Operation → List ℕ → ℕ → ℕ
end_at operations cuts at = unwrap_or (slice_get cuts at) (length operations)

-- a batch begins here after this many cuts: the others don't fall, nor pass the end, which is where all of them are past
pub record IsPlace (operations : List Operation) (cuts : List ℕ) (at first : ℕ) : Type 0 where
  pub within : first ≤ length operations
  pub rising : never_falls (first ∷ drop at cuts) ≡ true
  pub fit : list_all (λ cut. nat_le cut (length operations)) (drop at cuts) ≡ true
  pub ends : length cuts < at → first ≡ length operations

never_falls-zero : (cuts : List ℕ) → never_falls cuts ≡ true → never_falls (0 ∷ cuts) ≡ true
never_falls-zero [] h = refl
never_falls-zero (cut ∷ cuts) h = ap (λ b. b && never_falls (cut ∷ cuts)) (le-leb 0 cut (omega arith)) ∙ h

pub first_place : (operations : List Operation) (cuts : List ℕ) → cuts_fit operations cuts ≡ true
    → IsPlace operations cuts 0 0
first_place operations cuts h =
    let parts = and_parts (never_falls cuts) (list_all (λ cut. nat_le cut (length operations)) cuts) h in
    record { within = omega arith; rising = never_falls-zero cuts parts.0; fit = parts.1; ends = λ later. absurd (omega (arith, later)) }

-- ---- one batch, and those after it

-- the batches from here on
abbrev pub batches_left : Schema → Analyzer → List Operation → List ℕ → ℕ → ℕ → List Batch
batches_left schema analyzer operations cuts at first =
    batches_from schema analyzer first (drop at cuts) (drop first operations)

-- the parts of the operations that are left, each with its places
abbrev pub parts_left : List Operation → List ℕ → ℕ → ℕ → List (List (ℕ × Operation))
parts_left operations cuts at first = cut_from first (drop at cuts) (enumerate_from first (drop first operations))

-- the part of this one
abbrev pub part_here : List Operation → ℕ → ℕ → List (ℕ × Operation)
part_here operations first end = enumerate_from first (slice_range operations first end)

-- a batch is the first of those that are left, and the others begin where it ends; or it is the last of all
abbrev pub IsFirstLeft : Schema → Analyzer → List Operation → List ℕ → ℕ → ℕ → ℕ → Type 0
IsFirstLeft schema analyzer operations cuts at first end =
    ((at < length cuts) × (batches_left schema analyzer operations cuts at first ≡ batch_between schema analyzer first end operations ∷ batches_left schema analyzer operations cuts (at + 1) end) × (parts_left operations cuts at first ≡ part_here operations first end ∷ parts_left operations cuts (at + 1) end))
    ⊎ ((length cuts ≤ at) × (batches_left schema analyzer operations cuts at first ≡ batch_between schema analyzer first end operations ∷ []) × (parts_left operations cuts at first ≡ part_here operations first end ∷ []))

-- what there is to say about a batch that begins and ends here
pub record Turn (schema : Schema) (analyzer : Analyzer) (operations : List Operation) (cuts : List ℕ) (at first end : ℕ)
    : Type 0 where
  pub rises : first ≤ end
  pub next : IsPlace operations cuts (at + 1) end
  pub is_first : IsFirstLeft schema analyzer operations cuts at first end

module _ (schema : Schema) (analyzer : Analyzer) (operations : List Operation) (cuts : List ℕ) (at first : ℕ)
    (is : IsPlace operations cuts at first) where
  -- up to the next cut
  module _ (cut : ℕ) (found : slice_get cuts at ≡ Some cut) where
    cut_here : drop at cuts ≡ cut ∷ drop (at + 1) cuts
    cut_here = drop-slice_get cuts at cut found

    rises_there : (first ≤ cut) × (never_falls (cut ∷ drop (at + 1) cuts) ≡ true)
    rises_there =
        let parts = and_parts (nat_le first cut) (never_falls (cut ∷ drop (at + 1) cuts)) (subst (λ l. never_falls (first ∷ l) ≡ true) cut_here is.rising) in
        (leb-true first cut parts.0, parts.1)

    fits_there : (cut ≤ length operations) × (list_all (λ c. nat_le c (length operations)) (drop (at + 1) cuts) ≡ true)
    fits_there =
        let parts = and_parts (nat_le cut (length operations)) (list_all (λ c. nat_le c (length operations)) (drop (at + 1) cuts)) (subst (λ l. list_all (λ c. nat_le c (length operations)) l ≡ true) cut_here is.fit) in
        (leb-true cut (length operations) parts.0, parts.1)

    size : first + (cut - first) ≡ cut
    size = omega (arith, rises_there.0)

    later : drop (cut - first) (drop first operations) ≡ drop cut operations
    later = drop-drop (cut - first) first operations ∙ ap (λ n. drop n operations) size

    after_numbered : drop (cut - first) (enumerate_from first (drop first operations)) ≡ enumerate_from cut (drop cut operations)
    after_numbered =
        drop-enumerate (cut - first) first (drop first operations) ∙ ap (λ k. enumerate_from k (drop (cut - first) (drop first operations))) size ∙ ap (enumerate_from cut) later

    to_cut : Turn schema analyzer operations cuts at first cut
    to_cut = record {
      rises = rises_there.0;
      next = record {
        within = fits_there.0;
        rising = rises_there.1;
        fit = fits_there.1;
        ends = λ past. absurd (omega (arith, past, slice_get_within cuts at cut found));
      };
      is_first = inl (
        slice_get_within cuts at cut found,
        ap (λ l. batches_from schema analyzer first l (drop first operations)) cut_here
            ∙ ap (λ (os : List Operation). (let b : Batch = record { documents = additions (slice_range operations first cut); alive = alive_after schema analyzer (slice_range operations first cut) os } in b) ∷ batches_from schema analyzer cut (drop (at + 1) cuts) os) later,
        ap (λ l. cut_from first l (enumerate_from first (drop first operations))) cut_here
            ∙ ap (λ part. part ∷ cut_from cut (drop (at + 1) cuts) (drop (cut - first) (enumerate_from first (drop first operations)))) (take-enumerate (cut - first) first (drop first operations))
            ∙ ap (λ rest. part_here operations first cut ∷ cut_from cut (drop (at + 1) cuts) rest) after_numbered,
      );
    }

  -- up to the end
  module _ (none : slice_get cuts at ≡ None) where
    are_past : length cuts ≤ at
    are_past = not_within cuts at none

    gone : drop (at + 1) cuts ≡ []
    gone = drop_all (at + 1) cuts (omega (arith, are_past))

    takes_all : slice_range operations first (length operations) ≡ drop first operations
    takes_all =
        take_all (length operations - first) (drop first operations) (omega (arith, length-drop first operations))

    leaves_none : drop (length operations) operations ≡ []
    leaves_none = drop_all (length operations) operations (omega arith)

    to_end : Turn schema analyzer operations cuts at first (length operations)
    to_end = record {
      rises = is.within;
      next = record {
        within = omega arith;
        rising = ap (λ l. never_falls (length operations ∷ l)) gone;
        fit = ap (λ l. list_all (λ c. nat_le c (length operations)) l) gone;
        ends = λ past. refl;
      };
      is_first = inr (
        are_past,
        ap (λ l. batches_from schema analyzer first l (drop first operations)) (drop_all at cuts are_past)
            ∙ ap (λ (os : List Operation). (let b : Batch = record { documents = additions os; alive = alive_after schema analyzer os [] } in b) ∷ []) (sym takes_all)
            ∙ ap (λ (os : List Operation). (let b : Batch = record { documents = additions (slice_range operations first (length operations)); alive = alive_after schema analyzer (slice_range operations first (length operations)) os } in b) ∷ []) (sym leaves_none),
        ap (λ l. cut_from first l (enumerate_from first (drop first operations))) (drop_all at cuts are_past)
            ∙ ap (λ (os : List Operation). enumerate_from first os ∷ []) (sym takes_all),
      );
    }

  pub turn_here : (end : ℕ) → end ≡ end_at operations cuts at → Turn schema analyzer operations cuts at first end
  turn_here end ends = subst (Turn schema analyzer operations cuts at first) (sym ends) (by (slice_get cuts at) refl)
    where
      by : (o : Option ℕ) → slice_get cuts at ≡ o
          → Turn schema analyzer operations cuts at first (unwrap_or o (length operations))
      by None none = to_end none
      by (Some cut) found = to_cut cut found

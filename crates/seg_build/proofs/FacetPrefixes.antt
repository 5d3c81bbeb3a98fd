-- The prefixes of a facet, as they come.
use Rattle.std.proofs.Common.{◌≡◌, ℕ, zero, suc, ◌+◌, ◌<◌, ◌≤◌, List, [], ◌∷◌, ◌++◌, map, length, take, drop, Some, None, Option, sym, refl, ap, ◌∙◌, arith, length-append}
use Rattle.std.specs.Prelude.{is_some}
use Rattle.std.specs.List.{slice_get}
use Rattle.std.proofs.lemmas.Bool.{false≢true}
use Rattle.std.proofs.lemmas.List.{map-append}
use Rattle.std.proofs.lemmas.Option.{same_Some}
use Rattle.seg_common.proofs.Lists.{drop-slice_get}
use Rattle.seg_model.specs.Occurrences.{at_zero, prefixes_from, facet_prefixes}
use Rattle.seg_model.specs.DocumentTerms.{Terms}
use Rattle.seg_terms.specs.AddedOccurrences.{with_occurrences}
use Rattle.seg_build.specs.FacetPrefixes.{ended, prefix_at}
use Rattle.seg_build.proofs.ListElements.{element_at}
use Rattle.seg_build.proofs.GrownTerms.{with_occurrences-append}

-- what is left at a place
abbrev pub left_at : List ℕ → ℕ → List (List ℕ)
left_at encoded i = prefixes_from (take i encoded) (drop i encoded)

take-one : (xs : List ℕ) (i x : ℕ) → slice_get xs i ≡ Some x → take (suc i) xs ≡ take i xs ++ x ∷ []
take-one [] i x at = absurd (false≢true (ap is_some at))
take-one (y ∷ ys) zero x at = ap (λ z. z ∷ []) (same_Some y x at)
take-one (y ∷ ys) (suc i) x at = ap (λ l. y ∷ l) (take-one ys i x at)

take-whole : (xs : List ℕ) (i : ℕ) → length xs ≤ i → take i xs ≡ xs
take-whole [] zero past = refl
take-whole [] (suc i) past = refl
take-whole (x ∷ xs) zero past = absurd (let none : ⊥ = omega (arith, past) in none)
take-whole (x ∷ xs) (suc i) past = ap (λ l. x ∷ l) (take-whole xs i (omega (arith, past)))

drop-whole : (xs : List ℕ) (i : ℕ) → length xs ≤ i → drop i xs ≡ []
drop-whole [] zero past = refl
drop-whole [] (suc i) past = refl
drop-whole (x ∷ xs) zero past = absurd (let none : ⊥ = omega (arith, past) in none)
drop-whole (x ∷ xs) (suc i) past = drop-whole xs i (omega (arith, past))

by_byte : (before rest : List ℕ) (b : ℕ) → prefixes_from before (b ∷ rest) ≡ ended before (Some b) ++ prefixes_from (before ++ b ∷ []) rest
by_byte before rest zero = refl
by_byte before rest (suc b) = refl

module _ (encoded : List ℕ) (i : ℕ) (lt : i < length encoded) where
  left_step : left_at encoded i ≡ prefix_at encoded i ++ left_at encoded (i + 1)
  left_step =
      let own = element_at encoded i lt in
      let next : suc i ≡ i + 1 = omega arith in
      ap (prefixes_from (take i encoded)) (drop-slice_get encoded i own.element own.at)
      ∙ by_byte (take i encoded) (drop (i + 1) encoded) own.element
      ∙ ap (λ o. ended (take i encoded) o ++ prefixes_from (take i encoded ++ own.element ∷ []) (drop (i + 1) encoded)) (sym own.at)
      ∙ ap (λ l. prefix_at encoded i ++ prefixes_from l (drop (i + 1) encoded)) (sym (take-one encoded i own.element own.at) ∙ ap (λ n. take n encoded) next)

  -- one turn of the loop over the places
  pub prefix_turn : (document : ℕ) (terms after : Terms) → after ≡ with_occurrences terms document (map at_zero (prefix_at encoded i)) → with_occurrences after document (map at_zero (left_at encoded (i + 1))) ≡ with_occurrences terms document (map at_zero (left_at encoded i))
  prefix_turn document terms after is =
      ap (λ t. with_occurrences t document (map at_zero (left_at encoded (i + 1)))) is
      ∙ sym (with_occurrences-append terms document (map at_zero (prefix_at encoded i)) (map at_zero (left_at encoded (i + 1))))
      ∙ ap (with_occurrences terms document) (sym (map-append at_zero (prefix_at encoded i) (left_at encoded (i + 1))) ∙ ap (map at_zero) (sym left_step))

  pub count_turn : length (left_at encoded i) ≡ length (prefix_at encoded i) + length (left_at encoded (i + 1))
  count_turn = ap length left_step ∙ length-append (prefix_at encoded i) (left_at encoded (i + 1))

pub few_more : (encoded : List ℕ) (i : ℕ) → length (prefix_at encoded i) ≤ 1
few_more encoded i = by (slice_get encoded i)
  where
    by : (o : Option ℕ) → length (ended (take i encoded) o) ≤ 1
    by (Some zero) = omega arith
    by (Some (suc n)) = omega arith
    by None = omega arith

-- after the last place
pub left_end : (encoded : List ℕ) (i : ℕ) → length encoded ≤ i → left_at encoded i ≡ encoded ∷ []
left_end encoded i past = ap (prefixes_from (take i encoded)) (drop-whole encoded i past) ∙ ap (λ l. l ∷ []) (take-whole encoded i past)

-- the prefixes of a facet with steps
pub with_steps : (encoded : List ℕ) → 0 < length encoded → facet_prefixes encoded ≡ [] ∷ left_at encoded 0
with_steps [] some = absurd (let none : ⊥ = omega (arith, some) in none)
with_steps (b ∷ encoded) some = refl

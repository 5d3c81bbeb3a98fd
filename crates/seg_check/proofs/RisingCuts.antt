-- Cuts that never fall, one after another.
use Rattle.std.proofs.Common.{◌≡◌, ℕ, ◌+◌, ◌<◌, ◌≤◌, Bool, true, false, List, [], ◌∷◌, length, map, drop, get_or, refl, ap, sym, ◌∙◌, arith}
use Rattle.std.specs.Prelude.{◌&&◌, nat_le}
use Rattle.std.specs.List.{list_all}
use Rattle.std.proofs.lemmas.Bool.Decides.{nat_tests}
use Rattle.std.proofs.lemmas.List.{length-map, drop_more}
use Rattle.std.proofs.lemmas.Bool.{and_parts, leb-true}
use Rattle.seg_model.specs.ValidInputs.{never_falls}

-- no cut is below the one before it or past the end, nor is the first below `from`
abbrev pub fit_from : ℕ → ℕ → List ℕ → Bool
fit_from end from [] = true
fit_from end from (cut ∷ cuts) = (nat_le from cut && nat_le cut end) && fit_from end cut cuts

regrouped : (a b c d : Bool) → ((a && b) && (c && d)) ≡ ((a && c) && (b && d))
regrouped true true c d = refl
regrouped true false true d = refl
regrouped true false false d = refl
regrouped false b c d = refl

after_one : (end cut : ℕ) (cuts : List ℕ) → fit_from end cut cuts ≡ (never_falls (cut ∷ cuts) && list_all (λ c. nat_le c end) cuts)
after_one end cut [] = refl
after_one end cut (next ∷ cuts) =
    ap (λ b. (nat_le cut next && nat_le next end) && b) (after_one end next cuts)
    ∙ regrouped (nat_le cut next) (nat_le next end) (never_falls (next ∷ cuts)) (list_all (λ c. nat_le c end) cuts)

from_zero : (end : ℕ) (cuts : List ℕ) → fit_from end 0 cuts ≡ (never_falls cuts && list_all (λ c. nat_le c end) cuts)
from_zero end [] = refl
from_zero end (cut ∷ cuts) =
    ap (λ b. (b && nat_le cut end) && fit_from end cut cuts) (let e : nat_le 0 cut ≡ true = grind (arith, nat_tests) in e)
    ∙ ap (λ b. nat_le cut end && b) (after_one end cut cuts)
    ∙ regrouped true (nat_le cut end) (never_falls (cut ∷ cuts)) (list_all (λ c. nat_le c end) cuts)

-- that is what is asked of cuts
pub all_fit : {X Y : Type 0} (f : X → Y) (operations : List X) (cuts : List ℕ) → fit_from (length operations) 0 cuts ≡ (never_falls cuts && list_all (λ c. nat_le c (length (map f operations))) cuts)
all_fit f operations cuts = from_zero (length operations) cuts ∙ ap (λ end. never_falls cuts && list_all (λ c. nat_le c end) cuts) (sym (length-map operations f))

-- one cut, where what is left fits
pub record Fits (end from cut : ℕ) (cuts : List ℕ) : Type 0 where
  pub rises : from ≤ cut
  pub within : cut ≤ end
  pub following : fit_from end cut cuts ≡ true

first_fits : (end from cut : ℕ) (cuts : List ℕ) → fit_from end from (cut ∷ cuts) ≡ true → Fits end from cut cuts
first_fits end from cut cuts h =
    let both = and_parts (nat_le from cut && nat_le cut end) (fit_from end cut cuts) h in
    let one = and_parts (nat_le from cut) (nat_le cut end) both.0 in
    record { rises = leb-true from cut one.0; within = leb-true cut end one.1; following = both.1 }

pub one_cut : (end from : ℕ) (cuts : List ℕ) (n m cut : ℕ) → n < length cuts → m ≡ n + 1 → cut ≡ get_or cuts n cut → fit_from end from (drop n cuts) ≡ true → Fits end from cut (drop m cuts)
one_cut end from cuts n m cut lt next is h =
    first_fits end from cut (drop m cuts) (ap (fit_from end from) (sym (drop_more cuts n cut lt ∙ ap (λ x. x ∷ drop (n + 1) cuts) (sym is) ∙ ap (λ k. cut ∷ drop k cuts) (sym next))) ∙ h)

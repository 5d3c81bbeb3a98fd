-- The place of each number, with one more told.
use Rattle.std.proofs.Common.{◌≡◌, ◌≢◌, ℕ, ◌+◌, ◌<◌, List, length, get_or, set, sym, subst, ◌∙◌, arith, inl, inr}
use Rattle.std.specs.Prelude.{All, nat_eq}
use Rattle.std.specs.List.{IsDistinct}
use Rattle.std.proofs.lemmas.Bool.{cases_lt, false≢true}
use Rattle.std.proofs.lemmas.Bool.Decides.{Decides-eqb}
use Rattle.std.proofs.lemmas.List.{get_or-set_other, get_or-set_same}
use Rattle.std.proofs.lemmas.Map.Keys.{apart_from_distinct}

pub placed_more : (numbers ordinals : List ℕ) (place : ℕ) → length ordinals ≡ length numbers
    → All (λ n. n < length numbers) numbers → IsDistinct nat_eq numbers → place < length numbers
    → ((k : ℕ) → k < place → get_or ordinals (get_or numbers k 0) 0 ≡ k)
    → (k : ℕ) → k < place + 1 → get_or (set ordinals (get_or numbers place 0) place) (get_or numbers k 0) 0 ≡ k
placed_more numbers ordinals place many below distinct lt before k h =
    elim (cases_lt k place) [
      | inl earlier ↦
          let apart : get_or numbers k 0 ≢ get_or numbers place 0 =
          λ e. false≢true (sym (apart_from_distinct nat_eq numbers k place 0 distinct earlier lt)
          ∙ (Decides-eqb (get_or numbers k 0) (get_or numbers place 0)).1 e) in
          get_or-set_other ordinals (get_or numbers place 0) (get_or numbers k 0) place 0 apart ∙ before k earlier
      | inr le ↦
          let same : place ≡ k = omega (arith, le, h) in
          let within : get_or numbers place 0 < length ordinals = omega (arith, below place 0 lt, many) in
          subst (λ (m : ℕ). get_or (set ordinals (get_or numbers place 0) place) (get_or numbers m 0) 0 ≡ m) same
          (get_or-set_same ordinals (get_or numbers place 0) place 0 within)
    ]

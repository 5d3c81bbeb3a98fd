-- The documents that are left, one by one.
use Rattle.std.proofs.Common.{◌≡◌, ℕ, zero, suc, ◌+◌, ◌-◌, ◌≤◌, ◌<◌, Bool, true, false, List, [], ◌∷◌, length, drop, get_or, Option, Some, None, refl, sym, ap, ◌∙◌, arith, add-one}
use Rattle.std.specs.List.{slice_get}
use Rattle.std.proofs.lemmas.Bool.{false≢true}
use Rattle.std.proofs.lemmas.Option.{none-some, same_Some}
use Rattle.seg_model.specs.Operations.{kept}
use Rattle.seg_store.specs.AliveDocuments.{alive_from, alive_at, IsFirstAlive}

module _ {X : Type 0} where
  kept_none : (set : List Bool) → kept {X = X} set [] ≡ []
  kept_none [] = refl
  kept_none (b ∷ bs) = refl

  nothing_after : (documents : List X) (n : ℕ) → length documents ≤ n → drop n documents ≡ []
  nothing_after [] zero le = refl
  nothing_after [] (suc n) le = refl
  nothing_after (x ∷ xs) zero le = absurd (omega (arith, le))
  nothing_after (x ∷ xs) (suc n) le = nothing_after xs n (omega (arith, le))

  -- none are left after the last
  pub none_after : (set : Option (List Bool)) (documents : List X) (n : ℕ) → length documents ≤ n → alive_from n set documents ≡ []
  none_after None documents n le = nothing_after documents n le
  none_after (Some set) documents n le = ap (kept (drop n set)) (nothing_after documents n le) ∙ kept_none (drop n set)

  dead_in : (set : List Bool) (documents : List X) (n : ℕ) → get_or set n false ≡ false → kept (drop n set) (drop n documents) ≡ kept (drop (suc n) set) (drop (suc n) documents)
  dead_in [] documents zero is = refl
  dead_in [] documents (suc n) is = refl
  dead_in (b ∷ bs) [] zero is = sym (kept_none bs)
  dead_in (b ∷ bs) [] (suc n) is = kept_none (drop n bs) ∙ sym (kept_none (drop (suc n) bs))
  dead_in (b ∷ bs) (x ∷ xs) zero is = rw is refl
  dead_in (b ∷ bs) (x ∷ xs) (suc n) is = dead_in bs xs n is

  dead : (set : Option (List Bool)) (documents : List X) (n : ℕ) → alive_at set n ≡ false → alive_from n set documents ≡ alive_from (suc n) set documents
  dead None documents n is = absurd (false≢true (sym is))
  dead (Some set) documents n is = dead_in set documents n is

  -- dead documents are passed over
  pub passed_over : (set : Option (List Bool)) (documents : List X) (n d : ℕ) → ((k : ℕ) → n ≤ k → k < n + d → alive_at set k ≡ false) → alive_from n set documents ≡ alive_from (n + d) set documents
  passed_over set documents n zero dead_there = let same : n ≡ n + 0 = omega arith in ap (λ m. alive_from m set documents) same
  passed_over set documents n (suc d) dead_there =
      let same : suc n + d ≡ n + suc d = omega arith in
      dead set documents n (dead_there n (omega arith) (omega arith))
      ∙ passed_over set documents (suc n) d (λ k from to. dead_there k (omega (arith, from)) (omega (arith, to)))
      ∙ ap (λ m. alive_from m set documents) same

  first_of : (documents : List X) (n : ℕ) (x : X) → slice_get documents n ≡ Some x → drop n documents ≡ x ∷ drop (suc n) documents
  first_of [] n x is = absurd (none-some x is)
  first_of (y ∷ ys) zero x is = ap (λ z. z ∷ ys) (same_Some y x is)
  first_of (y ∷ ys) (suc n) x is = first_of ys n x is

  alive_in : (set : List Bool) (documents : List X) (n : ℕ) (x : X) → get_or set n false ≡ true → slice_get documents n ≡ Some x → kept (drop n set) (drop n documents) ≡ x ∷ kept (drop (suc n) set) (drop (suc n) documents)
  alive_in [] documents n x alive is = absurd (false≢true alive)
  alive_in (b ∷ bs) [] n x alive is = absurd (none-some x is)
  alive_in (b ∷ bs) (y ∷ ys) zero x alive is = rw alive (ap (λ z. z ∷ kept bs ys) (same_Some y x is))
  alive_in (b ∷ bs) (y ∷ ys) (suc n) x alive is = alive_in bs ys n x alive is

  one : (set : Option (List Bool)) (documents : List X) (n : ℕ) (x : X) → alive_at set n ≡ true → slice_get documents n ≡ Some x → alive_from n set documents ≡ x ∷ alive_from (suc n) set documents
  one None documents n x alive is = first_of documents n x is
  one (Some set) documents n x alive is = alive_in set documents n x alive is

  -- the first that is alive is the first of those that are left
  pub next_alive : (set : Option (List Bool)) (documents : List X) (from total doc : ℕ) (x : X) → IsFirstAlive set from total doc → slice_get documents doc ≡ Some x → alive_from from set documents ≡ x ∷ alive_from (doc + 1) set documents
  next_alive set documents from total doc x f is =
      let far : from + (doc - from) ≡ doc = omega (arith, f.above) in
      passed_over set documents from (doc - from) (λ k above below. f.first k above (omega (arith, below, far)))
      ∙ ap (λ m. alive_from m set documents) far ∙ one set documents doc x f.alive is
      ∙ ap (λ m. x ∷ alive_from m set documents) (sym (add-one doc))

  -- where none is alive any more, none is left
  pub no_alive : (set : Option (List Bool)) (documents : List X) (from total : ℕ) → from ≤ total → total ≡ length documents → ((k : ℕ) → from ≤ k → k < total → alive_at set k ≡ false) → alive_from from set documents ≡ []
  no_alive set documents from total le all none =
      let far : from + (total - from) ≡ total = omega (arith, le) in
      passed_over set documents from (total - from) (λ k above below. none k above (omega (arith, below, far)))
      ∙ ap (λ m. alive_from m set documents) far ∙ none_after set documents total (omega (arith, all))

-- The marked members of a list, one place after another.
use Rattle.std.proofs.Common.{◌≡◌, ℕ, zero, suc, ◌+◌, ◌<◌, ◌≤◌, Bool, true, false, List, [], ◌∷◌, ◌++◌, length, take, drop, cond, get_or, refl, sym, ap, ◌∙◌, arith, drop-drop}
use Rattle.std.specs.Prelude.{Some}
use Rattle.std.specs.List.{list_all, slice_get}
use Rattle.std.proofs.lemmas.List.{drop_all}
use Rattle.std.proofs.lemmas.Bool.{and_parts, false≢true}
use Rattle.std.proofs.lemmas.Option.{none-some, same_Some}
use Rattle.seg_model.specs.Operations.{kept}

-- of no members none are marked
pub kept_of_none : {X : Type 0} (marks : List Bool) (xs : List X) → xs ≡ [] → kept marks xs ≡ []
kept_of_none [] xs none = refl
kept_of_none (b ∷ bs) xs none = ap (kept (b ∷ bs)) none

first_by : {X : Type 0} (b : Bool) (x : X) (rest : List X) → cond b (x ∷ rest) rest ≡ cond b (x ∷ []) [] ++ rest
first_by true x rest = refl
first_by false x rest = refl

-- the first, and then the others
kept_first : {X : Type 0} (marks : List Bool) (xs : List X) → kept marks xs ≡ kept (take 1 marks) (take 1 xs) ++ kept (drop 1 marks) (drop 1 xs)
kept_first [] xs = refl
kept_first (b ∷ bs) [] = sym (kept_of_none bs [] refl)
kept_first (b ∷ bs) (x ∷ xs) = first_by b x (kept bs xs)

-- from a place on: what is at the place, and then what is after it
pub kept_next : {X : Type 0} (marks : List Bool) (xs : List X) (i : ℕ) → kept (drop i marks) (drop i xs) ≡ kept (take 1 (drop i marks)) (take 1 (drop i xs)) ++ kept (drop (i + 1) marks) (drop (i + 1) xs)
kept_next marks xs i =
    kept_first (drop i marks) (drop i xs)
    ∙ ap (λ ms. kept (take 1 (drop i marks)) (take 1 (drop i xs)) ++ kept ms (drop 1 (drop i xs))) (drop-drop 1 i marks)
    ∙ ap (λ ys. kept (take 1 (drop i marks)) (take 1 (drop i xs)) ++ kept (drop (i + 1) marks) ys) (drop-drop 1 i xs)

-- at a place that is marked its member
pub kept_marked : {X : Type 0} (marks : List Bool) (xs : List X) (i : ℕ) (x : X) → get_or marks i false ≡ true → slice_get xs i ≡ Some x → kept (take 1 (drop i marks)) (take 1 (drop i xs)) ≡ x ∷ []
kept_marked [] xs zero x alive is = absurd (false≢true alive)
kept_marked [] xs (suc i) x alive is = absurd (false≢true alive)
kept_marked (b ∷ bs) [] zero x alive is = absurd (none-some x is)
kept_marked (b ∷ bs) (y ∷ ys) zero x alive is = ap (λ c. cond c (y ∷ []) []) alive ∙ ap (λ z. z ∷ []) (same_Some y x is)
kept_marked (b ∷ bs) [] (suc i) x alive is = absurd (none-some x is)
kept_marked (b ∷ bs) (y ∷ ys) (suc i) x alive is = kept_marked bs ys i x alive is

-- and then it is one
pub marked_counted : {X : Type 0} (marks : List Bool) (xs : List X) (i : ℕ) → i < length xs → get_or marks i false ≡ true → length (kept (take 1 (drop i marks)) (take 1 (drop i xs))) ≡ 1
marked_counted [] xs zero lt alive = absurd (false≢true alive)
marked_counted [] xs (suc i) lt alive = absurd (false≢true alive)
marked_counted (b ∷ bs) [] i lt alive = absurd (omega (arith, lt))
marked_counted (b ∷ bs) (y ∷ ys) zero lt alive = ap (λ c. length (cond c (y ∷ []) [])) alive
marked_counted (b ∷ bs) (y ∷ ys) (suc i) lt alive = marked_counted bs ys i (omega (arith, lt)) alive

-- after the last place nothing is kept
pub kept_past : {X : Type 0} (marks : List Bool) (xs : List X) (i : ℕ) → length xs ≤ i → kept (drop i marks) (drop i xs) ≡ []
kept_past marks xs i past = kept_of_none (drop i marks) (drop i xs) (drop_all i xs past)

-- where all are marked all are kept
pub kept_all : {X : Type 0} (marks : List Bool) (xs : List X) → list_all (λ b. b) marks ≡ true → length marks ≡ length xs → kept marks xs ≡ xs
kept_all [] [] all many = refl
kept_all [] (x ∷ xs) all many = absurd (omega (arith, many))
kept_all (b ∷ bs) [] all many = absurd (omega (arith, many))
kept_all (b ∷ bs) (x ∷ xs) all many =
    let both = and_parts b (list_all (λ (c : Bool). c) bs) all in
    ap (λ c. cond c (x ∷ kept bs xs) (kept bs xs)) both.0 ∙ ap (λ ys. x ∷ ys) (kept_all bs xs both.1 (omega (arith, many)))

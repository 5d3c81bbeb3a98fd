-- Lists that go by their numbers, with one more number.
use Rattle.std.proofs.Common.{◌≡◌, ℕ, zero, suc, ◌+◌, List, [], ◌∷◌, ◌++◌, map, refl, ap, sym, ◌∙◌, append_assoc, arith, add-one}
use Rattle.std.specs.Prelude.{replicate}
use Rattle.std.specs.List.{flat_map, range_with_len}
use Rattle.std.proofs.lemmas.Grind.{flat_map-append}
use Rattle.std.proofs.lemmas.List.{append-nil}
use Rattle.std.proofs.lemmas.List.FromFn.{map-range_with_len_more}
use Rattle.seg_common.proofs.Lists.{range-one_more}

same_more : {X : Type 0} (n : ℕ) (x : X) → replicate n x ++ x ∷ [] ≡ replicate (suc n) x
same_more zero x = refl
same_more (suc n) x = ap (λ xs. x ∷ xs) (same_more n x)

-- the same again
pub again : {X : Type 0} (x : X) (old new : List X) (n : ℕ) → old ≡ replicate n x → new ≡ old ++ x ∷ [] → new ≡ replicate (n + 1) x
again x old new n h k = k ∙ ap (λ xs. xs ++ x ∷ []) h ∙ same_more n x ∙ ap (λ m. replicate m x) (sym (add-one n))

-- one item a number, after others
pub item_more : {X : Type 0} (f : ℕ → X) (front old new : List X) (n : ℕ) → old ≡ front ++ map f (range_with_len 0 n) → new ≡ old ++ f n ∷ []
    → new ≡ front ++ map f (range_with_len 0 (n + 1))
item_more f front old new n h k =
    k
    ∙ ap (λ xs. xs ++ f n ∷ []) h
    ∙ append_assoc front (map f (range_with_len 0 n)) (f n ∷ [])
    ∙ ap (λ xs. front ++ xs) (sym (map-range_with_len_more f 0 n n (omega arith)))

-- a group of items a number
pub group_more : {X : Type 0} (f : ℕ → List X) (old new : List X) (n : ℕ) → old ≡ flat_map f (range_with_len 0 n) → new ≡ old ++ f n
    → new ≡ flat_map f (range_with_len 0 (n + 1))
group_more f old new n h k =
    k
    ∙ ap (λ xs. xs ++ f n) h
    ∙ ap (λ xs. flat_map f (range_with_len 0 n) ++ xs) (sym (append-nil (f n)))
    ∙ sym (flat_map-append f (range_with_len 0 n) (n ∷ []))
    ∙ ap (flat_map f) (sym (range-one_more 0 n n (omega arith)))
    ∙ ap (λ m. flat_map f (range_with_len 0 m)) (sym (add-one n))

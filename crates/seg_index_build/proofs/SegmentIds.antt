-- The ids of the work segments, and of the output segment.
use Rattle.std.proofs.Common.{◌≡◌, ◌<◌, ◌^◌, ℕ, zero, suc, ◌+◌, Bool, true, false, List, [], ◌∷◌, length, take, get_or, refl, sym, ap, subst, ◌∙◌, arith}
use Rattle.std.specs.Prelude.{◌&&◌, ◌||◌, ◌==◌, nat_eq, not}
use Rattle.std.specs.List.{list_any}
use Rattle.std.proofs.lemmas.Bool.{and_parts, eqb-true, ltb-true, not-true, or_parts}
use Rattle.seg_model.specs.ValidInputs.{are_distinct, batches_fit, ids_fit}
use Rattle.seg_index_build.specs.IndexFiles.{output_id, work_ids}

-- ---- by their places

pub work_taken : (ids : List ℕ) (n : ℕ) → n + 1 ≡ length ids → take n ids ≡ work_ids ids
work_taken [] n e = absurd (omega (arith, e))
work_taken (id ∷ []) zero e = refl
work_taken (id ∷ []) (suc n) e = absurd (omega (arith, e))
work_taken (id ∷ other ∷ ids) zero e = absurd (omega (arith, e))
work_taken (id ∷ other ∷ ids) (suc n) e = ap (λ l. id ∷ l) (work_taken (other ∷ ids) n (omega (arith, e)))

pub last_given : (ids : List ℕ) (n x : ℕ) → n + 1 ≡ length ids → get_or ids n x ≡ output_id ids
last_given [] n x e = absurd (omega (arith, e))
last_given (id ∷ []) zero x e = refl
last_given (id ∷ []) (suc n) x e = absurd (omega (arith, e))
last_given (id ∷ other ∷ ids) zero x e = absurd (omega (arith, e))
last_given (id ∷ other ∷ ids) (suc n) x e = last_given (other ∷ ids) n x (omega (arith, e))

-- ---- those of the work segments

rests : (x : ℕ) (xs : List ℕ) → length (work_ids (x ∷ xs)) + 1 ≡ length (x ∷ xs)
rests x [] = refl
rests x (y ∷ ys) = let more = rests y ys in omega (arith, more)

pub front_length : (ids : List ℕ) (n : ℕ) → length ids ≡ n + 1 → length (work_ids ids) ≡ n
front_length [] n e = absurd (omega (arith, e))
front_length (id ∷ ids) n e = let one = rests id ids in omega (arith, e, one)

pub ids_many : (cuts ids : List ℕ) → ids_fit cuts ids ≡ true → length ids ≡ length cuts + 2
ids_many cuts ids fit = eqb-true (length ids) (length cuts + 2) (and_parts (length ids == length cuts + 2) (are_distinct ids) fit).0

pub work_many : (cuts ids : List ℕ) → ids_fit cuts ids ≡ true → length (work_ids ids) ≡ length cuts + 1
work_many cuts ids fit = let many = ids_many cuts ids fit in front_length ids (length cuts + 1) (omega (arith, many))

pub work_few : (cuts ids : List ℕ) → batches_fit cuts ≡ true → ids_fit cuts ids ≡ true → length (work_ids ids) < 2 ^ 32
work_few cuts ids few fit =
    let many = work_many cuts ids fit in
    let less = ltb-true (length cuts + 1) (2 ^ 32) few in
    subst (λ n. n < 2 ^ 32) (sym many) less

none_in_front : (p : ℕ → Bool) (xs : List ℕ) → list_any p xs ≡ false → list_any p (work_ids xs) ≡ false
none_in_front p [] h = h
none_in_front p (x ∷ []) h = refl
none_in_front p (x ∷ y ∷ ys) h =
    let two = or_parts (p x) (list_any p (y ∷ ys)) h in
    ap (λ b. b || list_any p (work_ids (y ∷ ys))) two.0 ∙ none_in_front p (y ∷ ys) two.1

front_distinct : (ids : List ℕ) → are_distinct ids ≡ true → are_distinct (work_ids ids) ≡ true
front_distinct [] h = refl
front_distinct (id ∷ []) h = refl
front_distinct (id ∷ other ∷ ids) h =
    let two = and_parts (not (list_any (nat_eq id) (other ∷ ids))) (are_distinct (other ∷ ids)) h in
    ap (λ b. not b && are_distinct (work_ids (other ∷ ids)))
    (none_in_front (nat_eq id) (other ∷ ids) (not-true (list_any (nat_eq id) (other ∷ ids)) two.0))
    ∙ front_distinct (other ∷ ids) two.1

pub work_distinct : (cuts ids : List ℕ) → ids_fit cuts ids ≡ true → are_distinct (work_ids ids) ≡ true
work_distinct cuts ids fit = front_distinct ids (and_parts (length ids == length cuts + 2) (are_distinct ids) fit).1

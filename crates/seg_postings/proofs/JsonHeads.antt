-- The paths and types that terms of JSON fields begin with.
use Rattle.std.proofs.Common.{◌≡◌, ℕ, zero, suc, ◌+◌, ◌<◌, Bool, true, false, List, [], ◌∷◌, ◌++◌, length, take, drop, refl, sym, ap, subst, ◌∙◌, arith, inl, inr}
use Rattle.std.specs.Prelude.{◌==◌, ◌⊎◌, cond, min, slice_index_or}
use Rattle.std.specs.Ordering.{nat_cmp, is_eq, ordering_then, ordering_reverse}
use Rattle.std.specs.Cmp.Lexicographic.{slice_cmp}
use Rattle.std.specs.Str.{bytes_eq}
use Rattle.std.specs.declared.cmp.Ordering.{Ordering}
use Rattle.std.specs.declared.cmp.Ordering.TheVariants.{Less, Equal, Greater}
use Rattle.std.proofs.lemmas.Bool.{cases_lt, eqb-true, false≢true}
use Rattle.std.proofs.lemmas.List.{take_all}
use Rattle.std.proofs.lemmas.Cmp.{nat_cmp_total, nat_list_cmp_total, ranked, tied_itself}
use Rattle.std.proofs.lemmas.Map.Text.{is_eq-slice_cmp}
use Rattle.seg_model.specs.DocumentTerms.{type_code}
use Rattle.seg_model.specs.Shape.{is_type_code, path_part}
use Rattle.seg_postings.specs.JsonSpaces.{path_and_type}

-- a term that has a type code begins with its path, a byte 0 and the code
pub head_is : (bytes : List ℕ) → is_type_code (type_code bytes) ≡ true → path_and_type bytes ≡ path_part bytes ++ 0 ∷ type_code bytes ∷ []
head_is [] coded = absurd (false≢true coded)
head_is (b ∷ []) coded = absurd (false≢true coded)
head_is (b ∷ c ∷ rest) coded = by (b == 0) refl coded (head_is (c ∷ rest))
  where
    by : (x : Bool) → (b == 0) ≡ x → is_type_code (cond x c (type_code (c ∷ rest))) ≡ true → (is_type_code (type_code (c ∷ rest)) ≡ true → path_and_type (c ∷ rest) ≡ path_part (c ∷ rest) ++ 0 ∷ type_code (c ∷ rest) ∷ [])
        → b ∷ cond x (c ∷ []) (path_and_type (c ∷ rest)) ≡ cond x [] (b ∷ path_part (c ∷ rest)) ++ 0 ∷ cond x c (type_code (c ∷ rest)) ∷ []
    by true is coded more = ap (λ (n : ℕ). n ∷ c ∷ []) (eqb-true b 0 is)
    by false is coded more = ap (λ (l : List ℕ). b ∷ l) (more coded)

pub begins_so : (bytes name : List ℕ) (code : ℕ) → is_type_code (type_code bytes) ≡ true → name ≡ path_part bytes → code ≡ type_code bytes → name ++ 0 ∷ code ∷ [] ≡ path_and_type bytes
begins_so bytes name code coded named is = rw (named, is) (sym (head_is bytes coded))

-- it ends after the byte after the first byte 0
ends_at : (at : ℕ) (bytes : List ℕ) → at < length bytes → slice_index_or bytes at 0 ≡ 0 → take at bytes ++ path_and_type (drop at bytes) ≡ take (at + 2) bytes
ends_at at [] lt is = absurd (omega (arith, lt))
ends_at zero (b ∷ bytes) lt is = ap (λ (x : Bool). b ∷ cond x (take 1 bytes) (path_and_type bytes)) (ap (λ (n : ℕ). n == 0) is)
ends_at (suc at) (b ∷ bytes) lt is =
    let more : suc (at + 2) ≡ suc at + 2 = omega arith in
    ap (λ (l : List ℕ). b ∷ l) (ends_at at bytes (omega (arith, lt)) is) ∙ ap (λ (n : ℕ). take n (b ∷ bytes)) more

-- and at the end of the bytes, if there is none after it
pub ends_by : (at n : ℕ) (bytes : List ℕ) → at < length bytes → slice_index_or bytes at 0 ≡ 0 → n ≡ min (length bytes) (at + 2) → take at bytes ++ path_and_type (drop at bytes) ≡ path_and_type bytes → take n bytes ≡ path_and_type bytes
ends_by at n bytes lt is short so_far = elim (cases_lt (length bytes) (at + 2)) [
  | inl less ↦ take_all n bytes (omega (arith, short, less)) ∙ sym (take_all (at + 2) bytes (omega (arith, less))) ∙ sym (ends_at at bytes lt is) ∙ so_far
  | inr le ↦ ap (λ (k : ℕ). take k bytes) (let e : n ≡ at + 2 = omega (arith, short, le) in e) ∙ sym (ends_at at bytes lt is) ∙ so_far
]

-- ---- the order of terms is that of what they begin with

abbrev pub Below : List ℕ → List ℕ → Type 0
Below xs ys = slice_cmp nat_cmp xs ys ≡ Less

abbrev pub NotAbove : List ℕ → List ℕ → Type 0
NotAbove xs ys = (xs ≡ ys) ⊎ (slice_cmp nat_cmp xs ys ≡ Less)

same_first : (x : ℕ) (xs ys : List ℕ) → NotAbove xs ys → NotAbove (x ∷ xs) (x ∷ ys)
same_first x xs ys (inl same) = inl (ap (λ (l : List ℕ). x ∷ l) same)
same_first x xs ys (inr below) = inr (ap (λ o. ordering_then o (slice_cmp nat_cmp xs ys)) (tied_itself nat_cmp_total x) ∙ below)

first_rises : (xs ys : List ℕ) → Below xs ys → NotAbove (take 1 xs) (take 1 ys)
first_rises [] [] below = absurd cc
first_rises [] (y ∷ ys) below = inr refl
first_rises (x ∷ xs) [] below = absurd cc
first_rises (x ∷ xs) (y ∷ ys) below = by (nat_cmp x y) refl below
  where
    by : (o : Ordering) → nat_cmp x y ≡ o → ordering_then o (slice_cmp nat_cmp xs ys) ≡ Less → NotAbove (x ∷ []) (y ∷ [])
    by Less is below = inr (ap (λ o. ordering_then o (slice_cmp nat_cmp [] [])) is)
    by Equal is below = inl (ap (λ (n : ℕ). n ∷ []) (ranked x y Equal (sym is)))
    by Greater is below = absurd cc

pub head_rises : (xs ys : List ℕ) → Below xs ys → NotAbove (path_and_type xs) (path_and_type ys)
head_rises [] [] below = absurd cc
head_rises [] (y ∷ ys) below = inr refl
head_rises (x ∷ xs) [] below = absurd cc
head_rises (x ∷ xs) (y ∷ ys) below = by (nat_cmp x y) refl below (head_rises xs ys)
  where
    after : ℕ → List ℕ → List ℕ
    after n ns = cond (n == 0) (take 1 ns) (path_and_type ns)

    both : (b : Bool) → Below xs ys → (Below xs ys → NotAbove (path_and_type xs) (path_and_type ys)) → NotAbove (cond b (take 1 xs) (path_and_type xs)) (cond b (take 1 ys) (path_and_type ys))
    both true below more = first_rises xs ys below
    both false below more = more below

    by : (o : Ordering) → nat_cmp x y ≡ o → ordering_then o (slice_cmp nat_cmp xs ys) ≡ Less → (Below xs ys → NotAbove (path_and_type xs) (path_and_type ys)) → NotAbove (path_and_type (x ∷ xs)) (path_and_type (y ∷ ys))
    by Less is below more = inr (ap (λ o. ordering_then o (slice_cmp nat_cmp (after x xs) (after y ys))) is)
    by Equal is below more = subst (λ (n : ℕ). NotAbove (path_and_type (x ∷ xs)) (path_and_type (n ∷ ys))) (ranked x y Equal (sym is)) (same_first x (after x xs) (after x ys) (both (x == 0) below more))
    by Greater is below more = absurd cc

pub below_next : (h g x : List ℕ) → Below h g → NotAbove g x → Below h x
below_next h g x below (inl same) = subst (Below h) same below
below_next h g x below (inr more) = nat_list_cmp_total.trans h g x below more

-- ---- what is below is another

pub unlike : (h x : List ℕ) → Below h x → bytes_eq h x ≡ false
unlike h x below = sym (is_eq-slice_cmp h x) ∙ ap is_eq below

pub unlike_back : (h x : List ℕ) → Below h x → bytes_eq x h ≡ false
unlike_back h x below = sym (is_eq-slice_cmp x h) ∙ ap is_eq (nat_list_cmp_total.antisymm x h ∙ ap ordering_reverse below)

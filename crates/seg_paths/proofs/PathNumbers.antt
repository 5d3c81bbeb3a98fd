-- Paths and their numbers.
use Rattle.std.proofs.Common.{◌≡◌, ℕ, ◌<◌, ◌≤◌, ◌⊎◌, inl, inr, Bool, true, false, cond, List, [], ◌++◌, length, get_or, Some, None, position, nat_lt, append-nil, append_assoc, refl, sym, ap, ◌∙◌, arith}
use Rattle.std.specs.Cmp.Lexicographic.{bytes_decides, nat_list_eq_equiv}
use Rattle.std.specs.List.{position_or_len, IsDistinct}
use Rattle.std.specs.Str.{bytes_eq}
use Rattle.std.proofs.lemmas.Bool.{cases_lt, false≢true}
use Rattle.std.proofs.lemmas.Bool.Decides.{nat_tests}
use Rattle.std.proofs.lemmas.List.{get_or_append_left, length-append}
use Rattle.std.proofs.lemmas.List.Quantifiers.{position-Some}
use Rattle.std.proofs.lemmas.List.Sums.{fails_before_first, position_or_len_is}
use Rattle.std.proofs.lemmas.Map.Keys.{apart_from_distinct}
use Rattle.std.proofs.lemmas.Option.{none-some, same_Some}
use Rattle.seg_paths.specs.Paths.{number_of, Extends}

module _ {X : Type 0} (p : X → Bool) where
  -- the first place at which a test passes
  position-is : (xs : List X) (i : ℕ) (d : X) → i < length xs → ((k : ℕ) → k < i → p (get_or xs k d) ≡ false)
      → p (get_or xs i d) ≡ true → position p xs ≡ Some i
  position-is xs i d lt before at =
      let is : position_or_len p xs ≡ i = position_or_len_is p xs i d (omega (arith, lt)) before (λ _. at) in
      let within : nat_lt i (length xs) ≡ true = grind (arith, nat_tests) in
      ap (λ n. cond (nat_lt n (length xs)) (Some n) None) is ∙ ap (λ b. cond b (Some i) None) within

  position-front : (xs ys : List X) (i : ℕ) (d : X) → position p xs ≡ Some i → position p (xs ++ ys) ≡ Some i
  position-front xs ys i d is =
      let found = position-Some p xs i d is in
      position-is (xs ++ ys) i d (omega (arith, found.0, length-append xs ys))
      (λ k lt. ap p (get_or_append_left xs ys d k (omega (arith, lt, found.0))) ∙ found.2 k lt)
      (ap p (get_or_append_left xs ys d i found.0) ∙ found.1)

-- where it passes nowhere
pub position-none : {X : Type 0} (p : X → Bool) (xs : List X) (k : ℕ) (d : X) → position p xs ≡ None
    → k < length xs → p (get_or xs k d) ≡ false
position-none p xs k d is lt = fails_before_first p xs k d (omega (arith, lt, past (nat_lt end (length xs)) refl))
  where
    end : ℕ
    end = position_or_len p xs

    past : (b : Bool) → nat_lt end (length xs) ≡ b → length xs ≤ end
    past true h = absurd (none-some end (sym (ap (λ b. cond b (Some end) None) (sym h) ∙ is)))
    past false h = grind (arith, nat_tests)

-- a number stays
pub number-kept : (old new : List (List ℕ)) (path : List ℕ) (n : ℕ) → Extends old new → number_of old path ≡ Some n
    → number_of new path ≡ Some n
number-kept old new path n more is = ap (λ ps. number_of ps path) more.1
    ∙ position-front (bytes_eq path) old more.0 n [] is

-- the path at its number
pub number-read : (paths : List (List ℕ)) (path : List ℕ) (n : ℕ) → number_of paths path ≡ Some n
    → (n < length paths) × (get_or paths n [] ≡ path)
number-read paths path n is =
    let found = position-Some (bytes_eq path) paths n [] is in
    (found.0, sym ((bytes_decides path (get_or paths n [])).0 found.1))

-- a new path has a number past those before it
pub number-past : (old new : List (List ℕ)) (path : List ℕ) (n : ℕ) → Extends old new → number_of old path ≡ None
    → number_of new path ≡ Some n → length old ≤ n
number-past old new path n more none is = by (cases_lt n (length old))
  where
    by : (n < length old) ⊎ (length old ≤ n) → length old ≤ n
    by (inr past) = past
    by (inl lt) =
        let there : get_or old n [] ≡ path = sym (get_or_append_left old more.0 [] n lt)
        ∙ ap (λ (ps : List (List ℕ)). get_or ps n []) (sym more.1) ∙ (number-read new path n is).1 in
        absurd (false≢true (sym (position-none (bytes_eq path) old n [] none lt)
        ∙ (bytes_decides path (get_or old n [])).1 (sym there)))

-- the number of the path at a place
pub number-from : (paths : List (List ℕ)) (path : List ℕ) (n : ℕ) → IsDistinct bytes_eq paths → n < length paths
    → get_or paths n [] ≡ path → number_of paths path ≡ Some n
number-from paths path n distinct lt at =
    position-is (bytes_eq path) paths n [] lt
    (λ k before. ap (λ x. bytes_eq x (get_or paths k [])) (sym at)
    ∙ nat_list_eq_equiv.symm (get_or paths n []) (get_or paths k [])
    ∙ apart_from_distinct bytes_eq paths k n [] distinct before lt)
    ((bytes_decides path (get_or paths n [])).1 (sym at))

-- distinct paths are the same at one place only
pub same_place : (paths : List (List ℕ)) (i j : ℕ) → IsDistinct bytes_eq paths → i < length paths
    → j < length paths → get_or paths i [] ≡ get_or paths j [] → i ≡ j
same_place paths i j distinct li lj same =
    same_Some i j (sym (number-from paths (get_or paths j []) i distinct li same)
    ∙ number-from paths (get_or paths j []) j distinct lj refl)

-- ---- tables that grow

pub extends-refl : (paths : List (List ℕ)) → Extends paths paths
extends-refl paths = ([], sym (append-nil paths))

pub extends-trans : (a b c : List (List ℕ)) → Extends a b → Extends b c → Extends a c
extends-trans a b c first second = (
  first.0 ++ second.0,
  second.1 ∙ ap (λ l. l ++ second.0) first.1
      ∙ append_assoc a first.0 second.0,
)

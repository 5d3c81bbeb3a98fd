-- What stays of a set, one test after another.
use Rattle.std.proofs.Common.{◌≡◌, ℕ, zero, suc, ◌+◌, ◌<◌, ◌≤◌, Bool, true, false, List, [], ◌∷◌, map, length, replicate, set, refl, sym, ap, ◌∙◌, arith}
use Rattle.std.specs.Prelude.{◌||◌, ◌&&◌, not, nat_eq}
use Rattle.std.specs.List.{enumerate_from, range_with_len}
use Rattle.std.proofs.lemmas.Bool.Decides.{nat_tests}
use Rattle.std.proofs.lemmas.List.{length-map}
use Rattle.std.proofs.lemmas.List.FromFn.{length-enumerate_from}
use Rattle.std.proofs.Math.Bool.{and_assoc, and-false, and-true}
use Rattle.seg_model.specs.Postings.{is_member}
use Rattle.seg_batches.specs.AppliedDeletes.{staying}

-- the same, where the first number of the set is n
abbrev staying_from : ℕ → (ℕ → Bool) → List Bool → List Bool
staying_from n passes set = map (λ m. m.1 && passes m.0) (enumerate_from n set)

pub length-staying : (f : ℕ → Bool) (s : List Bool) → length (staying f s) ≡ length s
length-staying f s = length-map (enumerate_from 0 s) (λ m. m.1 && f m.0) ∙ length-enumerate_from 0 s

-- ---- two tests

twice_from : (n : ℕ) (f g h : ℕ → Bool) → ((i : ℕ) → (f i && g i) ≡ h i) → (s : List Bool)
    → staying_from n g (staying_from n f s) ≡ staying_from n h s
twice_from n f g h is [] = refl
twice_from n f g h is (b ∷ s) =
    let here : ((b && f n) && g n) ≡ (b && h n) = and_assoc b (f n) (g n) ∙ ap (λ c. b && c) (is n) in
    λ j. here j ∷ twice_from (n + 1) f g h is s j

-- one test after another is both
pub staying_twice : (f g h : ℕ → Bool) → ((i : ℕ) → (f i && g i) ≡ h i) → (s : List Bool)
    → staying g (staying f s) ≡ staying h s
staying_twice = twice_from 0

-- ---- a test that each passes

all_from : (n : ℕ) (f : ℕ → Bool) (s : List Bool) → ((i : ℕ) → n ≤ i → i < n + length s → f i ≡ true)
    → staying_from n f s ≡ s
all_from n f [] passes = refl
all_from n f (b ∷ s) passes =
    let here : (b && f n) ≡ b = ap (λ c. b && c) (passes n (omega arith) (omega arith)) ∙ and-true b in
    λ j. here j ∷ all_from (n + 1) f s (λ i ge lt. passes i (omega arith) (omega arith)) j

-- where each number passes all stay
pub staying_all : (f : ℕ → Bool) (s : List Bool) → ((i : ℕ) → i < length s → f i ≡ true) → staying f s ≡ s
staying_all f s passes = all_from 0 f s (λ i ge lt. passes i (omega arith))

alike_from : (n : ℕ) (f g : ℕ → Bool) (s : List Bool) → ((i : ℕ) → n ≤ i → i < n + length s → f i ≡ g i)
    → staying_from n f s ≡ staying_from n g s
alike_from n f g [] same = refl
alike_from n f g (b ∷ s) same =
    let here : (b && f n) ≡ (b && g n) = ap (λ c. b && c) (same n (omega arith) (omega arith)) in
    λ j. here j ∷ alike_from (n + 1) f g s (λ i ge lt. same i (omega arith) (omega arith)) j

-- two tests that agree on each number leave the same
pub staying_alike : (f g : ℕ → Bool) (s : List Bool) → ((i : ℕ) → i < length s → f i ≡ g i) → staying f s ≡ staying g s
staying_alike f g s same = alike_from 0 f g s (λ i ge lt. same i (omega arith))

-- of the full set those stay that pass
full_from : (n k : ℕ) (f : ℕ → Bool) → staying_from n f (replicate k true) ≡ map f (range_with_len n k)
full_from n zero f = refl
full_from n (suc k) f = λ j. f n ∷ full_from (n + 1) k f j

pub staying_full : (k : ℕ) (f : ℕ → Bool) → staying f (replicate k true) ≡ map f (range_with_len 0 k)
staying_full = full_from 0

-- ---- one number that doesn't pass

module _ (d : ℕ → Bool) (doc : ℕ) where
  -- a number passes that isn't it, or isn't older
  abbrev others : ℕ → Bool
  others i = not (d i && is_member i (doc ∷ []))

  other_passes : (i : ℕ) → nat_eq i doc ≡ false → others i ≡ true
  other_passes i apart = ap (λ b. not (d i && (b || false))) apart ∙ ap not (and-false (d i))

  it_fails : (i : ℕ) → nat_eq i doc ≡ true → d i ≡ true → others i ≡ false
  it_fails i same older = ap (λ b. not (d i && (b || false))) same ∙ ap (λ b. not (b && true)) older

  loses_from : (n k : ℕ) (s : List Bool) → n + k ≡ doc → d doc ≡ true → set s k false ≡ staying_from n others s
  loses_from n k [] at older = refl
  loses_from n zero (b ∷ s) at older =
      let place : doc ≡ n = omega arith in
      let same : nat_eq n doc ≡ true = grind (arith, nat_tests) in
      let here : (b && others n) ≡ false = ap (λ c. b && c) (it_fails n same (ap d (sym place) ∙ older)) ∙ and-false b in
      let rest = all_from (n + 1) others s (λ i ge lt. other_passes i (grind (arith, nat_tests))) in
      λ j. sym here j ∷ sym rest j
  loses_from n (suc k) (b ∷ s) at older =
      let apart : nat_eq n doc ≡ false = grind (arith, nat_tests) in
      let here : (b && others n) ≡ b = ap (λ c. b && c) (other_passes n apart) ∙ and-true b in
      let rest = loses_from (n + 1) k s (omega arith) older in
      λ j. sym here j ∷ rest j

  -- an older one is lost
  pub loses_one : (s : List Bool) → d doc ≡ true → set s doc false ≡ staying others s
  loses_one s older = loses_from 0 doc s (omega arith) older

  -- one that isn't older, or isn't there, leaves all
  pub keeps_one : (s : List Bool) → (doc < length s → d doc ≡ false) → s ≡ staying others s
  keeps_one s younger = sym (staying_all others s (λ i lt. by i lt (nat_eq i doc) refl))
    where
      by : (i : ℕ) → i < length s → (b : Bool) → nat_eq i doc ≡ b → others i ≡ true
      by i lt false apart = other_passes i apart
      by i lt true same =
          let place : doc ≡ i = grind (arith, nat_tests) in
          ap (λ b. not (b && is_member i (doc ∷ []))) (ap d (sym place) ∙ younger (omega arith))

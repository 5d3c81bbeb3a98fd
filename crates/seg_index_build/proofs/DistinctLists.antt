-- Lists of which no two members have one number, and tests of their members.
use Rattle.std.proofs.Common.{◌≡◌, ◌≢◌, ◌∙◌, ℕ, Bool, true, false, cond, List, [], ◌∷◌, map, refl, sym, ap}
use Rattle.std.specs.Prelude.{◌&&◌, ◌||◌, nat_eq, not}
use Rattle.std.specs.List.{AllByRecursion, filter, list_any}
use Rattle.std.proofs.lemmas.Bool.{and_parts, and_right, eq-eqb, eqb-false, ne_eqb, not-true, or_from, or_parts}
use Rattle.seg_common.proofs.Lists.{all_filtered, all_map}
use Rattle.seg_model.specs.ValidInputs.{are_distinct}

-- ---- truth values

-- ---- what holds of each

pub all_two : {X : Type 0} (P Q R : X → Type 0) → ((x : X) → P x → Q x → R x) → (xs : List X) → AllByRecursion P xs
    → AllByRecursion Q xs → AllByRecursion R xs
all_two P Q R f [] h k = tt
all_two P Q R f (x ∷ xs) h k = (f x h.0 k.0, all_two P Q R f xs h.1 k.1)

-- ---- those that pass a test

-- a test of those that pass another
pub any_passed : {X : Type 0} (p q r : X → Bool) (xs : List X)
    → list_any (λ x. q x && r x) (filter p xs) ≡ list_any (λ x. (p x && q x) && r x) xs
any_passed p q r [] = refl
any_passed p q r (x ∷ xs) = by (p x) (any_passed p q r xs)
  where
    by : (b : Bool) → list_any (λ y. q y && r y) (filter p xs) ≡ list_any (λ y. (p y && q y) && r y) xs
        → list_any (λ y. q y && r y) (cond b (x ∷ filter p xs) (filter p xs))
        ≡ (((b && q x) && r x) || list_any (λ y. (p y && q y) && r y) xs)
    by true rest = ap (λ t. (q x && r x) || t) rest
    by false rest = rest

-- a test of what g gives
pub passed_map : {X Y : Type 0} (p : Y → Bool) (g : X → Y) (q : X → Bool) (xs : List X)
    → AllByRecursion (λ x. p (g x) ≡ q x) xs → filter p (map g xs) ≡ map g (filter q xs)
passed_map p g q [] h = refl
passed_map p g q (x ∷ xs) h =
    ap (λ b. cond b (g x ∷ filter p (map g xs)) (filter p (map g xs))) h.0 ∙ by (q x) (passed_map p g q xs h.1)
  where
    by : (b : Bool) → filter p (map g xs) ≡ map g (filter q xs)
        → cond b (g x ∷ filter p (map g xs)) (filter p (map g xs)) ≡ map g (cond b (x ∷ filter q xs) (filter q xs))
    by true rest = ap (λ l. g x ∷ l) rest
    by false rest = rest

-- ---- numbers

here : (a b c : Bool) → b ≡ true → c ≡ false → ((a && b) || c) ≡ a
here true b c is none = ap (λ t. t || c) is
here false b c is none = none

module _ {X : Type 0} (number : X → ℕ) where
  -- no two have one number
  abbrev pub Apart : List X → Type 0
  Apart [] = Unit {0}
  Apart (x ∷ xs) = AllByRecursion (λ y. number y ≢ number x) xs × Apart xs

  none_has : (n : ℕ) (xs : List X) → list_any (nat_eq n) (map number xs) ≡ false
      → AllByRecursion (λ y. number y ≢ n) xs
  none_has n [] h = tt
  none_has n (x ∷ xs) h =
      let parts = or_parts (nat_eq n (number x)) (list_any (nat_eq n) (map number xs)) h in
      ((λ is. eqb-false n (number x) parts.0 (sym is)), none_has n xs parts.1)

  pub all_apart : (xs : List X) → are_distinct (map number xs) ≡ true → Apart xs
  all_apart [] h = tt
  all_apart (x ∷ xs) h =
      let parts = and_parts (not (list_any (nat_eq (number x)) (map number xs))) (are_distinct (map number xs)) h in (
        none_has (number x) xs (not-true (list_any (nat_eq (number x)) (map number xs)) parts.0),
        all_apart xs parts.1,
      )

  pub apart_passed : (p : X → Bool) (xs : List X) → Apart xs → Apart (filter p xs)
  apart_passed p [] h = tt
  apart_passed p (x ∷ xs) h =
      by (p x) (all_filtered (λ y. number y ≢ number x) p xs h.0) (apart_passed p xs h.1)
    where
      by : (b : Bool) → AllByRecursion (λ y. number y ≢ number x) (filter p xs) → Apart (filter p xs)
          → Apart (cond b (x ∷ filter p xs) (filter p xs))
      by true others rest = (others, rest)
      by false others rest = rest

  none_of : (q : X → Bool) (n : ℕ) (xs : List X) → AllByRecursion (λ y. number y ≢ n) xs
      → list_any (λ y. q y && nat_eq n (number y)) xs ≡ false
  none_of q n [] h = refl
  none_of q n (y ∷ ys) h =
      or_from (q y && nat_eq n (number y)) (list_any (λ z. q z && nat_eq n (number z)) ys)
      (and_right (q y) (nat_eq n (number y)) (ne_eqb n (number y) (λ is. h.0 (sym is)))) (none_of q n ys h.1)

  -- a test of those that have the number of a member tells of this one
  pub told_of : (q : X → Bool) (xs : List X) → Apart xs
      → AllByRecursion (λ x. list_any (λ y. q y && nat_eq (number x) (number y)) xs ≡ q x) xs
  told_of q [] h = tt
  told_of q (x ∷ xs) h = (
    here (q x) (nat_eq (number x) (number x)) (list_any (λ y. q y && nat_eq (number x) (number y)) xs)
        (eq-eqb (number x) (number x) refl) (none_of q (number x) xs h.0),
    all_two (λ z. number z ≢ number x) (λ z. list_any (λ y. q y && nat_eq (number z) (number y)) xs ≡ q z)
        (λ z. list_any (λ y. q y && nat_eq (number z) (number y)) (x ∷ xs) ≡ q z)
        (λ z other is.
        ap (λ b. b || list_any (λ y. q y && nat_eq (number z) (number y)) xs)
        (and_right (q x) (nat_eq (number z) (number x)) (ne_eqb (number z) (number x) other)) ∙ is)
        xs h.0 (told_of q xs h.1),
  )

module _ {X Y : Type 0} (number : Y → ℕ) (g : X → Y) where
  pub apart_map : (xs : List X) → Apart (λ x. number (g x)) xs → Apart number (map g xs)
  apart_map [] h = tt
  apart_map (x ∷ xs) h = (all_map (λ y. number y ≢ number (g x)) g xs h.0, apart_map xs h.1)

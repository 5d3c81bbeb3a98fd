-- First answers, and refusals where tests fail.
use Rattle.std.proofs.Common.{◌≡◌, Bool, true, false, List, [], ◌∷◌, Some, None, Option, option_map, refl, ap, ◌∙◌}
use mathlib.Core.Bool.{true≢false}
use Rattle.std.specs.Prelude.{is_some}
use Rattle.std.specs.List.{AllByRecursion}
use Rattle.std.specs.Option.{option_or}
use Rattle.seg_model.specs.DocumentCheck.{first_of, unless}

module _ {X : Type 0} where
  pub some_none : (x : X) → Some x ≡ None → ⊥
  some_none x e = true≢false (ap is_some e)

  pub or_first : (a b : Option X) → option_or a b ≡ None → a ≡ None
  or_first None b e = refl
  or_first (Some x) b e = e

  pub or_second : (a b : Option X) → option_or a b ≡ None → b ≡ None
  or_second None b e = e
  or_second (Some x) b e = absurd (some_none x e)

  pub or_both : (a b : Option X) → option_or a b ≡ None → (a ≡ None) × (b ≡ None)
  or_both a b e = (or_first a b e, or_second a b e)

  pub or_none : (a b : Option X) → a ≡ None → b ≡ None → option_or a b ≡ None
  or_none a b e h = ap (λ o. option_or o b) e ∙ h

  pub unless_true : (b : Bool) (r : X) → unless b r ≡ None → b ≡ true
  unless_true true r e = refl
  unless_true false r e = absurd (some_none r e)

pub map_none : {X Y : Type 0} (f : X → Y) (a : Option X) → a ≡ None → option_map f a ≡ None
map_none f a e = ap (option_map f) e

pub none_map : {X Y : Type 0} (f : X → Y) (a : Option X) → option_map f a ≡ None → a ≡ None
none_map f None e = refl
none_map f (Some x) e = absurd (some_none (f x) e)

module _ {X R : Type 0} (f : X → Option R) where
  pub first_none : (xs : List X) → AllByRecursion (λ x. f x ≡ None) xs → first_of f xs ≡ None
  first_none [] h = refl
  first_none (x ∷ xs) h = or_none (f x) (first_of f xs) h.0 (first_none xs h.1)

  pub none_first : (xs : List X) → first_of f xs ≡ None → AllByRecursion (λ x. f x ≡ None) xs
  none_first [] e = tt
  none_first (x ∷ xs) e = (or_first (f x) (first_of f xs) e, none_first xs (or_second (f x) (first_of f xs) e))

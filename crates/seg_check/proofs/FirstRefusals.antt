-- The first refusal of a list, one after another.
use Rattle.std.proofs.Common.{◌≡◌, ℕ, ◌+◌, true, false, List, Some, None, Option, drop, sym, ap, refl, ◌∙◌}
use Rattle.std.specs.Prelude.{is_some}
use Rattle.std.specs.List.{slice_get}
use Rattle.std.specs.Option.{option_or}
use Rattle.std.proofs.lemmas.Bool.{false≢true}
use Rattle.seg_common.proofs.Lists.{drop-slice_get}
use Rattle.seg_values.specs.declared.error.TantivyError.{TantivyError}
use Rattle.seg_model.specs.DocumentCheck.{Cause, at_place, first_of}

module _ (place : ℕ) where
  none_there : (r : Option TantivyError) (x : Option Cause) → is_some r ≡ false → r ≡ at_place place x → x ≡ None
  none_there r None h is = refl
  none_there r (Some c) h is = absurd (false≢true (sym h ∙ ap is_some is))

  some_first : (r : Option TantivyError) (x later : Option Cause) → is_some r ≡ true → r ≡ at_place place x → r ≡ at_place place (option_or x later)
  some_first r None later h is = absurd (false≢true (sym (ap is_some is) ∙ h))
  some_first r (Some c) later h is = is

  module _ {X : Type 0} (f : X → Option Cause) (xs : List X) (i : ℕ) (x : X) (at : slice_get xs i ≡ Some x) (r : Option TantivyError) (is : r ≡ at_place place (f x)) where
    pub one_passes : is_some r ≡ false → first_of f (drop (i + 1) xs) ≡ first_of f (drop i xs)
    one_passes none = sym (ap (first_of f) (drop-slice_get xs i x at) ∙ ap (λ o. option_or o (first_of f (drop (i + 1) xs))) (none_there r (f x) none is))

    pub one_stops : is_some r ≡ true → r ≡ at_place place (first_of f (drop i xs))
    one_stops some = some_first r (f x) (first_of f (drop (i + 1) xs)) some is ∙ sym (ap (λ l. at_place place (first_of f l)) (drop-slice_get xs i x at))

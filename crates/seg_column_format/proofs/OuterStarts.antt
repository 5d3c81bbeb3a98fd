-- Starts without those that begin with an earlier one.
use Rattle.std.proofs.Common.{◌≡◌, ℕ, Bool, true, false, cond, ◌||◌, List, [], ◌∷◌, ◌++◌, refl, sym, ap, subst, ◌∙◌}
use Rattle.std.specs.List.{list_any}
use Rattle.std.proofs.lemmas.Bool.{false≢true, or_right}
use Rattle.std.proofs.lemmas.List.{append-nil}
use Rattle.std.proofs.lemmas.List.Folds.{list_any-append}
use Rattle.seg_column_format.specs.PathStarts.{AreApart, Ascend, begins, begins_as_last, is_up_to}
use Rattle.seg_column_format.proofs.ByteOrder.{begins_through, up_to_next}

-- the last of some is not after others
abbrev pub EndsUpTo : List (List ℕ) → List ℕ → Type 0
EndsUpTo [] s = Unit {0}
EndsUpTo (k ∷ []) s = is_up_to s k ≡ true
EndsUpTo (k ∷ l ∷ ks) s = EndsUpTo (l ∷ ks) s

-- nor after the first of those that are left
abbrev pub MeetsUpTo : List (List ℕ) → List (List ℕ) → Type 0
MeetsUpTo ks [] = Unit {0}
MeetsUpTo ks (s ∷ ss) = EndsUpTo ks s

further : (ks : List (List ℕ)) (s t : List ℕ) → is_up_to t s ≡ true → EndsUpTo ks s → EndsUpTo ks t
further [] s t h k = tt
further (a ∷ []) s t h k = up_to_next a s t k h
further (a ∷ b ∷ ks) s t h k = further (b ∷ ks) s t h k

pushed : (ks : List (List ℕ)) (s t : List ℕ) → is_up_to t s ≡ true → EndsUpTo (ks ++ s ∷ []) t
pushed [] s t h = h
pushed (a ∷ []) s t h = h
pushed (a ∷ b ∷ ks) s t h = pushed (b ∷ ks) s t h

apart_push : (ks : List (List ℕ)) (s : List ℕ) → AreApart ks → EndsUpTo ks s → begins_as_last ks s ≡ false
    → AreApart (ks ++ s ∷ [])
apart_push [] s apart up off = tt
apart_push (k ∷ []) s apart up off = ((up, off), tt)
apart_push (k ∷ l ∷ ks) s apart up off = (apart.0, apart_push (l ∷ ks) s apart.1 up off)

covered : (path : List ℕ) (ks : List (List ℕ)) (s : List ℕ) → begins_as_last ks s ≡ true → begins path s ≡ true
    → list_any (begins path) ks ≡ true
covered path [] s h b = absurd (false≢true h)
covered path (k ∷ []) s h b = ap (λ x. x || false) (begins_through k s path h b)
covered path (k ∷ l ∷ ks) s h b = or_right (begins path k) _ (covered path (l ∷ ks) s h b)

-- ---- one more

abbrev pub with_start : List (List ℕ) → List ℕ → List (List ℕ)
with_start ks s = ks ++ cond (begins_as_last ks s) [] (s ∷ [])

module _ (ks : List (List ℕ)) (s : List ℕ) where
  by_last : (P : List (List ℕ) → Type 0) → (begins_as_last ks s ≡ true → P ks)
      → (begins_as_last ks s ≡ false → P (ks ++ s ∷ [])) → P (with_start ks s)
  by_last P left more = by (begins_as_last ks s) refl
    where
      by : (b : Bool) → begins_as_last ks s ≡ b → P (ks ++ cond b [] (s ∷ []))
      by true e = subst P (sym (append-nil ks)) (left e)
      by false e = more e

  pub still_apart : AreApart ks → EndsUpTo ks s → AreApart (with_start ks s)
  still_apart apart up = by_last AreApart (λ e. apart) (λ e. apart_push ks s apart up e)

  pub still_meets : (left : List (List ℕ)) → Ascend (s ∷ left) → EndsUpTo ks s → MeetsUpTo (with_start ks s) left
  still_meets [] ascend up = tt
  still_meets (t ∷ ts) ascend up =
      by_last (λ l. EndsUpTo l t) (λ e. further ks s t ascend.0 up) (λ e. pushed ks s t ascend.0)

  pub still_tells : (path : List ℕ) (left : Bool)
      → (list_any (begins path) (with_start ks s) || left) ≡ (list_any (begins path) ks || (begins path s || left))
  still_tells path left = by_last
      (λ l. (list_any (begins path) l || left) ≡ (list_any (begins path) ks || (begins path s || left)))
      (λ e. known (list_any (begins path) ks) (begins path s) (covered path ks s e))
      (λ e. ap (λ b. b || left) (list_any-append (begins path) ks (s ∷ []))
      ∙ apart_or (list_any (begins path) ks) (begins path s))
    where
      known : (a b : Bool) → (b ≡ true → a ≡ true) → (a || left) ≡ (a || (b || left))
      known true b so = refl
      known false true so = absurd (false≢true (so refl))
      known false false so = refl

      apart_or : (a b : Bool) → ((a || (b || false)) || left) ≡ (a || (b || left))
      apart_or true b = refl
      apart_or false true = refl
      apart_or false false = refl

pub ascend_left : (s : List ℕ) (left : List (List ℕ)) → Ascend (s ∷ left) → Ascend left
ascend_left s [] ascend = tt
ascend_left s (t ∷ ts) ascend = ascend.1

pub met_all : (left : List (List ℕ)) → MeetsUpTo [] left
met_all [] = tt
met_all (s ∷ ss) = tt

pub none_left : (path : List ℕ) (ks left : List (List ℕ)) → left ≡ []
    → list_any (begins path) ks ≡ (list_any (begins path) ks || list_any (begins path) left)
none_left path ks left is = or_none (list_any (begins path) ks)
    ∙ ap (λ (l : List (List ℕ)). list_any (begins path) ks || list_any (begins path) l) (sym is)
  where
    or_none : (b : Bool) → b ≡ (b || false)
    or_none true = refl
    or_none false = refl

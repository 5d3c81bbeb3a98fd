-- What a heap of first keys gives, seen as fronts.
use Rattle.std.proofs.Common.{◌≡◌, ℕ, ◌<◌, Bool, true, false, List, [], ◌∷◌, map, length, get_or, refl, sym, ap, subst, ◌∙◌, arith}
use Rattle.std.specs.Prelude.{Contains}
use Rattle.std.specs.BinaryHeap.{IsUpperBound}
use Rattle.std.specs.List.{AllByRecursion}
use Rattle.std.specs.List.Sorted.{IsPermutation}
use Rattle.std.specs.Ordering.{nat_cmp, is_lt, is_le, ordering_then}
use Rattle.std.specs.Str.{bytes_eq}
use Rattle.std.specs.declared.cmp.Ordering.TheVariants.{Less}
use Rattle.std.proofs.lemmas.Bool.{false≢true}
use Rattle.std.proofs.lemmas.List.Elements.{All-contains, All-from_recursion}
use Rattle.std.proofs.lemmas.List.Sorted.{IsPermutation-map}
use Rattle.std.proofs.lemmas.Slice.Eq.{bytes_eq-Decides}
use Rattle.seg_termdict.specs.SortedTerms.{key_cmp}
use Rattle.seg_termdict.specs.MergerHeap.{Entry, Front, IsFirstFront, comes_before, front_of, greatest_first}
use Rattle.seg_termdict.proofs.MergeSteps.{at_most_not_same}

first_front : (x : Entry) (xs : List Entry) → IsUpperBound greatest_first x xs → IsFirstFront (front_of x) (map front_of xs)
first_front x [] h = tt
first_front x (y ∷ ys) h = (h.0, first_front x ys h.1)

module _ (fronts : List Front) (xs ys : List Entry) (seen : map front_of xs ≡ fronts) (x : Entry) where
  pub pushed : IsPermutation (x ∷ xs) ys → IsPermutation (front_of x ∷ fronts) (map front_of ys)
  pushed h = subst (λ (fs : List Front). IsPermutation (front_of x ∷ fs) (map front_of ys)) seen (IsPermutation-map front_of (x ∷ xs) ys h)

  pub popped : (key : List ℕ) → (front_of x).0 ≡ key → IsPermutation xs (x ∷ ys) → IsUpperBound greatest_first x ys → IsPermutation fronts ((key, (front_of x).1) ∷ map front_of ys) × IsFirstFront (key, (front_of x).1) (map front_of ys)
  popped key is h top =
      subst (λ (k : List ℕ). IsPermutation fronts ((k, (front_of x).1) ∷ map front_of ys) × IsFirstFront (k, (front_of x).1) (map front_of ys)) is
      (subst (λ (fs : List Front). IsPermutation fs (front_of x ∷ map front_of ys)) seen (IsPermutation-map front_of xs (x ∷ ys) h), first_front x ys top)

module _ (fronts : List Front) (xs : List Entry) (seen : map front_of xs ≡ fronts) (x : Entry) where
  pub first_of : IsUpperBound greatest_first x xs → IsFirstFront (front_of x) fronts
  first_of h = subst (IsFirstFront (front_of x)) seen (first_front x xs h)

  -- the first entry is among the fronts
  pub first_among : 0 < length xs → x ≡ get_or xs 0 x → Contains fronts (front_of x)
  first_among lt is = subst (λ (fs : List Front). Contains fs (front_of x)) seen (of xs lt is)
    where
      of : (es : List Entry) → 0 < length es → x ≡ get_or es 0 x → Contains (map front_of es) (front_of x)
      of [] lt is = absurd (omega (arith, lt))
      of (y ∷ es) lt is = (0, omega arith, ap front_of (sym is))

-- ---- keys

-- where a key is below none, and the first front doesn't have it, no other front has it
after_first : (key : List ℕ) (x y : Front) → is_le (key_cmp key x.0) ≡ true → bytes_eq key x.0 ≡ false → comes_before y x ≡ false → bytes_eq key y.0 ≡ false
after_first key x y low other first = by (bytes_eq key y.0) refl
  where
    by : (b : Bool) → bytes_eq key y.0 ≡ b → b ≡ false
    by true e =
        let less : key_cmp y.0 x.0 ≡ Less = subst (λ (k : List ℕ). key_cmp k x.0 ≡ Less) ((bytes_eq-Decides key y.0).0 e) (at_most_not_same key x.0 low other) in
        absurd (false≢true (sym first ∙ ap (λ o. is_lt (ordering_then o (nat_cmp y.1 x.1))) less))
    by false e = refl

pub none_at : (key : List ℕ) (x : Front) (fronts : List Front) → AllByRecursion (λ y. is_le (key_cmp key y.0) ≡ true) fronts → Contains fronts x → bytes_eq key x.0 ≡ false → IsFirstFront x fronts → AllByRecursion (λ y. bytes_eq key y.0 ≡ false) fronts
none_at key x fronts low has other first = of fronts first
  where
    low_here : is_le (key_cmp key x.0) ≡ true
    low_here = let Low : Front → Type 0 = λ y. is_le (key_cmp key y.0) ≡ true in All-contains Low fronts x (All-from_recursion Low fronts low) has

    of : (ys : List Front) → IsFirstFront x ys → AllByRecursion (λ y. bytes_eq key y.0 ≡ false) ys
    of [] h = tt
    of (y ∷ ys) h = (after_first key x y low_here other h.0, of ys h.1)

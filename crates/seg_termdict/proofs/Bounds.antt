-- Which keys come before a bound.
use Rattle.std.proofs.Common.{◌≡◌, ℕ, ◌+◌, ◌<◌, ◌≤◌, Bool, true, false, List, refl, sym, ap, subst, ◌∙◌, arith, inl, inr}
use Rattle.std.specs.Prelude.{not}
use Rattle.std.specs.Ordering.{nat_cmp, is_lt, is_le, ordering_reverse}
use Rattle.std.specs.Cmp.Lexicographic.{slice_cmp}
use Rattle.std.specs.declared.cmp.Ordering.{Ordering}
use Rattle.std.specs.declared.cmp.Ordering.TheVariants.{Less, Equal, Greater}
use Rattle.std.specs.declared.ops.Bound.{Bound}
use Rattle.std.specs.declared.ops.Bound.TheVariants.{Included, Excluded}
use Rattle.std.proofs.lemmas.Bool.{cases_lt, false≢true}
use Rattle.std.proofs.lemmas.Cmp.{nat_list_cmp_total}
use Rattle.seg_common.proofs.Bytes.{same_term}
use Rattle.seg_termdict.specs.SortedTerms.{is_from}
use Rattle.seg_termdict.specs.Dictionary.{Term, key_of, AreKeys}
use Rattle.seg_termdict.specs.TermRanges.{comes_before, key_at, IsCut}
use Rattle.seg_termdict.proofs.KeyOrder.{rising}

less_before : (through : Bool) (bound a : List ℕ) → slice_cmp nat_cmp a bound ≡ Less → comes_before through bound a ≡ true
less_before false bound a h = ap is_lt h
less_before true bound a h = ap is_le h

greater_behind : (through : Bool) (bound a : List ℕ) → slice_cmp nat_cmp a bound ≡ Greater → comes_before through bound a ≡ false
greater_behind false bound a h = ap is_lt h
greater_behind true bound a h = ap is_le h

module _ (through : Bool) (bound a b : List ℕ) (less : slice_cmp nat_cmp a b ≡ Less) where
  lower_before : comes_before through bound b ≡ true → comes_before through bound a ≡ true
  lower_before h = by (slice_cmp nat_cmp b bound) refl
    where
      by : (r : Ordering) → slice_cmp nat_cmp b bound ≡ r → comes_before through bound a ≡ true
      by Less e = less_before through bound a (nat_list_cmp_total.trans a b bound less e)
      by Equal e = less_before through bound a (subst (λ (k : List ℕ). slice_cmp nat_cmp a k ≡ Less) (same_term b bound e) less)
      by Greater e = absurd (false≢true (sym (greater_behind through bound b e) ∙ h))

  higher_behind : comes_before through bound a ≡ false → comes_before through bound b ≡ false
  higher_behind h = by (comes_before through bound b) refl
    where
      by : (r : Bool) → comes_before through bound b ≡ r → r ≡ false
      by false e = refl
      by true e = absurd (false≢true (sym h ∙ lower_before e))

-- a step of the search for the first key that doesn't come before a bound
module _ (ends keys : List ℕ) (count : ℕ) (are : AreKeys ends keys count) (through : Bool) (bound : List ℕ) (m : ℕ) where
  pub all_before : m < count → comes_before through bound (key_of ends keys m) ≡ true → (k : ℕ) → k < m + 1 → comes_before through bound (key_of ends keys k) ≡ true
  all_before h here k lt =
      elim (cases_lt k m) [
        | inl below ↦ lower_before through bound (key_of ends keys k) (key_of ends keys m) (rising ends keys count are k m below h) here
        | inr le ↦ let e : m ≡ k = omega arith in subst (λ (n : ℕ). comes_before through bound (key_of ends keys n) ≡ true) e here
      ]

  pub all_behind : comes_before through bound (key_of ends keys m) ≡ false → (k : ℕ) → m ≤ k → k < count → comes_before through bound (key_of ends keys k) ≡ false
  all_behind here k le h =
      elim (cases_lt m k) [
        | inl above ↦ higher_behind through bound (key_of ends keys m) (key_of ends keys k) (rising ends keys count are m k above h) here
        | inr past ↦ let e : m ≡ k = omega arith in subst (λ (n : ℕ). comes_before through bound (key_of ends keys n) ≡ false) e here
      ]

-- ---- a lower bound

turned_lt : (o : Ordering) → not (is_le o) ≡ is_lt (ordering_reverse o)
turned_lt Less = refl
turned_lt Equal = refl
turned_lt Greater = refl

turned_le : (o : Ordering) → not (is_lt o) ≡ is_le (ordering_reverse o)
turned_le Less = refl
turned_le Equal = refl
turned_le Greater = refl

same_cut : (terms : List Term) (p q : List ℕ → Bool) (n : ℕ) → ((key : List ℕ) → q key ≡ p key) → IsCut terms p n → IsCut terms q n
same_cut terms p q n same cut = record {
  within = cut.within;
  before = λ i h. same (key_at terms i) ∙ cut.before i h;
  behind = λ i h k. same (key_at terms i) ∙ cut.behind i h k;
}

module _ (terms : List Term) (lower : Bound (List ℕ)) (bound : List ℕ) (n : ℕ) where
  pub from_Included : lower ≡ Included bound → IsCut terms (comes_before false bound) n → IsCut terms (λ key. not (is_from lower key)) n
  from_Included is = same_cut terms (comes_before false bound) (λ key. not (is_from lower key)) n (λ key. ap (λ b. not (is_from b key)) is ∙ turned_lt (slice_cmp nat_cmp bound key) ∙ ap is_lt (sym (nat_list_cmp_total.antisymm key bound)))

  pub from_Excluded : lower ≡ Excluded bound → IsCut terms (comes_before true bound) n → IsCut terms (λ key. not (is_from lower key)) n
  from_Excluded is = same_cut terms (comes_before true bound) (λ key. not (is_from lower key)) n (λ key. ap (λ b. not (is_from b key)) is ∙ turned_le (slice_cmp nat_cmp bound key) ∙ ap is_le (sym (nat_list_cmp_total.antisymm key bound)))

-- The order of the keys of a dictionary, and a step of the search for one.
use Rattle.std.proofs.Common.{◌≡◌, ℕ, zero, suc, ◌+◌, ◌-◌, ◌<◌, ◌≤◌, List, sym, ap, subst, ◌∙◌, arith, inl, inr}
use Rattle.std.specs.Ordering.{nat_cmp}
use Rattle.std.specs.Cmp.Lexicographic.{slice_cmp}
use Rattle.std.specs.declared.cmp.Ordering.{Ordering}
use Rattle.std.specs.declared.cmp.Ordering.TheVariants.{Less, Equal, Greater}
use Rattle.std.proofs.lemmas.Cmp.{nat_list_cmp_total, tied_itself}
use Rattle.std.proofs.lemmas.Bool.{cases_lt}
use Rattle.seg_common.proofs.Bytes.{below_is_above, above_is_below}
use Rattle.seg_termdict.specs.Dictionary.{key_of, AreKeys}

ascends : (ends keys : List ℕ) (count : ℕ) → AreKeys ends keys count → (i k : ℕ) → i + k + 1 < count → slice_cmp nat_cmp (key_of ends keys i) (key_of ends keys (i + k + 1)) ≡ Less
ascends ends keys count are i zero h = let e : i + 0 + 1 ≡ i + 1 = omega arith in rw e (are.ascend i (omega arith))
ascends ends keys count are i (suc k) h =
    let e : i + suc k + 1 ≡ i + k + 1 + 1 = omega arith in
    rw e (nat_list_cmp_total.trans (key_of ends keys i) (key_of ends keys (i + k + 1)) (key_of ends keys (i + k + 1 + 1)) (ascends ends keys count are i k (omega arith)) (are.ascend (i + k + 1) (omega arith)))

pub rising : (ends keys : List ℕ) (count : ℕ) → AreKeys ends keys count → (i j : ℕ) → i < j → j < count → slice_cmp nat_cmp (key_of ends keys i) (key_of ends keys j) ≡ Less
rising ends keys count are i j lt h =
    let e : i + (j - (i + 1)) + 1 ≡ j = omega arith in
    subst (λ (n : ℕ). slice_cmp nat_cmp (key_of ends keys i) (key_of ends keys n) ≡ Less) e (ascends ends keys count are i (j - (i + 1)) (omega arith))

-- a key and the one before it
pub rises_from : (ends keys : List ℕ) (count : ℕ) → AreKeys ends keys count → (i : ℕ) (p k : List ℕ) → 0 < i → i < count → p ≡ key_of ends keys (i - 1) → k ≡ key_of ends keys i → slice_cmp nat_cmp p k ≡ Less
rises_from ends keys count are i p k pos h a b = rw (a, b) (rising ends keys count are (i - 1) i (omega arith) h)

-- ---- keys that compare alike are one

pub not_same : (xs ys : List ℕ) (o : Ordering) → slice_cmp nat_cmp xs ys ≡ o → (o ≡ Equal → ⊥) → xs ≡ ys → ⊥
not_same xs ys o h ne e = ne (sym h ∙ ap (slice_cmp nat_cmp xs) (sym e) ∙ tied_itself nat_list_cmp_total xs)

-- ---- a step of the search

pub below_middle : (ends keys : List ℕ) (count : ℕ) → AreKeys ends keys count → (m k : ℕ) (key : List ℕ) → m < count → slice_cmp nat_cmp (key_of ends keys m) key ≡ Less → k < m + 1 → slice_cmp nat_cmp (key_of ends keys k) key ≡ Less
below_middle ends keys count are m k key h less lt =
    elim (cases_lt k m) [
      | inl below ↦ nat_list_cmp_total.trans (key_of ends keys k) (key_of ends keys m) key (rising ends keys count are k m below h) less
      | inr le ↦ let e : m ≡ k = omega arith in subst (λ (n : ℕ). slice_cmp nat_cmp (key_of ends keys n) key ≡ Less) e less
    ]

pub above_middle : (ends keys : List ℕ) (count : ℕ) → AreKeys ends keys count → (m k : ℕ) (key : List ℕ) → slice_cmp nat_cmp (key_of ends keys m) key ≡ Greater → m ≤ k → k < count → slice_cmp nat_cmp (key_of ends keys k) key ≡ Greater
above_middle ends keys count are m k key greater le h =
    elim (cases_lt m k) [
      | inl above ↦ below_is_above key (key_of ends keys k) (nat_list_cmp_total.trans key (key_of ends keys m) (key_of ends keys k) (above_is_below (key_of ends keys m) key greater) (rising ends keys count are m k above h))
      | inr past ↦ let e : m ≡ k = omega arith in subst (λ (n : ℕ). slice_cmp nat_cmp (key_of ends keys n) key ≡ Greater) e greater
    ]

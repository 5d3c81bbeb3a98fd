-- Values that are seen as entries with bytes as keys, put in the order of these.
use Rattle.std.proofs.Common.{◌≡◌, ℕ, ◌+◌, ◌<◌, true, List, [], ◌∷◌, map, length, get_or, Some, None, Option, sym, refl, ap, subst, ◌∙◌, arith}
use lib.Dec.{T}
use Rattle.std.specs.Ordering.{nat_cmp, is_lt}
use Rattle.std.specs.Cmp.Lexicographic.{slice_cmp, nat_list_cmp_total, nat_list_eq_equiv}
use Rattle.std.proofs.lemmas.Option.{slice_get_read, slice_get-map}
use Rattle.std.specs.Option.{option_map}
use Rattle.std.specs.List.{slice_get, IsDistinct}
use Rattle.std.specs.List.Sorted.{IsPermutation, IsSortedBy, IsStrictlySortedBy}
use Rattle.std.specs.Str.{bytes_eq}
use Rattle.std.specs.Map.{lookup, keys_of, values_of}
use Rattle.std.specs.FinMap.{entries, is_sorted, from_entries, from_sorted, get-from_sorted, entries-from_sorted}
use Rattle.std.proofs.lemmas.List.{get_or-map, length-map}
use Rattle.std.proofs.lemmas.List.Sorted.{IsPermutation-map, IsPermutation-sym, Contains-permutation}
use Rattle.std.proofs.lemmas.Map.Keys.{IsDistinct-IsPermutation, apart_from_distinct, sorted_from_all_adjacent}
use Rattle.std.proofs.lemmas.Map.Views.{Contains-from_lookup, lookup-from_Contains}
use Rattle.seg_common.proofs.Bytes.{same_bytes, in_order}
use Rattle.seg_values.proofs.Exports.{is_sorted-rising}
use Rattle.seg_terms.proofs.ByteMaps.{same_by_bytes, find-lookup, get-lookup}

-- ---- look-ups

module _ {Y : Type 0} where
  found_too : (es fs : List (List ℕ × Y)) → IsPermutation es fs → IsDistinct bytes_eq (keys_of fs)
      → (q : List ℕ) (v : Y) → lookup (bytes_eq q) es ≡ Some v → lookup (bytes_eq q) fs ≡ Some v
  found_too es fs p d q v is = lookup-from_Contains nat_list_eq_equiv q v fs d
      (Contains-permutation es fs (q, v) p (Contains-from_lookup same_bytes q v es is))

  lookup-permuted : (es fs : List (List ℕ × Y)) → IsPermutation es fs → IsDistinct bytes_eq (keys_of es)
      → IsDistinct bytes_eq (keys_of fs) → (q : List ℕ) → lookup (bytes_eq q) es ≡ lookup (bytes_eq q) fs
  lookup-permuted es fs p d k q = each (lookup (bytes_eq q) es) (lookup (bytes_eq q) fs) refl refl
    where
      each : (a b : Option Y) → lookup (bytes_eq q) es ≡ a → lookup (bytes_eq q) fs ≡ b
          → lookup (bytes_eq q) es ≡ lookup (bytes_eq q) fs
      each (Some v) b e f = e ∙ sym (found_too es fs p k q v e)
      each None (Some w) e f = found_too fs es (IsPermutation-sym es fs p) d q w f ∙ sym f
      each None None e f = e ∙ sym f

-- ---- order

module _ {X : Type 0} (key : X → List ℕ) where
  abbrev pub Up : List X → Type 0
  Up ys = IsSortedBy (λ x y. is_lt (slice_cmp nat_cmp (key x) (key y))) ys

module _ {X Y : Type 0} (see : X → List ℕ × Y) where
  abbrev key_of : X → List ℕ
  key_of x = (see x).0

  rises : (ys : List X) → Up key_of ys → IsDistinct bytes_eq (keys_of (map see ys))
      → IsStrictlySortedBy (slice_cmp nat_cmp) (keys_of (map see ys))
  unfolding IsStrictlySortedBy
  rises [] up d = tt
  rises (y ∷ ys) up d = sorted_from_all_adjacent nat_list_cmp_total (keys_of (map see (y ∷ ys))) (key_of y) (λ k lt.
      let n : length (keys_of (map see (y ∷ ys))) ≡ length (y ∷ ys) = length-map (map see (y ∷ ys)) (λ e. e.0)
      ∙ length-map (y ∷ ys) see in
      let one = read (y ∷ ys) k y (omega arith) in
      let two = read (y ∷ ys) (k + 1) y (omega arith) in
      in_order (get_or (keys_of (map see (y ∷ ys))) k (key_of y))
      (get_or (keys_of (map see (y ∷ ys))) (k + 1) (key_of y))
      (ap (λ a. is_lt (slice_cmp nat_cmp a (get_or (keys_of (map see (y ∷ ys))) k (key_of y)))) two
      ∙ ap (λ a. is_lt (slice_cmp nat_cmp (key_of (get_or (y ∷ ys) (k + 1) y)) a)) one
      ∙ up k y (omega arith) (omega arith))
      (apart_from_distinct bytes_eq _ k (k + 1) (key_of y) d (omega arith) lt))
    where
      read : (zs : List X) (k : ℕ) (z : X) → k < length zs
          → get_or (keys_of (map see zs)) k (key_of z) ≡ key_of (get_or zs k z)
      read zs k z lt =
          get_or-map (λ (e : List ℕ × Y). e.0) (map see zs) k (see z) (key_of z)
          (let n : length (map see zs) ≡ length zs = length-map zs see in omega arith)
          ∙ ap (λ (e : List ℕ × Y). e.0) (get_or-map see zs k z (see z) lt)

module _ {Y : Type 0} where
  entries-permuted : (es fs : List (List ℕ × Y)) → IsPermutation es fs → IsDistinct bytes_eq (keys_of es)
      → IsDistinct bytes_eq (keys_of fs) → is_sorted (slice_cmp nat_cmp) fs ≡ true
      → entries (from_entries {R = slice_cmp nat_cmp} es) ≡ fs
  entries-permuted es fs p d k up =
      let sorted : T (is_sorted (slice_cmp nat_cmp) fs) = subst T (sym up) tt in
      ap entries (same_by_bytes (from_entries es) (from_sorted fs) (λ q.
      get-lookup es q ∙ lookup-permuted es fs p d k q ∙ sym (find-lookup q fs)
      ∙ sym (get-from_sorted (slice_cmp nat_cmp) fs q sorted)))
      ∙ entries-from_sorted (slice_cmp nat_cmp) fs sorted

module _ {X Y : Type 0} (see : X → List ℕ × Y) (xs ys : List X) (p : IsPermutation xs ys) (up : Up (λ x. (see x).0) ys)
    (d : IsDistinct bytes_eq (keys_of (map see xs))) where
  permuted : IsPermutation (map see xs) (map see ys)
  permuted = IsPermutation-map see xs ys p

  still_apart : IsDistinct bytes_eq (keys_of (map see ys))
  still_apart = IsDistinct-IsPermutation bytes_eq (λ x y. nat_list_eq_equiv.symm x y) _ _
      (IsPermutation-map (λ (e : List ℕ × Y). e.0) _ _ permuted) d

  -- what a sort of distinct keys leaves is in order
  pub is_sorted-seen : is_sorted (slice_cmp nat_cmp) (map see ys) ≡ true
  is_sorted-seen = is_sorted-rising (map see ys) (rises see ys up still_apart)

  -- and it is the map's entries
  pub entries-seen : entries (from_entries {R = slice_cmp nat_cmp} (map see xs)) ≡ map see ys
  entries-seen = entries-permuted (map see xs) (map see ys) permuted d still_apart is_sorted-seen

-- the entry at a place
module _ {X Y : Type 0} (see : X → List ℕ × Y) (xs : List X) (es : List (List ℕ × Y)) (same : map see xs ≡ es) (i : ℕ)
    (x : X) (lt : i < length es) (is : x ≡ get_or xs i x) where
  pub place_within : i < length xs
  place_within = let n : length es ≡ length xs = ap length (sym same) ∙ length-map xs see in omega (arith, lt, n)

  at_place : slice_get es i ≡ Some (see x)
  at_place = ap (λ l. slice_get l i) (sym same) ∙ slice_get-map see xs i
      ∙ ap (option_map see) (slice_get_read xs (length xs) i x refl place_within is)

  pub key_at : slice_get (keys_of es) i ≡ Some (see x).0
  key_at = slice_get-map (λ (e : List ℕ × Y). e.0) es i ∙ ap (option_map (λ (e : List ℕ × Y). e.0)) at_place

  pub value_at : slice_get (values_of es) i ≡ Some (see x).1
  value_at = slice_get-map (λ (e : List ℕ × Y). e.1) es i ∙ ap (option_map (λ (e : List ℕ × Y). e.1)) at_place

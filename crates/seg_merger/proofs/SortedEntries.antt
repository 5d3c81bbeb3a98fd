-- Entries in the order of their keys.
use Rattle.std.proofs.Common.{◌≡◌, ℕ, true, cond, T, List, [], ◌∷◌, ◌++◌, map, Some, None, Option, sym, refl, ap, ◌∙◌, subst}
use Rattle.std.specs.Cmp.Lexicographic.{nat_list_cmp_total}
use Rattle.std.specs.FinMap.{FinMap, entries, entries-from_sorted, entries_sorted, find, from_entries, from_sorted, get-from_entries, get-from_sorted, is_sorted, same_map}
use Rattle.std.specs.FinMap.Entries.{below_all}
use Rattle.std.specs.List.{flat_map}
use Rattle.std.specs.Ordering.{is_lt, is_eq, ordering_reverse}
use Rattle.std.specs.declared.cmp.Ordering.TheVariants.{Less, Greater}
use Rattle.std.proofs.lemmas.Bool.{and_from, and_parts}
use Rattle.std.proofs.lemmas.Cmp.{tied_itself}
use Rattle.seg_common.proofs.TabulatedMaps.{texts_apart}
use Rattle.seg_common.proofs.Numbers.{is_less}
use Rattle.seg_common.proofs.Bools.{true_of}
use Rattle.seg_termdict.specs.SortedTerms.{key_cmp}
use Rattle.seg_common.specs.TabulatedMaps.{entry_of}

-- the entries of a map are sorted
pub sorted_entries : {X : Type 0} (m : FinMap key_cmp X) (es : List (List ℕ × X)) → entries m ≡ es → is_sorted key_cmp es ≡ true
sorted_entries m es are = true_of _ (subst (λ xs. T (is_sorted key_cmp xs)) are (entries_sorted m))

-- and sorted entries are those of their map
pub entries_from : {X : Type 0} (es : List (List ℕ × X)) → is_sorted key_cmp es ≡ true → entries (from_entries {R = key_cmp} es) ≡ es
entries_from es up =
    let sorted = subst T (sym up) tt in
    ap entries (same_map nat_list_cmp_total texts_apart (from_entries es) (from_sorted es) (λ q. get-from_entries nat_list_cmp_total es q ∙ sym (get-from_sorted key_cmp es q sorted)))
    ∙ entries-from_sorted key_cmp es sorted

-- ---- one of the entries

module _ {X : Type 0} where
  below_there : (k : List ℕ) (passed : List (List ℕ × X)) (e : List ℕ × X) (left : List (List ℕ × X)) → below_all key_cmp k (passed ++ e ∷ left) ≡ true → key_cmp k e.0 ≡ Less
  below_there k [] e left h = is_less (key_cmp k e.0) (and_parts (is_lt (key_cmp k e.0)) (below_all key_cmp k left) h).0
  below_there k (p ∷ passed) e left h = below_there k passed e left (and_parts (is_lt (key_cmp k p.0)) (below_all key_cmp k (passed ++ e ∷ left)) h).1

  -- the first of some entries comes before those after it
  pub first_below : (p : List ℕ × X) (passed : List (List ℕ × X)) (e : List ℕ × X) (left : List (List ℕ × X)) → is_sorted key_cmp (p ∷ (passed ++ e ∷ left)) ≡ true → key_cmp p.0 e.0 ≡ Less
  first_below p passed e left up = below_there p.0 passed e left (and_parts (below_all key_cmp p.0 (passed ++ e ∷ left)) (is_sorted key_cmp (passed ++ e ∷ left)) up).0

  -- the value at the key of an entry is its own
  pub find_there : (passed : List (List ℕ × X)) (e : List ℕ × X) (left : List (List ℕ × X)) → is_sorted key_cmp (passed ++ e ∷ left) ≡ true → find key_cmp e.0 (passed ++ e ∷ left) ≡ Some e.1
  find_there [] e left up = ap (λ o. cond (is_eq o) (Some e.1) (find key_cmp e.0 left)) (tied_itself nat_list_cmp_total e.0)
  find_there (p ∷ passed) e left up =
      let more : key_cmp e.0 p.0 ≡ Greater = nat_list_cmp_total.antisymm e.0 p.0 ∙ ap ordering_reverse (first_below p passed e left up) in
      ap (λ o. cond (is_eq o) (Some p.1) (find key_cmp e.0 (passed ++ e ∷ left))) more
      ∙ find_there passed e left (and_parts (below_all key_cmp p.0 (passed ++ e ∷ left)) (is_sorted key_cmp (passed ++ e ∷ left)) up).1

-- ---- a value for some of the keys

module _ {X Y : Type 0} (f : List ℕ → Option X) where
  abbrev some_entries : List (List ℕ × Y) → List (List ℕ × X)
  some_entries es = flat_map (λ k. entry_of k (f k)) (map (λ (e : List ℕ × Y). e.0) es)

  some_below : (k : List ℕ) (es : List (List ℕ × Y)) → below_all key_cmp k es ≡ true → below_all key_cmp k (some_entries es) ≡ true
  some_below k [] h = refl
  some_below k (e ∷ es) h = let p = and_parts (is_lt (key_cmp k e.0)) (below_all key_cmp k es) h in by (f e.0) p.0 (some_below k es p.1)
    where
      by : (o : Option X) → is_lt (key_cmp k e.0) ≡ true → below_all key_cmp k (some_entries es) ≡ true → below_all key_cmp k (entry_of e.0 o ++ some_entries es) ≡ true
      by None less rest = rest
      by (Some x) less rest = and_from _ _ less rest

  -- what is at some of sorted keys is sorted
  pub some_sorted : (es : List (List ℕ × Y)) → is_sorted key_cmp es ≡ true → is_sorted key_cmp (flat_map (λ k. entry_of k (f k)) (map (λ (e : List ℕ × Y). e.0) es)) ≡ true
  some_sorted [] h = refl
  some_sorted (e ∷ es) h = let p = and_parts (below_all key_cmp e.0 es) (is_sorted key_cmp es) h in by (f e.0) (some_below e.0 es p.0) (some_sorted es p.1)
    where
      by : (o : Option X) → below_all key_cmp e.0 (some_entries es) ≡ true → is_sorted key_cmp (some_entries es) ≡ true → is_sorted key_cmp (entry_of e.0 o ++ some_entries es) ≡ true
      by None low rest = rest
      by (Some x) low rest = and_from _ _ low rest

-- Entries that tests and sums don't tell apart say the same.
use Rattle.std.proofs.Common.{◌≡◌, ℕ, ◌+◌, Bool, true, false, cond, List, [], ◌∷◌, map, Some, None, Option, sym, refl, ap, ◌∙◌, unwrap_or}
use Rattle.std.specs.Prelude.{◌||◌, ◌&&◌, is_some, Vec}
use Rattle.std.specs.declared.alloc.Global.{Global}
use Rattle.std.specs.List.{filter, flat_map, list_any, sum_by}
use Rattle.std.specs.List.Sorted.{IsPermutation}
use Rattle.std.specs.FinMap.{entries}
use Rattle.std.proofs.lemmas.List.Folds.{list_any-append}
use Rattle.std.proofs.lemmas.List.Sorted.{list_any-IsPermutation, sum_by-IsPermutation}
use Rattle.std.proofs.lemmas.Simd.{map-map}
use Rattle.std.proofs.lemmas.List.Sums.{sum_by-append, sum_by-cons}
use Rattle.seg_common.proofs.TabulatedMaps.{same_table}
use Rattle.seg_common.proofs.Numbers.{zero_plus}
use Rattle.seg_field_metadata.specs.MetadataEntries.{Entry, Key, Known, entry_of, together, total}
use Rattle.seg_field_metadata.specs.MergedMetadata.{all_entries, at_key, has_key, merged}
use Rattle.seg_field_metadata.specs.declared.field_metadata.FieldMetadata.{FieldMetadata}
use Rattle.seg_field_metadata.proofs.KeyOrder.{key_cmp_total, keys_apart}
use Rattle.seg_field_metadata.proofs.EntriesByKey.{complete}

-- no test and no sum tells entries apart
pub record AreAlike (es fs : List Entry) : Type 0 where
  pub tests : (p : Entry → Bool) → list_any p es ≡ list_any p fs
  pub sums : (f : Entry → ℕ) → sum_by f es ≡ sum_by f fs

pub alike_moved : (es fs : List Entry) → IsPermutation es fs → AreAlike es fs
alike_moved es fs h = record {
  tests = λ p. list_any-IsPermutation p es fs h;
  sums = λ f. sym (sum_by-IsPermutation f es fs h);
}

-- ---- lists of entries in another order

list_any-flat : {X : Type 0} (f : X → List Entry) (p : Entry → Bool) (xs : List X)
    → list_any p (flat_map f xs) ≡ list_any (λ x. list_any p (f x)) xs
list_any-flat f p [] = refl
list_any-flat f p (x ∷ xs) = list_any-append p (f x) (flat_map f xs)
    ∙ ap (λ b. list_any p (f x) || b) (list_any-flat f p xs)

sum_by-flat : {X : Type 0} (f : X → List Entry) (g : Entry → ℕ) (xs : List X)
    → sum_by g (flat_map f xs) ≡ sum_by (λ x. sum_by g (f x)) xs
sum_by-flat f g [] = refl
sum_by-flat f g (x ∷ xs) =
    sum_by-append g (f x) (flat_map f xs) ∙ ap (λ n. sum_by g (f x) + n) (sum_by-flat f g xs)
    ∙ sym (sum_by-cons (λ x. sum_by g (f x)) x xs)

abbrev entries_in : Vec FieldMetadata Global → List Entry
entries_in l = map entry_of l.items

pub alike_lists : (ls ms : List (Vec FieldMetadata Global)) → IsPermutation ls ms
    → AreAlike (all_entries ls) (all_entries ms)
alike_lists ls ms h = record {
  tests = λ p. list_any-flat entries_in p ls ∙ list_any-IsPermutation (λ l. list_any p (entries_in l)) ls ms h
      ∙ sym (list_any-flat entries_in p ms);
  sums = λ f. sum_by-flat entries_in f ls ∙ sym (sum_by-IsPermutation (λ l. sum_by f (entries_in l)) ls ms h)
      ∙ sym (sum_by-flat entries_in f ms);
}

-- ---- what they say at a key

list_any-of : {Y : Type 0} (p : Entry → Bool) (g : Entry → Y) (t : Y → Bool) (es : List Entry)
    → list_any t (map g (filter p es)) ≡ list_any (λ e. p e && t (g e)) es
list_any-of p g t [] = refl
list_any-of p g t (e ∷ es) = by (p e) (list_any-of p g t es)
  where
    by : (b : Bool) → list_any t (map g (filter p es)) ≡ list_any (λ e. p e && t (g e)) es
        → list_any t (map g (cond b (e ∷ filter p es) (filter p es)))
        ≡ ((b && t (g e)) || list_any (λ e. p e && t (g e)) es)
    by true rest = ap (λ b. t (g e) || b) rest
    by false rest = rest

sum_by-of : {Y : Type 0} (p : Entry → Bool) (g : Entry → Y) (f : Y → ℕ) (es : List Entry)
    → sum_by f (map g (filter p es)) ≡ sum_by (λ e. cond (p e) (f (g e)) 0) es
sum_by-of p g f [] = refl
sum_by-of p g f (e ∷ es) = by (p e) (sum_by-of p g f es) ∙ sym (sum_by-cons (λ e. cond (p e) (f (g e)) 0) e es)
  where
    by : (b : Bool) → sum_by f (map g (filter p es)) ≡ sum_by (λ e. cond (p e) (f (g e)) 0) es
        → sum_by f (map g (cond b (e ∷ filter p es) (filter p es)))
        ≡ cond b (f (g e)) 0 + sum_by (λ e. cond (p e) (f (g e)) 0) es
    by true rest = sum_by-cons f (g e) (map g (filter p es)) ∙ ap (λ n. f (g e) + n) rest
    by false rest = rest ∙ sym (zero_plus (sum_by (λ e. cond (p e) (f (g e)) 0) es))

same_total : (ss ts : List (Option ℕ)) → list_any is_some ss ≡ list_any is_some ts
    → sum_by (λ o. unwrap_or o 0) ss ≡ sum_by (λ o. unwrap_or o 0) ts → total ss ≡ total ts
same_total ss ts there sums = λ i. cond (there i) (Some (sums i)) None

module _ (es fs : List Entry) (alike : AreAlike es fs) where
  any_same : {Y : Type 0} (p : Entry → Bool) (g : Entry → Y) (t : Y → Bool)
      → list_any t (map g (filter p es)) ≡ list_any t (map g (filter p fs))
  any_same p g t = list_any-of p g t es ∙ alike.tests (λ e. p e && t (g e)) ∙ sym (list_any-of p g t fs)

  total_same : (p : Entry → Bool) (size : Known → Option ℕ)
      → total (map size (map (λ (e : Entry). e.1) (filter p es)))
      ≡ total (map size (map (λ (e : Entry). e.1) (filter p fs)))
  total_same p size =
      ap total (map-map size (λ (e : Entry). e.1) (filter p es))
      ∙ same_total (map (λ (e : Entry). size e.1) (filter p es)) (map (λ (e : Entry). size e.1) (filter p fs))
      (any_same p (λ e. size e.1) is_some)
      (sum_by-of p (λ e. size e.1) (λ o. unwrap_or o 0) es ∙ alike.sums (λ e. cond (p e) (unwrap_or (size e.1) 0) 0)
      ∙ sym (sum_by-of p (λ e. size e.1) (λ o. unwrap_or o 0) fs))
      ∙ ap total (sym (map-map size (λ (e : Entry). e.1) (filter p fs)))

  together_same : (p : Entry → Bool) → together (map (λ (e : Entry). e.1) (filter p es))
      ≡ together (map (λ (e : Entry). e.1) (filter p fs))
  together_same p = λ i. record {
    stored = any_same p (λ (e : Entry). e.1) (λ (k : Known). k.stored) i;
    fast = total_same p (λ k. k.fast) i;
    terms = total_same p (λ k. k.terms) i;
    postings = total_same p (λ k. k.postings) i;
    positions = total_same p (λ k. k.positions) i;
  }

  pub at_key_same : (q : Key) → at_key es q ≡ at_key fs q
  at_key_same q = λ i. cond (alike.tests (has_key q) i) (Some (together_same (has_key q) i)) None

  pub merged_same : merged es ≡ merged fs
  merged_same = ap entries (same_table key_cmp_total keys_apart (at_key es) (at_key fs) (map (λ (e : Entry). e.0) es)
      (map (λ (e : Entry). e.0) fs) (complete es) (complete fs) at_key_same)

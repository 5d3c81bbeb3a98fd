-- Sorted metadata, merged entry by entry.
use Rattle.std.proofs.Common.{◌≡◌, ℕ, suc, ◌+◌, true, false, cond, List, [], ◌∷◌, ◌++◌, map, get_or, None, Result, Ok, Err, sym, refl, ap, subst, ◌∙◌, arith}
use Rattle.std.specs.Prelude.{◌&&◌, Vec, IfErr, OnErr}
use Rattle.std.specs.declared.alloc.Global.{Global}
use Rattle.std.specs.List.{flat_map}
use Rattle.std.specs.List.Sorted.{IsPermutation, IsSortedByKey}
use Rattle.std.specs.Ordering.{is_lt}
use Rattle.std.proofs.lemmas.List.{map-append}
use Rattle.std.proofs.lemmas.List.Folds.{list_all-append}
use Rattle.std.proofs.lemmas.List.Sorted.{IsPermutation-map, IsPermutation-sym}
use Rattle.std.proofs.Math.Bool.{and-false}
use Rattle.seg_values.specs.declared.error.TantivyError.{TantivyError}
use Rattle.seg_values.specs.declared.error.TantivyError.TheVariants.{InvalidArgument}
use Rattle.seg_values.specs.declared.error.ArgumentCause.TheVariants.{SizeOverflow}
use Rattle.seg_field_metadata.specs.MetadataEntries.{Entry, Key, entry_of, fits, key_cmp, key_of, together}
use Rattle.seg_field_metadata.specs.GroupedEntries.{grouped, grouped_after}
use Rattle.seg_field_metadata.specs.MergedMetadata.{MergeFails, all_entries, at_key, has_key, merged, sizes_fit}
use Rattle.seg_field_metadata.specs.declared.field_metadata.FieldMetadata.{FieldMetadata}
use Rattle.seg_field_metadata.proofs.EntriesByKey.{Rises, by_test, found, merged_from_finds, merged_pair, rising}
use Rattle.seg_field_metadata.proofs.AlikeEntries.{alike_moved, at_key_same}
use Rattle.seg_field_metadata.proofs.EntrySums.{unfit-more}

-- ---- sorted metadata

tail_sorted : (m : FieldMetadata) (ms : List FieldMetadata) → IsSortedByKey key_of key_cmp (m ∷ ms)
    → IsSortedByKey key_of key_cmp ms
tail_sorted m ms up k d le lt =
    let e : suc k + 1 ≡ suc (k + 1) = omega arith in
    subst (λ (n : ℕ). is_lt (key_cmp (key_of (get_or (m ∷ ms) n d)) (key_of (get_or ms k d))) ≡ false) e
    (up (suc k) d (omega arith) (omega (arith, lt)))

rises : (m : FieldMetadata) (ms : List FieldMetadata) → IsSortedByKey key_of key_cmp (m ∷ ms)
    → Rises (key_of m) (map entry_of ms)
rises m [] up = tt
rises m (n ∷ ms) up = (up 0 m (omega arith) (omega arith), rises n ms (tail_sorted m (n ∷ ms) up))

grouped_merged : (ms : List FieldMetadata) (es : List Entry) → IsSortedByKey key_of key_cmp ms
    → ((q : Key) → at_key (map entry_of ms) q ≡ at_key es q) → grouped None (map entry_of ms) ≡ merged es
grouped_merged [] es up alike = merged_from_finds [] es refl alike
grouped_merged (m ∷ ms) es up alike =
    let rise = rises m ms up in
    merged_from_finds (grouped_after (entry_of m) (map entry_of ms)) es (rising (entry_of m) (map entry_of ms) rise)
    (λ q. found q (entry_of m) (map entry_of ms) rise ∙ alike q)

joined_entries : (lists : List (Vec FieldMetadata Global))
    → map entry_of (flat_map (λ (l : Vec FieldMetadata Global). l.items) lists) ≡ all_entries lists
joined_entries [] = refl
joined_entries (l ∷ lists) = map-append entry_of l.items (flat_map (λ (l : Vec FieldMetadata Global). l.items) lists)
    ∙ ap (λ r. map entry_of l.items ++ r) (joined_entries lists)

-- those of all lists, sorted and grouped, are the lists merged
pub sorted_merged : (lists : List (Vec FieldMetadata Global)) (all sorted : List FieldMetadata)
    → all ≡ flat_map (λ (l : Vec FieldMetadata Global). l.items) lists → IsPermutation all sorted
    → IsSortedByKey key_of key_cmp sorted
    → grouped None (map entry_of sorted) ≡ merged (all_entries lists)
sorted_merged lists all sorted are moved up =
    grouped_merged sorted (all_entries lists) up
    (λ q. at_key_same (map entry_of sorted) (map entry_of all)
    (alike_moved (map entry_of sorted) (map entry_of all)
    (IsPermutation-map entry_of sorted all (IsPermutation-sym all sorted moved))) q
    ∙ ap (λ es. at_key es q) (ap (map entry_of) are ∙ joined_entries lists))

-- ---- sizes that pass 64 bits

unfit_after : (p : Entry) (es : List Entry) → fits p.1 ≡ false → sizes_fit (grouped_after p es) ≡ false
unfit_after p [] unfit = ap (λ b. b && true) unfit
unfit_after p (e ∷ es) unfit =
    by_test (λ b. sizes_fit (cond b (grouped_after (merged_pair p e) es) (p ∷ grouped_after e es)) ≡ false)
    (has_key p.0 e)
    (λ _. unfit_after (merged_pair p e) es (unfit-more p.1 e.1 unfit))
    (λ _. ap (λ b. b && sizes_fit (grouped_after e es)) unfit)

after_same : (p e : Entry) (rest : List Entry) → has_key p.0 e ≡ true
    → sizes_fit (grouped_after p (e ∷ rest)) ≡ sizes_fit (grouped_after (merged_pair p e) rest)
after_same p e rest same =
    ap (λ b. sizes_fit (cond b (grouped_after (merged_pair p e) rest) (p ∷ grouped_after e rest))) same

-- where they do for two entries of a key, they do for all
pub unfit_grouped : (done : List Entry) (p e : Entry) (rest : List Entry) → has_key p.0 e ≡ true
    → fits (together (p.1 ∷ e.1 ∷ [])) ≡ false
    → sizes_fit (done ++ grouped_after p (e ∷ rest)) ≡ false
unfit_grouped done p e rest same unfit =
    list_all-append (λ (e : Entry). fits e.1) done (grouped_after p (e ∷ rest))
    ∙ ap (λ b. sizes_fit done && b) (after_same p e rest same)
    ∙ ap (λ b. sizes_fit done && b) (unfit_after (merged_pair p e) rest unfit)
    ∙ and-false (sizes_fit done)

-- so a failing step is why all fail
pub overflows : (r : Result FieldMetadata TantivyError) (done : List Entry) (p e : Entry) → has_key p.0 e ≡ true
    → IfErr r (λ x. x ≡ InvalidArgument SizeOverflow) → OnErr r (fits (together (p.1 ∷ e.1 ∷ [])) ≡ false)
    → IfErr r (λ x. (rest : List Entry) → MergeFails (done ++ grouped_after p (e ∷ rest)) x)
overflows (Ok m) done p e same is passes = tt
overflows (Err x) done p e same is passes = λ rest. subst (MergeFails (done ++ grouped_after p (e ∷ rest))) (sym is)
    (unfit_grouped done p e rest same passes)

-- What entries say at each key, and where keys rise.
use Rattle.std.proofs.Common.{◌≡◌, Bool, true, false, cond, List, [], ◌∷◌, map, Some, None, Option, T, sym, refl, ap, subst, ◌∙◌}
use Rattle.std.specs.Prelude.{◌||◌}
use mathlib.Core.Bool.{true≢false}
use Rattle.std.specs.List.{filter, list_any}
use Rattle.std.specs.declared.cmp.Ordering.{Ordering}
use Rattle.std.specs.declared.cmp.Ordering.TheVariants.{Less, Equal, Greater}
use Rattle.std.specs.Ordering.{eq_by_cmp, is_eq, is_lt, ordering_reverse}
use Rattle.std.specs.Cmp.{IsTotalOrder}
use Rattle.std.specs.FinMap.{FinMap, entries, entries-from_sorted, find, from_sorted, get-from_sorted, is_sorted}
use Rattle.std.specs.FinMap.Entries.{below_all}
use Rattle.std.proofs.lemmas.Bool.{and_from}
use Rattle.seg_common.proofs.Lists.{list_any-map}
use Rattle.seg_common.proofs.TabulatedMaps.{IsComplete, same_key, table_from_gets}
use Rattle.seg_common.specs.TabulatedMaps.{tabulated}
use Rattle.seg_field_metadata.specs.MetadataEntries.{Entry, Key, Known, key_cmp, together}
use Rattle.seg_field_metadata.specs.GroupedEntries.{grouped_after}
use Rattle.seg_field_metadata.specs.MergedMetadata.{at_key, has_key, merged}
use Rattle.seg_field_metadata.proofs.KeyOrder.{key_cmp_total, keys_apart}
use Rattle.seg_field_metadata.proofs.EntrySums.{together-first, together-one}

-- ---- the order of keys

pub by_test : (P : Bool → Type 0) (b : Bool) → (b ≡ true → P true) → (b ≡ false → P false) → P b
by_test P true f g = f refl
by_test P false f g = g refl

pub same_keys : (k q : Key) → eq_by_cmp key_cmp k q ≡ true → k ≡ q
same_keys k q e = same_key keys_apart k q e

turned : (k q : Key) → key_cmp q k ≡ ordering_reverse (key_cmp k q)
turned k q = let o : IsTotalOrder key_cmp = key_cmp_total in o.antisymm q k

-- a key that is neither above another one nor the same is below it
below : (k q : Key) → is_lt (key_cmp q k) ≡ false → eq_by_cmp key_cmp k q ≡ false → key_cmp k q ≡ Less
below k q not_above other = by (key_cmp k q) refl
  where
    by : (o : Ordering) → key_cmp k q ≡ o → o ≡ Less
    by Less e = refl
    by Equal e = absurd (true≢false (ap is_eq (sym e) ∙ other))
    by Greater e = absurd (true≢false (sym (ap is_lt (turned k q ∙ ap ordering_reverse e)) ∙ not_above))

below_through : (q k m : Key) → key_cmp q k ≡ Less → key_cmp k m ≡ Less → key_cmp q m ≡ Less
below_through q k m f g = let o : IsTotalOrder key_cmp = key_cmp_total in o.trans q k m f g

-- one that is below another is below each that isn't below that
still_below : (q k m : Key) → key_cmp q k ≡ Less → is_lt (key_cmp m k) ≡ false → key_cmp q m ≡ Less
still_below q k m less not_above =
    by_test (λ _. key_cmp q m ≡ Less) (eq_by_cmp key_cmp k m)
    (λ e. subst (λ x. key_cmp q x ≡ Less) (same_keys k m e) less)
    (λ e. below_through q k m less (below k m not_above e))

-- keys that don't fall, from one on
abbrev pub Rises : Key → List Entry → Type 0
Rises k [] = Unit {0}
Rises k (e ∷ es) = (is_lt (key_cmp e.0 k) ≡ false) × Rises e.0 es

rises_from : (k m : Key) (es : List Entry) → k ≡ m → Rises m es → Rises k es
rises_from k m es same h = subst (λ x. Rises x es) (sym same) h

-- ---- what is grouped

abbrev pub merged_pair : Entry → Entry → Entry
merged_pair p e = (p.0, together (p.1 ∷ e.1 ∷ []))

above : (k : Key) (p : Entry) (es : List Entry) → key_cmp k p.0 ≡ Less → Rises p.0 es
    → below_all key_cmp k (grouped_after p es) ≡ true
above k p [] less h = and_from _ _ (ap is_lt less) refl
above k p (e ∷ es) less h =
    by_test (λ b. below_all key_cmp k (cond b (grouped_after (merged_pair p e) es) (p ∷ grouped_after e es)) ≡ true)
    (has_key p.0 e)
    (λ same. above k (merged_pair p e) es less (rises_from p.0 e.0 es (same_keys p.0 e.0 same) h.1))
    (λ other. and_from _ _ (ap is_lt less) (above k e es (still_below k p.0 e.0 less h.0) h.1))

pub rising : (p : Entry) (es : List Entry) → Rises p.0 es → is_sorted key_cmp (grouped_after p es) ≡ true
rising p [] h = refl
rising p (e ∷ es) h =
    by_test (λ b. is_sorted key_cmp (cond b (grouped_after (merged_pair p e) es) (p ∷ grouped_after e es)) ≡ true)
    (has_key p.0 e)
    (λ same. rising (merged_pair p e) es (rises_from p.0 e.0 es (same_keys p.0 e.0 same) h.1))
    (λ other. and_from _ _ (above p.0 e es (below p.0 e.0 h.0 other) h.1) (rising e es h.1))

none_above : (q k : Key) (es : List Entry) → key_cmp q k ≡ Less → Rises k es → filter (has_key q) es ≡ []
none_above q k [] less h = refl
none_above q k (e ∷ es) less h =
    let under : key_cmp q e.0 ≡ Less = still_below q k e.0 less h.0 in
    ap (λ o. cond (is_eq o) (e ∷ filter (has_key q) es) (filter (has_key q) es)) under ∙ none_above q e.0 es under h.1

abbrev said : List Entry → Option Known
said es = Some (together (map (λ (e : Entry). e.1) es))

at_key-same : (q : Key) (p e : Entry) (es : List Entry) → p.0 ≡ e.0
    → at_key (merged_pair p e ∷ es) q ≡ at_key (p ∷ e ∷ es) q
at_key-same q p e es same = by (has_key q p) (has_key q e) (ap (eq_by_cmp key_cmp q) same)
  where
    by : (a b : Bool) → a ≡ b
        → cond (a || list_any (has_key q) es)
        (said (cond a (merged_pair p e ∷ filter (has_key q) es) (filter (has_key q) es))) None
        ≡ cond (a || (b || list_any (has_key q) es))
        (said (cond a (p ∷ cond b (e ∷ filter (has_key q) es) (filter (has_key q) es))
        (cond b (e ∷ filter (has_key q) es) (filter (has_key q) es)))) None
    by true true s = ap Some (together-first p.1 e.1 (map (λ (e : Entry). e.1) (filter (has_key q) es)))
    by true false s = absurd (true≢false s)
    by false true s = absurd (true≢false (sym s))
    by false false s = refl

-- the first of its key, and the last
at_key-alone : (q : Key) (p : Entry) (es : List Entry) → (has_key q p ≡ true → filter (has_key q) es ≡ [])
    → cond (has_key q p) (Some p.1) (at_key es q) ≡ at_key (p ∷ es) q
at_key-alone q p es alone = by (has_key q p) refl
  where
    by : (b : Bool) → has_key q p ≡ b
        → cond b (Some p.1) (at_key es q)
        ≡ cond (b || list_any (has_key q) es)
        (said (cond b (p ∷ filter (has_key q) es) (filter (has_key q) es))) None
    by true e = ap Some (sym (together-one p.1)) ∙ ap (λ (l : List Entry). said (p ∷ l)) (sym (alone e))
    by false e = refl

none_after : (q : Key) (p e : Entry) (es : List Entry) → key_cmp p.0 e.0 ≡ Less → Rises e.0 es → has_key q p ≡ true
    → filter (has_key q) (e ∷ es) ≡ []
none_after q p e es less h at =
    let under : key_cmp q e.0 ≡ Less = subst (λ x. key_cmp x e.0 ≡ Less) (sym (same_keys q p.0 at)) less in
    ap (λ o. cond (is_eq o) (e ∷ filter (has_key q) es) (filter (has_key q) es)) under ∙ none_above q e.0 es under h

pub found : (q : Key) (p : Entry) (es : List Entry) → Rises p.0 es
    → find key_cmp q (grouped_after p es) ≡ at_key (p ∷ es) q
found q p [] h = at_key-alone q p [] (λ e. refl)
found q p (e ∷ es) h =
    by_test (λ b. find key_cmp q (cond b (grouped_after (merged_pair p e) es) (p ∷ grouped_after e es))
    ≡ at_key (p ∷ e ∷ es) q) (has_key p.0 e)
    (λ same. found q (merged_pair p e) es (rises_from p.0 e.0 es (same_keys p.0 e.0 same) h.1)
    ∙ at_key-same q p e es (same_keys p.0 e.0 same))
    (λ other. ap (cond (has_key q p) (Some p.1)) (found q e es h.1)
    ∙ at_key-alone q p (e ∷ es) (none_after q p e es (below p.0 e.0 h.0 other) h.1))

-- ---- merged

pub complete : (es : List Entry) → IsComplete key_cmp_total keys_apart (at_key es) (map (λ (e : Entry). e.0) es)
complete es = record {
  outside = λ q none. ap (λ b. cond b (said (filter (has_key q) es)) None)
      (sym (list_any-map (eq_by_cmp key_cmp q) (λ (e : Entry). e.0) es) ∙ none);
}

-- sorted entries that say at each key what others say are these, merged
pub merged_from_finds : (gs es : List Entry) → is_sorted key_cmp gs ≡ true
    → ((q : Key) → find key_cmp q gs ≡ at_key es q) → gs ≡ merged es
merged_from_finds gs es up finds =
    let sorted : T (is_sorted key_cmp gs) = subst T (sym up) tt in
    let table : FinMap key_cmp Known = from_sorted gs in
    let same : table ≡ tabulated (at_key es) (map (λ (e : Entry). e.0) es) =
    table_from_gets key_cmp_total keys_apart (at_key es) (map (λ (e : Entry). e.0) es) (complete es) table
    (λ q. get-from_sorted key_cmp gs q sorted ∙ finds q) in
    sym (entries-from_sorted key_cmp gs sorted) ∙ ap entries same

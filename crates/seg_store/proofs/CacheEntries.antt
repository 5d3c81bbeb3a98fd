-- The numbers of the blocks that are kept, as blocks are used.
use Rattle.std.proofs.Common.{◌≡◌, ℕ, zero, suc, ◌-◌, ◌≤◌, ◌<◌, Bool, true, false, not, nat_eq, cond, List, [], ◌∷◌, length, take, filter, Option, Some, None, refl, sym, ap, ◌∙◌, subst, arith}
use Rattle.std.specs.List.{AllByRecursion, IsDistinct}
use Rattle.std.specs.Prelude.{is_some, option_map}
use Rattle.std.specs.Option.{option_map_or}
use Rattle.std.specs.Map.{keys_of, lookup, lookup_entry, remove_entry}
use Rattle.std.proofs.lemmas.Bool.{eqb-true}
use Rattle.std.proofs.lemmas.List.{length-take, take_all}
use Rattle.std.proofs.lemmas.Option.{none-some}
use Rattle.std.proofs.lemmas.Map.Entries.{length-keys_of}
use Rattle.std.proofs.lemmas.Map.Keys.{IsDistinct-head, IsDistinct-tail, IsDistinct-cons}
use Rattle.lru.specs.LruCache.{LruCache, IsValid, promoted, put_entries, lru_cache}
use Rattle.lru.proofs.Pairs.{promoted_absent, lookup-lookup_entry}
use Rattle.seg_store.specs.Cache.{entries_after}

-- numbers without one of them
abbrev without : ℕ → List ℕ → List ℕ
without k es = filter (λ e. not (nat_eq k e)) es

abbrev Apart : ℕ → List ℕ → Type 0
Apart k es = AllByRecursion (λ e. nat_eq k e ≡ false) es

-- ---- numbers stay distinct

apart_in : (m k e : ℕ) (es : List ℕ) (b : Bool) → nat_eq m e ≡ false → Apart m (without k es) → Apart m (cond b (e ∷ without k es) (without k es))
apart_in m k e es true here rest = (here, rest)
apart_in m k e es false here rest = rest

apart_without : (m k : ℕ) (es : List ℕ) → Apart m es → Apart m (without k es)
apart_without m k [] a = tt
apart_without m k (e ∷ es) a = apart_in m k e es (not (nat_eq k e)) a.0 (apart_without m k es a.1)

none_left : (k e : ℕ) (es : List ℕ) (b : Bool) → nat_eq k e ≡ b → Apart k (without k es) → Apart k (cond (not b) (e ∷ without k es) (without k es))
none_left k e es true is rest = rest
none_left k e es false is rest = (is, rest)

without_it : (k : ℕ) (es : List ℕ) → Apart k (without k es)
without_it k [] = tt
without_it k (e ∷ es) = none_left k e es (nat_eq k e) refl (without_it k es)

distinct_in : (k e : ℕ) (es : List ℕ) (b : Bool) → Apart e es → IsDistinct nat_eq (without k es) → IsDistinct nat_eq (cond b (e ∷ without k es) (without k es))
distinct_in k e es true a d = IsDistinct-cons nat_eq e (without k es) (apart_without e k es a) d
distinct_in k e es false a d = d

distinct_without : (k : ℕ) (es : List ℕ) → IsDistinct nat_eq es → IsDistinct nat_eq (without k es)
distinct_without k [] d = d
distinct_without k (e ∷ es) d = distinct_in k e es (not (nat_eq k e)) (IsDistinct-head nat_eq e es d) (distinct_without k es (IsDistinct-tail nat_eq e es d))

apart_take : (m n : ℕ) (es : List ℕ) → Apart m es → Apart m (take n es)
apart_take m zero es a = tt
apart_take m (suc n) [] a = tt
apart_take m (suc n) (e ∷ es) a = (a.0, apart_take m n es a.1)

no_numbers : IsDistinct nat_eq []
unfolding IsDistinct
no_numbers = tt

distinct_take : (n : ℕ) (es : List ℕ) → IsDistinct nat_eq es → IsDistinct nat_eq (take n es)
distinct_take zero es d = no_numbers
distinct_take (suc n) [] d = no_numbers
distinct_take (suc n) (e ∷ es) d = IsDistinct-cons nat_eq e (take n es) (apart_take e n es (IsDistinct-head nat_eq e es d)) (distinct_take n es (IsDistinct-tail nat_eq e es d))

distinct_after : (n k : ℕ) (es : List ℕ) → IsDistinct nat_eq es → IsDistinct nat_eq (entries_after n k es)
distinct_after n k es d = distinct_take n (k ∷ without k es) (IsDistinct-cons nat_eq k (without k es) (without_it k es) (distinct_without k es d))

-- ---- the pairs

abbrev Pair : Type 0
Pair = ℕ × List ℕ

absent : (k : ℕ) (es : List Pair) → lookup (nat_eq k) es ≡ None → Apart k (keys_of es)
absent k [] h = tt
absent k (e ∷ es) h = (elim (nat_eq k e.0) as (λ y. nat_eq k e.0 ≡ y → Apart k (keys_of (e ∷ es))) [
  | true ↦ λ t. let h' = rw t at h in absurd cc
  | false ↦ λ t. (t, absent k es (rw t at h))
]) refl

kept_whole : (k : ℕ) (es : List ℕ) → Apart k es → without k es ≡ es
kept_whole k [] a = refl
kept_whole k (e ∷ es) a = rw a.0 (ap (λ l. e ∷ l) (kept_whole k es a.1))

-- the numbers of a list of pairs are cut as it is
keys_take : (n : ℕ) (es : List Pair) → keys_of (take n es) ≡ take n (keys_of es)
keys_take zero es = refl
keys_take (suc n) [] = refl
keys_take (suc n) (e ∷ es) = ap (λ l. e.0 ∷ l) (keys_take n es)

pub keys_missed : (n k : ℕ) (v : List ℕ) (es : List Pair) → lookup (nat_eq k) es ≡ None → keys_of (take n ((k, v) ∷ es)) ≡ entries_after n k (keys_of es)
keys_missed n k v es h = keys_take n ((k, v) ∷ es) ∙ ap (λ l. take n (k ∷ l)) (sym (kept_whole k (keys_of es) (absent k es h)))

-- what is first after a hit
record Hit (k : ℕ) (es : List Pair) : Type 0 where
  pub keys : keys_of (promoted (nat_eq k) es) ≡ k ∷ without k (keys_of es)
  pub size : suc (length (without k (keys_of es))) ≡ length es

record Removed (k : ℕ) (es : List Pair) : Type 0 where
  pub value : List ℕ
  pub entry : lookup_entry (nat_eq k) es ≡ Some (k, value)
  pub keys : keys_of (remove_entry (nat_eq k) es) ≡ without k (keys_of es)
  pub size : suc (length (without k (keys_of es))) ≡ length es

removed : (k : ℕ) (es : List Pair) (v : List ℕ) → IsDistinct nat_eq (keys_of es) → lookup (nat_eq k) es ≡ Some v → Removed k es
removed k [] v d h = absurd cc
removed k (e ∷ es) v d h = (elim (nat_eq k e.0) as (λ y. nat_eq k e.0 ≡ y → Removed k (e ∷ es)) [
  | true ↦ λ t.
      let same : k ≡ e.0 = eqb-true k e.0 t in
      let whole : without k (keys_of es) ≡ keys_of es = kept_whole k (keys_of es) (subst (λ m. Apart m (keys_of es)) (sym same) (IsDistinct-head nat_eq e.0 (keys_of es) d)) in
      record { value = e.1; entry = rw t (ap (λ m. Some (m, e.1)) (sym same)); keys = rw t (sym whole); size = rw t (ap (λ l. suc (length l)) whole ∙ ap suc (length-keys_of es)) }
  | false ↦ λ t.
      let r = removed k es v (IsDistinct-tail nat_eq e.0 (keys_of es) d) (rw t at h) in
      record { value = r.value; entry = rw t r.entry; keys = rw t (ap (λ l. e.0 ∷ l) r.keys); size = rw t (ap suc r.size) }
]) refl

hit : (k : ℕ) (es : List Pair) (v : List ℕ) → IsDistinct nat_eq (keys_of es) → lookup (nat_eq k) es ≡ Some v → Hit k es
hit k es v d h =
    let r = removed k es v d h in
    record { keys = ap (λ o. keys_of (option_map_or (λ e. e ∷ remove_entry (nat_eq k) es) o es)) r.entry ∙ ap (λ l. k ∷ l) r.keys; size = r.size }

pub keys_hit : (n k : ℕ) (es : List Pair) (v : List ℕ) → IsDistinct nat_eq (keys_of es) → length es ≤ n → lookup (nat_eq k) es ≡ Some v → keys_of (promoted (nat_eq k) es) ≡ entries_after n k (keys_of es)
keys_hit n k es v d le h =
    let r = hit k es v d h in
    r.keys ∙ sym (take_all n (k ∷ without k (keys_of es)) (omega (arith, r.size, le)))

-- ---- a cache stays valid

valid_by : (n k : ℕ) (es fs : List Pair) → IsDistinct nat_eq (keys_of es) → 0 < n → keys_of fs ≡ entries_after n k (keys_of es) → IsValid nat_eq (lru_cache fs n)
valid_by n k es fs d some is =
    (subst (IsDistinct nat_eq) (sym is) (distinct_after n k (keys_of es) d), omega (arith, length-keys_of fs, ap length is, length-take n (k ∷ without k (keys_of es))), some)

pub valid_hit : (k : ℕ) (c : LruCache ℕ (List ℕ)) (v : List ℕ) → IsValid nat_eq c → lookup (nat_eq k) c.entries ≡ Some v → IsValid nat_eq (lru_cache (promoted (nat_eq k) c.entries) c.cap)
valid_hit k c v is h = valid_by c.cap k c.entries (promoted (nat_eq k) c.entries) is.0 is.2 (keys_hit c.cap k c.entries v is.0 is.1 h)

pub valid_missed : (k : ℕ) (v : List ℕ) (c : LruCache ℕ (List ℕ)) → IsValid nat_eq c → lookup (nat_eq k) c.entries ≡ None → IsValid nat_eq (lru_cache (take c.cap ((k, v) ∷ c.entries)) c.cap)
valid_missed k v c is h = valid_by c.cap k c.entries (take c.cap ((k, v) ∷ c.entries)) is.0 is.2 (keys_missed c.cap k v c.entries h)

-- where a block isn't kept, nothing changes
pub unchanged_none : (k : ℕ) (old new : LruCache ℕ (List ℕ)) → None ≡ lookup (nat_eq k) old.entries → new ≡ lru_cache (promoted (nat_eq k) old.entries) old.cap → new ≡ old
unchanged_none k old new found is = is ∙ ap (λ es. lru_cache es old.cap) (promoted_absent nat_eq old k (ap is_some (sym found))).1

-- a block that isn't kept goes first, and the others are cut
cut_first : (k : ℕ) (v : List ℕ) (n : ℕ) (es : List Pair) → 0 < n → (k, v) ∷ take (n - 1) es ≡ take n ((k, v) ∷ es)
cut_first k v zero es some = absurd (omega (arith, some))
cut_first k v (suc n) es some = let same : suc n - 1 ≡ n = omega arith in ap (λ m. (k, v) ∷ take m es) same

first_put : (k : ℕ) (v : List ℕ) (c : LruCache ℕ (List ℕ)) (o : Option Pair) → option_map (λ e. e.1) o ≡ None → 0 < c.cap → option_map_or (λ e. (e.0, v) ∷ remove_entry (nat_eq k) c.entries) o ((k, v) ∷ take (c.cap - 1) c.entries) ≡ take c.cap ((k, v) ∷ c.entries)
first_put k v c None none some = cut_first k v c.cap c.entries some
first_put k v c (Some e) none some = absurd (none-some e.1 (sym none))

pub put_is : (k : ℕ) (v : List ℕ) (c : LruCache ℕ (List ℕ)) → IsValid nat_eq c → lookup (nat_eq k) c.entries ≡ None → put_entries nat_eq c k v ≡ take c.cap ((k, v) ∷ c.entries)
put_is k v c is h = first_put k v c (lookup_entry (nat_eq k) c.entries) (lookup-lookup_entry (nat_eq k) c.entries ∙ h) is.2

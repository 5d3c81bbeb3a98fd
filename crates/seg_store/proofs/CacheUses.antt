-- What a reader keeps, as its cache is used.
use Rattle.std.proofs.Common.{◌≡◌, ℕ, Bool, true, false, nat_eq, List, Option, Some, None, All, sym, ap, ◌∙◌, subst}
use Rattle.std.specs.Prelude.{is_some, if◌then◌else◌}
use Rattle.std.specs.List.{list_any}
use Rattle.std.specs.Map.{keys_of, lookup}
use Rattle.std.proofs.lemmas.Bool.{eqb-true}
use Rattle.std.proofs.lemmas.List.Elements.{All-contains}
use Rattle.std.proofs.lemmas.Map.Made.{is_some-lookup}
use Rattle.lru.proofs.CallerLemmas.{Contains-lookup}
use Rattle.seg_common.specs.FaultCounts.{next_count}
use Rattle.seg_store.specs.Block.{Block}
use Rattle.seg_store.specs.Cache.{entries_after, after_use}
use Rattle.seg_store.specs.CachedBlocks.{CachedBlocks, after_hit, after_miss, cached_store, IsBlockOf}
use Rattle.seg_store.proofs.CacheEntries.{keys_missed}

among : (k : ℕ) (es : List (ℕ × List ℕ)) (o : Option (List ℕ)) → o ≡ lookup (nat_eq k) es → list_any (nat_eq k) (keys_of es) ≡ is_some o
among k es o is = sym (is_some-lookup (nat_eq k) es) ∙ ap is_some (sym is)

-- a use, by what became of the entries and the counts
used_by : (k : ℕ) (blocks : List Block) (old new : CachedBlocks) (there : Bool) → list_any (nat_eq k) (keys_of old.pairs) ≡ there → new.capacity ≡ old.capacity → keys_of new.pairs ≡ entries_after old.capacity k (keys_of old.pairs)
    → new.hits ≡ (if there then next_count old.hits else old.hits) → new.misses ≡ (if there then old.misses else next_count old.misses) → cached_store blocks new ≡ after_use k (cached_store blocks old)
used_by k blocks old new there is room order hits misses =
    let counted : new.hits ≡ (if list_any (nat_eq k) (keys_of old.pairs) then next_count old.hits else old.hits) = rw is hits in
    let missed : new.misses ≡ (if list_any (nat_eq k) (keys_of old.pairs) then old.misses else next_count old.misses) = rw is misses in
    λ i. record { blocks = blocks; capacity = room i; entries = order i; hits = counted i; misses = missed i }

pub used_hit : (k : ℕ) (blocks : List Block) (old new : CachedBlocks) (v : List ℕ) → Some v ≡ lookup (nat_eq k) old.pairs → new ≡ after_hit k old → keys_of new.pairs ≡ entries_after old.capacity k (keys_of old.pairs) → cached_store blocks new ≡ after_use k (cached_store blocks old)
used_hit k blocks old new v found is order =
    used_by k blocks old new true (among k old.pairs (Some v) found) (ap (λ c. c.capacity) is) order (ap (λ c. c.hits) is) (ap (λ c. c.misses) is)

pub used_miss : (k : ℕ) (blocks : List Block) (old new : CachedBlocks) (v : List ℕ) → None ≡ lookup (nat_eq k) old.pairs → new ≡ after_miss k v old → cached_store blocks new ≡ after_use k (cached_store blocks old)
used_miss k blocks old new v none is =
    used_by k blocks old new false (among k old.pairs None none) (ap (λ c. c.capacity) is) (ap (λ c. keys_of c.pairs) is ∙ keys_missed old.capacity k v old.pairs (sym none)) (ap (λ c. c.hits) is) (ap (λ c. c.misses) is)

-- a kept block is that of its number
pub kept_is : (k : ℕ) (blocks : List Block) (es : List (ℕ × List ℕ)) (v : List ℕ) → All (IsBlockOf blocks) es → Some v ≡ lookup (nat_eq k) es → IsBlockOf blocks (k, v)
kept_is k blocks es v all found =
    let at = Contains-lookup (nat_eq k) es v (sym found) in
    subst (λ n. IsBlockOf blocks (n, v)) (sym (eqb-true k at.0 at.2)) (All-contains (IsBlockOf blocks) es (at.0, v) all at.1)

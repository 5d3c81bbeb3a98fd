-- The blocks that a reader of a store keeps, by their numbers.
use Rattle.std.specs.Prelude.{ℕ, zero, suc, ◌-◌, not, nat_eq, nat_lt, if◌then◌else◌, List, [], ◌∷◌, length, take, filter}
use Rattle.std.specs.List.{list_any}
use Rattle.seg_common.specs.FaultCounts.{next_count}
use Rattle.seg_store.specs.Block.{Block}

-- a reader's blocks; how many it keeps at most, and the numbers of those that it keeps, the last used first; how often
-- the block that was wanted was kept, and how often it wasn't
pub record CachedStore : Type 0 where
  pub blocks : List Block
  pub capacity : ℕ
  pub entries : List ℕ
  pub hits : ℕ
  pub misses : ℕ

-- before any use
abbrev pub unused : ℕ → List Block → CachedStore
unused n blocks = record { blocks = blocks; capacity = n; entries = []; hits = 0; misses = 0 }

-- the number of the block that has a document
abbrev pub block_of : List Block → ℕ → ℕ
block_of [] doc = zero
block_of (b ∷ bs) doc = if nat_lt doc (length b) then zero else suc (block_of bs (doc - length b))

-- the entries once a block was used: it, and the earlier ones without it, the first n
abbrev pub entries_after : ℕ → ℕ → List ℕ → List ℕ
entries_after n block entries = take n (block ∷ filter (λ e. not (nat_eq block e)) entries)

-- once a block was used
abbrev pub after_use : ℕ → CachedStore → CachedStore
after_use block c = record c {
  entries = entries_after c.capacity block c.entries;
  hits = if list_any (nat_eq block) c.entries then next_count c.hits else c.hits;
  misses = if list_any (nat_eq block) c.entries then c.misses else next_count c.misses;
}

-- once a document was read
abbrev pub after_get : ℕ → CachedStore → CachedStore
after_get doc c = after_use (block_of c.blocks doc) c

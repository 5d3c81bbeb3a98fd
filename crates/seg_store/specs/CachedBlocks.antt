-- What a cache of blocks keeps.
use Rattle.std.specs.Prelude.{◌≡◌, ℕ, nat_eq, true, Option, Some, None, List, [], ◌∷◌, take, slice_get}
use Rattle.std.specs.List.{list_all}
use Rattle.std.specs.Map.{keys_of}
use Rattle.lru.specs.LruCache.{LruCache, promoted}
use Rattle.seg_common.specs.FaultCounts.{next_count}
use Rattle.seg_doc_bytes.specs.StoredDocument.{is_stored_document}
use Rattle.seg_store.specs.Block.{Block, documents_in, is_block}
use Rattle.seg_store.specs.Store.{raw_documents}
use Rattle.seg_store.specs.Cache.{CachedStore}

-- how many blocks at most; each one's number with its bytes, the last used first; how often one that was
-- wanted was there, and how often it wasn't
pub record CachedBlocks : Type 0 where
  pub capacity : ℕ
  pub pairs : List (ℕ × List ℕ)
  pub hits : ℕ
  pub misses : ℕ

-- how many blocks a cache keeps at most; none without one
abbrev pub capacity_of : Option (LruCache ℕ (List ℕ)) → ℕ
capacity_of None = 0
capacity_of (Some kept) = kept.cap

-- its pairs; none without one
abbrev pub pairs_of : Option (LruCache ℕ (List ℕ)) → List (ℕ × List ℕ)
pairs_of None = []
pairs_of (Some kept) = kept.entries

-- a cache with its counts
abbrev pub cached_blocks : Option (LruCache ℕ (List ℕ)) → ℕ → ℕ → CachedBlocks
cached_blocks kept hits misses =
    record { capacity = capacity_of kept; pairs = pairs_of kept; hits = hits; misses = misses }

-- before any use
abbrev pub no_blocks : ℕ → CachedBlocks
no_blocks n = record { capacity = n; pairs = []; hits = 0; misses = 0 }

-- a block was there
abbrev pub after_hit : ℕ → CachedBlocks → CachedBlocks
after_hit number c = record c { pairs = promoted (nat_eq number) c.pairs; hits = next_count c.hits }

-- a block wasn't there
abbrev pub after_miss : ℕ → List ℕ → CachedBlocks → CachedBlocks
after_miss number block c =
    record c { pairs = take c.capacity ((number, block) ∷ c.pairs); misses = next_count c.misses }

-- blocks with a cache of them
abbrev pub cached_store : List Block → CachedBlocks → CachedStore
cached_store blocks c =
    record { blocks = blocks; capacity = c.capacity; entries = keys_of c.pairs; hits = c.hits; misses = c.misses }

-- each document of the blocks is stored
abbrev pub AreStored : List Block → Type 0
AreStored blocks = list_all is_stored_document (raw_documents blocks) ≡ true

-- a block with its number
pub record IsBlockOf (blocks : List Block) (pair : ℕ × List ℕ) : Type 0 where
  pub block : is_block pair.1 ≡ true
  pub is : slice_get blocks pair.0 ≡ Some (documents_in pair.1)

-- Cases of stores, in bytes that were written by hand.
use Rattle.std.specs.Prelude.{◌≡◌, ℕ, zero, suc, List, [], ◌∷◌, ◌++◌, map, take, length, true, false, Some, None}
use Rattle.seg_values.specs.Tree.{leaf, unsigned}
use Rattle.seg_store.specs.AliveDocuments.{alive_from}
use Rattle.seg_store.specs.Block.{Block}
use Rattle.seg_store.specs.Cache.{CachedStore, after_get, unused}
use Rattle.seg_store.specs.Store.{documents_of, store_of}
use Rattle.seg_store.specs.WriterBlocks.{Taken, all_blocks, with_document, with_stacked}
use Rattle.seg_model_cases.specs.ColumnFiles.{eight, four}
use Rattle.seg_model_cases.specs.CaseData.{one}

-- the bytes of a document with the number 7 in field 0: one pair, the field, the tag, and the number
abbrev pub document : List ℕ
document = 1 ∷ 0 ∷ 3 ∷ eight 7

-- a store of one block with this document: the block, where it ends, how many blocks and documents there are, a byte 0
abbrev pub store : List ℕ
store = (document ++ eight 11 ++ four 1) ++ (four 1 ++ eight 23) ++ (four 1 ++ four 1 ++ 0 ∷ [])

abbrev pub blocks : List Block
blocks = (document ∷ []) ∷ []

-- a writer that took nothing, whose blocks have this many bytes
abbrev pub empty_writer : ℕ → Taken
empty_writer size = record { block_size = size; closed = []; open_block = [] }

-- a store that was stacked a number of times
abbrev pub stacked : ℕ → Taken → Taken
stacked zero w = w
stacked (suc n) w = with_stacked blocks (stacked n w)

-- three blocks of one document each, of which two are kept
abbrev pub cached : CachedStore
cached = unused 2 (blocks ++ blocks ++ blocks)

pub record StoreCases : Type 0 where
  pub read : store_of store ≡ Some blocks
  pub told : documents_of blocks ≡ one (leaf (unsigned 7)) ∷ []
  -- a byte too few, and a block that is compressed
  pub cut_off : store_of (take 43 store) ≡ None
  pub compressed : store_of (take 43 store ++ 1 ∷ []) ≡ None
  -- a document that fills its block closes it
  pub closes : map (λ size. (with_document document (empty_writer size)).closed) (0 ∷ 11 ∷ 12 ∷ [])
      ≡ blocks ∷ blocks ∷ [] ∷ []
  -- six times, a block each
  pub six : length (all_blocks (stacked 6 (empty_writer 16384))) ≡ 6
  -- the second of three documents is alive
  pub alive : alive_from {X = ℕ} 0 (Some (false ∷ true ∷ false ∷ [])) (1 ∷ 2 ∷ 3 ∷ []) ≡ 2 ∷ []
  -- of the documents 0, 1, 0 and 2 the third is in a block that is kept, the last in place of the one used longest ago
  pub used : after_get 2 (after_get 0 (after_get 1 (after_get 0 cached))) ≡
      record cached { entries = 2 ∷ 0 ∷ []; hits = 1; misses = 3 }

-- A store: blocks one after the other, for each a checkpoint, the numbers of blocks and documents, and
-- a byte 0, which says that no block is compressed.
use Rattle.std.specs.Prelude.{ℕ, zero, suc, ◌+◌, ◌*◌, ◌==◌, ◌&&◌, nat_le, if◌then◌else◌, List, [], ◌∷◌, Bool, length, drop, map, slice_index, Option, Some, None}
use Rattle.std.specs.List.{list_all, flat_map}
use Rattle.std.specs.Option.{option_to_list}
use Rattle.std.specs.Str.{bytes_eq}
use Rattle.seg_common.specs.LittleEndian.{u32_at, u64_at}
use Rattle.seg_values.specs.Tree.{Document}
use Rattle.seg_store.specs.Ends.{last_bytes, but_last, are_ends, cut_from}
use Rattle.seg_doc_bytes.specs.StoredDocument.{stored_document_of}
use Rattle.seg_store.specs.Block.{Block, documents_in, is_block}

-- the last nine bytes
abbrev pub footer : List ℕ → List ℕ
footer bytes = last_bytes 9 bytes

-- how many blocks there are
abbrev pub store_count : List ℕ → ℕ
store_count bytes = u32_at (footer bytes) 0

-- the first checkpoints of a table: how many documents there are up to and including a block, and where its bytes end
abbrev pub checkpoints_of : ℕ → List ℕ → List (ℕ × ℕ)
checkpoints_of zero table = []
checkpoints_of (suc n) table = (u32_at table 0, u64_at table 4) ∷ checkpoints_of n (drop 12 table)

-- the table of a store's checkpoints
abbrev pub store_table : List ℕ → List ℕ
store_table bytes = last_bytes (12 * store_count bytes) (but_last 9 bytes)

-- a store's checkpoints
abbrev pub store_checkpoints : List ℕ → List (ℕ × ℕ)
store_checkpoints bytes = checkpoints_of (store_count bytes) (store_table bytes)

-- the bytes of its blocks
abbrev pub store_body : List ℕ → List ℕ
store_body bytes = but_last (12 * store_count bytes) (but_last 9 bytes)

-- each block's bytes
abbrev pub store_parts : List ℕ → List (List ℕ)
store_parts bytes = cut_from 0 (map (λ c. c.1) (store_checkpoints bytes)) (store_body bytes)

-- how many documents there are up to and including each block
abbrev pub id_ends : ℕ → List Block → List ℕ
id_ends first [] = []
id_ends first (b ∷ bs) = (first + length b) ∷ id_ends (first + length b) bs

-- how many documents blocks have
abbrev pub document_count : List Block → ℕ
document_count [] = 0
document_count (b ∷ bs) = length b + document_count bs

-- a store's blocks
unfoldable pub blocks_of : List ℕ → List Block
blocks_of bytes = map documents_in (store_parts bytes)

-- whether bytes are a store
unfoldable pub is_store : List ℕ → Bool
is_store bytes =
    nat_le (9 + 12 * store_count bytes) (length bytes)
    && ((slice_index (footer bytes) 8 == 0)
    && (are_ends 0 (length (store_body bytes)) (map (λ c. c.1) (store_checkpoints bytes))
    && (list_all is_block (store_parts bytes)
    && (bytes_eq (map (λ c. c.0) (store_checkpoints bytes)) (id_ends 0 (map documents_in (store_parts bytes)))
    && (u32_at (footer bytes) 4 == document_count (map documents_in (store_parts bytes)))))))

-- what bytes read as
abbrev pub store_of : List ℕ → Option (List Block)
store_of bytes = if is_store bytes then Some (blocks_of bytes) else None

-- the documents of blocks, each as its bytes
abbrev pub raw_documents : List Block → List (List ℕ)
raw_documents blocks = flat_map (λ b. b) blocks

-- the documents of blocks, as their fields and trees
abbrev pub documents_of : List Block → List Document
documents_of blocks = flat_map (flat_map (λ d. option_to_list (stored_document_of d))) blocks

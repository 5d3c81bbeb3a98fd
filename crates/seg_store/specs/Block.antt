-- A block: stored documents one after the other, for each where it ends in the block, and their number, at least 1.
use Rattle.std.specs.Prelude.{ℕ, ◌+◌, ◌*◌, ◌&&◌, nat_lt, nat_le, List, Bool, length}
use Rattle.std.specs.List.{list_all}
use Rattle.seg_common.specs.LittleEndian.{u32_at}
use Rattle.seg_store.specs.Ends.{last_bytes, but_last, numbers_of, are_ends, cut_from}
use Rattle.seg_doc_bytes.specs.StoredDocument.{is_stored_document}

-- a block's documents, each as its bytes
abbrev pub Block : Type 0
Block = List (List ℕ)

-- how many documents there are: the last four bytes
abbrev pub block_count : List ℕ → ℕ
block_count bytes = u32_at (last_bytes 4 bytes) 0

-- the table of where the documents end
abbrev pub block_table : List ℕ → List ℕ
block_table bytes = last_bytes (8 * block_count bytes) (but_last 4 bytes)

-- where the documents end
abbrev pub block_ends : List ℕ → List ℕ
block_ends bytes = numbers_of (block_count bytes) (block_table bytes)

-- the documents' bytes
abbrev pub block_body : List ℕ → List ℕ
block_body bytes = but_last (8 * block_count bytes) (but_last 4 bytes)

-- the documents
unfoldable pub documents_in : List ℕ → Block
documents_in bytes = cut_from 0 (block_ends bytes) (block_body bytes)

-- whether bytes are a block
unfoldable pub is_block : List ℕ → Bool
is_block bytes =
    nat_lt 0 (block_count bytes)
    && (nat_le (4 + 8 * block_count bytes) (length bytes)
    && (are_ends 0 (length (block_body bytes)) (block_ends bytes)
    && list_all is_stored_document (cut_from 0 (block_ends bytes) (block_body bytes))))

-- What a writer of a store has taken: closed blocks and an open one.
use Rattle.std.specs.Prelude.{ℕ, ◌+◌, nat_le, if◌then◌else◌, List, [], ◌∷◌, ◌++◌, length, Option, Some, None}
use Rattle.seg_store.specs.Block.{Block}
use Rattle.seg_store.specs.Store.{document_count}

-- a block is closed once its documents have this many bytes
pub record Taken : Type 0 where
  pub block_size : ℕ
  pub closed : List Block
  pub open_block : Block

-- how many bytes documents have
abbrev pub byte_count : Block → ℕ
byte_count [] = 0
byte_count (d ∷ ds) = length d + byte_count ds

-- the open block is closed
abbrev pub with_closed : Taken → Taken
with_closed w = record w { closed = w.closed ++ w.open_block ∷ []; open_block = [] }

-- closed where it is full
abbrev pub closed_if_full : Taken → Taken
closed_if_full w = if nat_le w.block_size (byte_count w.open_block) then with_closed w else w

-- one more document
abbrev pub with_document : List ℕ → Taken → Taken
with_document document w = closed_if_full (record w { open_block = w.open_block ++ document ∷ [] })

-- the open block, where it has documents
abbrev pub last_block : Block → List Block
last_block [] = []
last_block (d ∷ ds) = (d ∷ ds) ∷ []

-- all blocks, once the open one is closed
abbrev pub all_blocks : Taken → List Block
all_blocks w = w.closed ++ last_block w.open_block

-- no block is left open
abbrev pub with_all_closed : Taken → Taken
with_all_closed w = record w { closed = all_blocks w; open_block = [] }

-- more blocks, as they are, once no block is left open
abbrev pub with_stacked : List Block → Taken → Taken
with_stacked blocks w = record w { closed = all_blocks w ++ blocks; open_block = [] }

-- how many documents were taken
abbrev pub taken_count : Taken → ℕ
taken_count w = document_count w.closed + length w.open_block

-- how many bytes blocks have
abbrev pub block_bytes : List Block → ℕ
block_bytes [] = 0
block_bytes (b ∷ bs) = byte_count b + block_bytes bs

-- how many bytes the documents have that were taken; none any more, once out of memory
abbrev pub taken_bytes : Option Taken → ℕ
taken_bytes None = 0
taken_bytes (Some w) = block_bytes w.closed + byte_count w.open_block

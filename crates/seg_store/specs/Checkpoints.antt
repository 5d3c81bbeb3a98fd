-- Where the blocks of a store end.
use Rattle.std.specs.Prelude.{ℕ, ◌+◌, ◌*◌, List, length, map, take}
use Rattle.std.specs.List.{range_with_len}
use Rattle.seg_store.specs.declared.checkpoint.Checkpoint.{Checkpoint}
use Rattle.seg_store.specs.Block.{Block}
use Rattle.seg_store.specs.Store.{document_count}
use Rattle.seg_store.specs.WriterBlocks.{block_bytes}

-- how many bytes blocks take in a file: their documents, eight for where each of these ends, and
-- four for each block's number of them
abbrev pub stored_size : List Block → ℕ
stored_size blocks = block_bytes blocks + 8 * document_count blocks + 4 * length blocks

-- where a block ends: how many documents and how many bytes there are up to and including it
abbrev pub checkpoint_of : List Block → ℕ → Checkpoint
checkpoint_of blocks i =
    record { doc_end = document_count (take (i + 1) blocks); byte_end = stored_size (take (i + 1) blocks) }

-- where each block ends, in order
abbrev pub checkpoints : List Block → List Checkpoint
checkpoints blocks = map (checkpoint_of blocks) (range_with_len 0 (length blocks))

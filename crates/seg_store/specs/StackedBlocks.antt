-- Whole blocks, one after the other, as a store has them and another one takes them.
use Rattle.std.specs.Prelude.{◌≡◌, ℕ, ◌+◌, true, List, length, map}
use Rattle.std.specs.List.{list_all}
use Rattle.seg_store.specs.declared.checkpoint.Checkpoint.{Checkpoint}
use Rattle.seg_store.specs.Block.{Block, documents_in, is_block}
use Rattle.seg_store.specs.Checkpoints.{checkpoints}
use Rattle.seg_store.specs.Ends.{are_ends, cut_from}

-- where each block ends in their bytes
abbrev pub byte_ends : List Checkpoint → List ℕ
byte_ends cs = map (λ c. c.byte_end) cs

-- bytes have these blocks, and nothing else
pub record HaveBlocks (blocks : List Block) (bytes : List ℕ) : Type 0 where
  pub ends : are_ends 0 (length bytes) (byte_ends (checkpoints blocks)) ≡ true
  pub good : list_all is_block (cut_from 0 (byte_ends (checkpoints blocks)) bytes) ≡ true
  pub documents : map documents_in (cut_from 0 (byte_ends (checkpoints blocks)) bytes) ≡ blocks

-- where a block ends after this many documents and bytes
abbrev pub shifted : (documents bytes : ℕ) → Checkpoint → Checkpoint
shifted documents bytes c = record { doc_end = documents + c.doc_end; byte_end = bytes + c.byte_end }

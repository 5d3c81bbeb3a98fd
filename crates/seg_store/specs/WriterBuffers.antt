-- What a writer of a store keeps, and what that stands for.
use Rattle.std.specs.Prelude.{◌≡◌, ◌≤◌, ◌<◌, ◌+◌, ◌-◌, ◌^◌, ℕ, true, List, ◌++◌, length, take, drop, map}
use Rattle.std.specs.List.{list_all}
use Rattle.std.specs.Int.{w32, w64, to_le_bytes}
use Rattle.seg_store.specs.declared.checkpoint.Checkpoint.{Checkpoint}
use Rattle.seg_store.specs.Ends.{are_ends, cut_from}
use Rattle.seg_doc_bytes.specs.StoredDocument.{is_stored_document}
use Rattle.seg_store.specs.Block.{documents_in, is_block}
use Rattle.seg_store.specs.Store.{id_ends}
use Rattle.seg_store.specs.WriterBlocks.{Taken, taken_count, block_bytes, byte_count}

-- a checkpoint's bytes
abbrev pub checkpoint_form : Checkpoint → List ℕ
checkpoint_form c = to_le_bytes w32 c.doc_end ++ to_le_bytes w64 c.byte_end

-- the bytes so far, with a checkpoint for each closed block; where the open block starts, and where its documents end
-- in it; how many documents there are, how many bytes these have, and the size of blocks
pub record Buffers : Type 0 where
  pub bytes : List ℕ
  pub checkpoints : List Checkpoint
  pub start : ℕ
  pub ends : List ℕ
  pub documents : ℕ
  pub stored : ℕ
  pub block_size : ℕ

-- each closed block's bytes
abbrev pub closed_parts : Buffers → List (List ℕ)
closed_parts b = cut_from 0 (map (λ c. c.byte_end) b.checkpoints) (take b.start b.bytes)

-- what is kept, as blocks
abbrev pub taken_of : Buffers → Taken
taken_of b = record {
  block_size = b.block_size;
  closed = map documents_in (closed_parts b);
  open_block = cut_from 0 b.ends (drop b.start b.bytes);
}

-- the closed blocks lie one after the other from the start on
pub record AreClosed (b : Buffers) : Type 0 where
  pub within : b.start ≤ length b.bytes
  pub ends : are_ends 0 b.start (map (λ c. c.byte_end) b.checkpoints) ≡ true
  pub blocks : list_all is_block (closed_parts b) ≡ true
  pub ids : map (λ c. c.doc_end) b.checkpoints ≡ id_ends 0 (map documents_in (closed_parts b))

-- the open block's documents come after them
pub record IsOpen (b : Buffers) : Type 0 where
  pub ends : are_ends 0 (length b.bytes - b.start) b.ends ≡ true
  pub stored : list_all is_stored_document (cut_from 0 b.ends (drop b.start b.bytes)) ≡ true

-- the counts are right
pub record AreCounts (b : Buffers) : Type 0 where
  pub documents : b.documents ≡ taken_count (taken_of b)
  pub few : b.documents < 2 ^ 31
  pub blocks : length b.checkpoints + length b.ends ≤ b.documents
  pub stored : b.stored ≡ block_bytes (taken_of b).closed + byte_count (taken_of b).open_block
  pub small : b.stored ≤ length b.bytes

-- all of it
pub record IsKept (b : Buffers) : Type 0 where
  pub closed : AreClosed b
  pub open_block : IsOpen b
  pub counts : AreCounts b

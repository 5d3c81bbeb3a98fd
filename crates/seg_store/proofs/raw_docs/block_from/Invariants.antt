use Rattle.std.proofs.Common.{◌≡◌, ◌≤◌, ◌<◌, ◌-◌, length, take}
use Rattle.seg_store.specs.Store.{store_table, blocks_of, document_count}
use Rattle.seg_store.proofs.raw_docs.block_from.Given as goal

-- the document isn't before the block
abbrev pub invariant-loop-table : goal.invariant-loop-table
invariant-loop-table l = record {
  table : l.table ≡ store_table l.bytes;
  number : l.block < length (blocks_of l.bytes);
  from : document_count (take l.block (blocks_of l.bytes)) ≤ l.doc;
}

abbrev pub decreases-loop-table : goal.decreases-loop-table
decreases-loop-table l = length (blocks_of l.bytes) - l.block

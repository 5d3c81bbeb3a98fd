-- Cases of stores, in bytes that were written by hand.
use Rattle.std.proofs.Common.{refl}
use Rattle.seg_common.specs.LittleEndian.{u32_at, u64_at}
use Rattle.seg_common.specs.Varint.{varint_within}
use Rattle.seg_store.specs.Block.{documents_in, is_block}
use Rattle.seg_store.specs.Store.{blocks_of, is_store}
use Rattle.seg_doc_bytes.specs.StoredDocument.{stored_document_of}
use Rattle.seg_doc_bytes.specs.StoredTree.{stored_tree_at}
use Rattle.seg_model_cases.specs.Stores.{StoreCases}

pub store_cases : StoreCases
unfolding u32_at u64_at varint_within documents_in is_block blocks_of is_store stored_document_of stored_tree_at
store_cases = record {
  read = refl;
  told = refl;
  cut_off = refl;
  compressed = refl;
  closes = refl;
  six = refl;
  alive = refl;
  used = refl;
}

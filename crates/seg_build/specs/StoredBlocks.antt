-- The blocks of a store that documents make, one after the other.
use Rattle.std.specs.Prelude.{◌≡◌, ℕ, List, [], map, Some}
use Rattle.std.specs.List.{fold}
use Rattle.seg_values.specs.StoredBytes.{stored_form}
use Rattle.seg_values.specs.Tree.{Document}
use Rattle.seg_model.specs.Fields.{Schema}
use Rattle.seg_store.specs.Store.{store_of}
use Rattle.seg_store.specs.WriterBlocks.{Taken, with_document, all_blocks}

-- the bytes of these documents in order, in blocks that are closed once they have `size` bytes
abbrev pub stored_with : ℕ → List (List ℕ) → Taken
stored_with size documents =
    fold (λ taken document. with_document document taken)
    (record { block_size = size; closed = []; open_block = [] }) documents

-- the bytes of a store have the blocks that documents make, as they are stored
abbrev pub HasBlocks : Schema → ℕ → List Document → List ℕ → Type 0
HasBlocks schema size documents store =
    store_of store ≡ Some (all_blocks (stored_with size (map (stored_form schema) documents)))

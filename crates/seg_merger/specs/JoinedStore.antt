-- The stored documents of segments, joined.
use Rattle.std.specs.Prelude.{◌≡◌, List, ℕ, [], ◌∷◌, Bool, ◌&&◌, nat_le, if◌then◌else◌, true, Some, length, map}
use Rattle.std.specs.List.{flat_map, list_all}
use Rattle.seg_values.specs.Tree.{Document}
use Rattle.seg_model.specs.Operations.{kept}
use Rattle.seg_model.specs.Join.{live_of}
use Rattle.seg_doc_bytes.specs.StoredDocument.{stored_document_of}
use Rattle.seg_store.specs.Block.{Block}
use Rattle.seg_store.specs.Store.{raw_documents, documents_of}
use Rattle.seg_store.specs.WriterBlocks.{Taken, with_document, with_stacked, all_blocks}
use Rattle.seg_open.specs.OpenSegment.{OpenSegment, part_of}

-- the kept documents of a segment, each as its stored bytes
abbrev pub kept_bytes : OpenSegment → List (List ℕ)
kept_bytes p = kept p.alive (raw_documents p.blocks)

-- those of segments, one after another
abbrev pub joined_bytes : List OpenSegment → List (List ℕ)
joined_bytes parts = flat_map kept_bytes parts

-- the same documents, as their fields and trees
abbrev pub joined_documents : List OpenSegment → List Document
joined_documents parts = live_of (λ p. p.contents.stored) (map part_of parts)

-- a writer of blocks of this size has taken nothing yet
abbrev pub no_documents : ℕ → Taken
no_documents block_size = record { block_size = block_size; closed = []; open_block = [] }

-- more documents, one after another
abbrev pub with_documents : List (List ℕ) → Taken → Taken
with_documents [] w = w
with_documents (d ∷ ds) w = with_documents ds (with_document d w)

-- whether the blocks of a segment stay as they are: all its documents are alive, and it has at least six blocks
abbrev pub is_stacked : OpenSegment → Bool
is_stacked p = list_all (λ b. b) p.alive && nat_le 6 (length p.blocks)

-- one more segment: its blocks as they are, or else its kept documents one after another
abbrev pub with_segment : OpenSegment → Taken → Taken
with_segment p w = if is_stacked p then with_stacked p.blocks w else with_documents (kept_bytes p) w

-- more segments, one after another
abbrev pub with_segments : List OpenSegment → Taken → Taken
with_segments [] w = w
with_segments (p ∷ parts) w = with_segments parts (with_segment p w)

-- the blocks of what segments are merged to, where blocks that are cut anew are of this size
abbrev pub merged_blocks : ℕ → List OpenSegment → List Block
merged_blocks block_size parts = all_blocks (with_segments parts (no_documents block_size))

-- each kept document of a segment is read from its bytes; blocks that stay as they are have no others
pub record IsStored (p : OpenSegment) : Type 0 where
  pub reads : map stored_document_of (kept_bytes p) ≡ map Some (kept p.alive (documents_of p.blocks))
  pub whole : is_stacked p ≡ true → kept_bytes p ≡ raw_documents p.blocks

-- the documents that a writer has taken, as their fields and trees
abbrev pub taken_documents : Taken → List Document
taken_documents w = documents_of (all_blocks w)

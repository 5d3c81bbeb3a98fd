-- Blocks play no part in which documents there are, nor in their order.
use Rattle.std.specs.Prelude.{◌≡◌, ℕ, ◌+◌, List, [], ◌∷◌, ◌++◌, Some}
use Rattle.std.specs.List.{flat_map}
use Rattle.seg_store.specs.Block.{Block}
use Rattle.seg_store.specs.Store.{document_count, raw_documents}
use Rattle.seg_store.specs.WriterBlocks.{Taken, with_document, with_stacked, all_blocks, taken_count, taken_bytes, block_bytes}

-- all documents of the blocks, in order
abbrev pub all_documents : Taken → List (List ℕ)
all_documents w = flat_map (λ b. b) (all_blocks w)

-- a document that is taken comes last, and all before it stay as they were
pub record IsTakenLast (document : List ℕ) (w : Taken) : Type 0 where
  pub order : all_documents (with_document document w) ≡ all_documents w ++ document ∷ []
  pub count : taken_count (with_document document w) ≡ taken_count w + 1

-- whatever the size of blocks
abbrev pub AreTakenLast : Type 0
AreTakenLast = (document : List ℕ) (w : Taken) → IsTakenLast document w

-- blocks that are stacked come last as they are, and so do their documents and the bytes of these
pub record AreStackedLast (blocks : List Block) (w : Taken) : Type 0 where
  pub cuts : all_blocks (with_stacked blocks w) ≡ all_blocks w ++ blocks
  pub order : all_documents (with_stacked blocks w) ≡ all_documents w ++ raw_documents blocks
  pub count : taken_count (with_stacked blocks w) ≡ taken_count w + document_count blocks
  pub bytes : taken_bytes (Some (with_stacked blocks w)) ≡ taken_bytes (Some w) + block_bytes blocks

-- whatever was taken before
abbrev pub AllAreStackedLast : Type 0
AllAreStackedLast = (blocks : List Block) (w : Taken) → AreStackedLast blocks w

-- A document that is taken comes last, and so do blocks that are stacked.
use Rattle.std.proofs.Common.{◌≡◌, ◌+◌, Bool, true, false, [], ◌∷◌, ◌++◌, cond, refl, sym, ap, ◌∙◌, arith, append_assoc, append-nil}
use Rattle.std.specs.Prelude.{nat_le}
use Rattle.std.specs.List.{flat_map}
use Rattle.std.proofs.lemmas.List.{length-append}
use Rattle.std.proofs.lemmas.Grind.{flat_map-append}
use Rattle.seg_store.specs.Block.{Block}
use Rattle.seg_store.specs.WriterBlocks.{Taken, byte_count, block_bytes, with_closed, with_stacked, last_block, all_blocks, taken_count}
use Rattle.seg_store.specs.BlockLaw.{all_documents, AllAreStackedLast, AreTakenLast}
use Rattle.seg_store.proofs.KeptBlocks.{document_count-push, opened}
use Rattle.seg_store.proofs.StackedBlocks.{document_count-append, block_bytes-append, last_count}

last_documents : (b : Block) → flat_map (λ (x : Block). x) (last_block b) ≡ b
last_documents [] = refl
last_documents (d ∷ ds) = append-nil (d ∷ ds)

-- all documents are those of the closed blocks and of the open one
documents_are : (w : Taken) → all_documents w ≡ flat_map (λ (x : Block). x) w.closed ++ w.open_block
documents_are w = flat_map-append (λ (x : Block). x) w.closed (last_block w.open_block) ∙ ap (λ ds. flat_map (λ (x : Block). x) w.closed ++ ds) (last_documents w.open_block)

-- closing changes neither
closed_documents : (w : Taken) → all_documents (with_closed w) ≡ flat_map (λ (x : Block). x) w.closed ++ w.open_block
closed_documents w =
    documents_are (with_closed w) ∙ append-nil (flat_map (λ (x : Block). x) (w.closed ++ w.open_block ∷ []))
    ∙ flat_map-append (λ (x : Block). x) w.closed (w.open_block ∷ [])
    ∙ ap (λ ds. flat_map (λ (x : Block). x) w.closed ++ ds) (append-nil w.open_block)

closed_count : (w : Taken) → taken_count (with_closed w) ≡ taken_count w
closed_count w = omega (arith, document_count-push w.closed w.open_block)

-- full or not
by_size : (b : Bool) (t : Taken) → all_documents (cond b (with_closed t) t) ≡ flat_map (λ (x : Block). x) t.closed ++ t.open_block
by_size true t = closed_documents t
by_size false t = documents_are t

count_by_size : (b : Bool) (t : Taken) → taken_count (cond b (with_closed t) t) ≡ taken_count t
count_by_size true t = closed_count t
count_by_size false t = refl

pub are_taken_last : AreTakenLast
are_taken_last document w =
    let t : Taken = opened w document in
    let full = nat_le w.block_size (byte_count t.open_block) in
    record {
      order = by_size full t ∙ sym (append_assoc (flat_map (λ (x : Block). x) w.closed) w.open_block (document ∷ [])) ∙ ap (λ ds. ds ++ document ∷ []) (sym (documents_are w));
      count = count_by_size full t ∙ (let more : taken_count t ≡ taken_count w + 1 = omega (arith, length-append w.open_block (document ∷ [])) in more);
    }

-- ---- blocks that are stacked

pub last_size : (b : Block) → block_bytes (last_block b) ≡ byte_count b
last_size [] = refl
last_size (d ∷ ds) = omega arith

pub all_are_stacked_last : AllAreStackedLast
all_are_stacked_last blocks w =
    let cuts : all_blocks (with_stacked blocks w) ≡ all_blocks w ++ blocks = append-nil (all_blocks w ++ blocks) in
    record {
      cuts = cuts;
      order = ap (flat_map (λ (x : Block). x)) cuts ∙ flat_map-append (λ (x : Block). x) (all_blocks w) blocks;
      count = omega (arith, document_count-append (all_blocks w) blocks, document_count-append w.closed (last_block w.open_block), last_count w.open_block);
      bytes = omega (arith, block_bytes-append (all_blocks w) blocks, block_bytes-append w.closed (last_block w.open_block), last_size w.open_block);
    }

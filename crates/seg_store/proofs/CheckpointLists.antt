-- The checkpoints of blocks, one after another.
use Rattle.std.proofs.Common.{◌≡◌, ℕ, zero, suc, ◌+◌, ◌≤◌, ◌<◌, true, List, [], ◌∷◌, length, take, map, refl, sym, ap, subst, ◌∙◌, arith, add-one, slice_range}
use Rattle.std.specs.List.{list_all, range_with_len, AllByRecursion}
use Rattle.std.proofs.lemmas.Bool.{and_parts}
use Rattle.std.proofs.lemmas.List.{length-map}
use Rattle.std.proofs.lemmas.Simd.{map-map}
use Rattle.seg_common.proofs.Lists.{length-range}
use Rattle.seg_store.specs.declared.checkpoint.Checkpoint.{Checkpoint}
use Rattle.seg_store.specs.Block.{Block, documents_in, is_block}
use Rattle.seg_store.specs.Checkpoints.{checkpoint_of, checkpoints, stored_size}
use Rattle.seg_store.specs.Ends.{are_ends, cut_from}
use Rattle.seg_store.specs.StackedBlocks.{byte_ends, shifted, HaveBlocks}
use Rattle.seg_store.specs.Store.{store_checkpoints, store_body, store_parts, id_ends, document_count, blocks_of, is_store}
use Rattle.seg_store.proofs.CutEnds.{ends-next}
use Rattle.seg_store.proofs.DocumentPlaces.{block_facts, block_size_is, blocks_cut, count_is, size_from, store_facts}

-- from one on, each number has what the one before it has
next_ones : {X : Type 0} (f g : ℕ → X) → ((i : ℕ) → f (i + 1) ≡ g i) → (a n : ℕ) → map f (range_with_len (a + 1) n) ≡ map g (range_with_len a n)
next_ones f g same a zero = refl
next_ones f g same a (suc n) = let rest = next_ones f g same (a + 1) n in λ j. same a j ∷ rest j

-- where a block ends that is the first
abbrev pub first_end : Block → Checkpoint
first_end b = record { doc_end = length b; byte_end = stored_size (b ∷ []) }

first_is : (b : Block) (bs : List Block) → checkpoint_of (b ∷ bs) 0 ≡ first_end b
first_is b bs =
    let count : document_count (b ∷ []) ≡ length b = omega arith in
    λ i. record { doc_end = count i; byte_end = stored_size (b ∷ []) }

next_is : (b : Block) (bs : List Block) (i : ℕ) → checkpoint_of (b ∷ bs) (i + 1) ≡ shifted (length b) (stored_size (b ∷ [])) (checkpoint_of bs i)
next_is b bs i =
    let rest = take (i + 1) bs in
    let split : take (i + 1 + 1) (b ∷ bs) ≡ b ∷ rest = ap (λ (n : ℕ). take n (b ∷ bs)) (add-one (i + 1)) in
    let size : stored_size (b ∷ rest) ≡ stored_size (b ∷ []) + stored_size rest = omega arith in
    λ j. record { doc_end = document_count (split j); byte_end = (ap stored_size split ∙ size) j }

-- the checkpoints of a block and of those after it
pub checkpoints-cons : (b : Block) (bs : List Block) → checkpoints (b ∷ bs) ≡ first_end b ∷ map (shifted (length b) (stored_size (b ∷ []))) (checkpoints bs)
checkpoints-cons b bs =
    let shift = shifted (length b) (stored_size (b ∷ [])) in
    let rest = next_ones (checkpoint_of (b ∷ bs)) (λ i. shift (checkpoint_of bs i)) (next_is b bs) 0 (length bs) ∙ sym (map-map shift (checkpoint_of bs) (range_with_len 0 (length bs))) in
    λ i. first_is b bs i ∷ rest i

shifted_twice : (d e s t : ℕ) (cs : List Checkpoint) → map (shifted d s) (map (shifted e t) cs) ≡ map (shifted (d + e) (s + t)) cs
shifted_twice d e s t [] = refl
shifted_twice d e s t (c ∷ cs) =
    let ids : d + (e + c.doc_end) ≡ d + e + c.doc_end = omega arith in
    let ends : s + (t + c.byte_end) ≡ s + t + c.byte_end = omega arith in
    let rest = shifted_twice d e s t cs in
    λ i. record { doc_end = ids i; byte_end = ends i } ∷ rest i

-- those of blocks that come after others
pub shifted-cons : (d s : ℕ) (b : Block) (bs : List Block) → map (shifted d s) (checkpoints (b ∷ bs)) ≡ shifted d s (first_end b) ∷ map (shifted (d + length b) (s + stored_size (b ∷ []))) (checkpoints bs)
shifted-cons d s b bs =
    ap (map (shifted d s)) (checkpoints-cons b bs)
    ∙ ap (λ cs. shifted d s (first_end b) ∷ cs) (shifted_twice d (length b) s (stored_size (b ∷ [])) (checkpoints bs))

unshifted : (cs : List Checkpoint) → map (shifted 0 0) cs ≡ cs
unshifted [] = refl
unshifted (c ∷ cs) =
    let ids : 0 + c.doc_end ≡ c.doc_end = omega arith in
    let ends : 0 + c.byte_end ≡ c.byte_end = omega arith in
    let rest = unshifted cs in
    λ i. record { doc_end = ids i; byte_end = ends i } ∷ rest i

-- how many documents there are up to and including each block
pub shifted_ids : (d s : ℕ) (bs : List Block) → map (λ c. c.doc_end) (map (shifted d s) (checkpoints bs)) ≡ id_ends d bs
shifted_ids d s [] = refl
shifted_ids d s (b ∷ bs) =
    ap (λ cs. map (λ c. c.doc_end) cs) (shifted-cons d s b bs)
    ∙ ap (λ ns. (d + length b) ∷ ns) (shifted_ids (d + length b) (s + stored_size (b ∷ [])) bs)

-- where each block ends in the bytes
pub shifted_ends : (d s : ℕ) (cs : List Checkpoint) → byte_ends (map (shifted d s) cs) ≡ map (λ e. s + e) (byte_ends cs)
shifted_ends d s [] = refl
shifted_ends d s (c ∷ cs) = ap (λ ns. (s + c.byte_end) ∷ ns) (shifted_ends d s cs)

-- a checkpoint is below these limits
abbrev pub IsBelow : (documents bytes : ℕ) → Checkpoint → Type 0
IsBelow documents bytes c = (c.doc_end < documents) × (c.byte_end < bytes)

-- no block ends after the last
pub all_below : (d s n m : ℕ) (bs : List Block) → d + document_count bs < n → s + stored_size bs < m → AllByRecursion (IsBelow n m) (map (shifted d s) (checkpoints bs))
all_below d s n m [] few small = tt
all_below d s n m (b ∷ bs) few small =
    let rest = all_below (d + length b) (s + stored_size (b ∷ [])) n m bs (omega (arith, few)) (omega (arith, small)) in
    subst (AllByRecursion (IsBelow n m)) (sym (shifted-cons d s b bs)) ((omega (arith, few), omega (arith, small)), rest)

-- ends that cut bytes into blocks are where these blocks end
ends_are : (d start : ℕ) (es bytes : List ℕ) → are_ends start (length bytes) es ≡ true → list_all is_block (cut_from start es bytes) ≡ true
    → byte_ends (map (shifted d start) (checkpoints (map documents_in (cut_from start es bytes)))) ≡ es
ends_are d start [] bytes h all = refl
ends_are d start (e ∷ es) bytes h all =
    let n = ends-next start (length bytes) e es h in
    let part = slice_range bytes start e in
    let b = documents_in part in
    let bs = map documents_in (cut_from e es bytes) in
    let p = and_parts (is_block part) (list_all is_block (cut_from e es bytes)) all in
    let size : start + stored_size (b ∷ []) ≡ e = omega (arith, n.from, length-range bytes start e n.from n.within, block_size_is part p.0) in
    ap byte_ends (shifted-cons d start b bs)
    ∙ (λ i. size i ∷ byte_ends (map (shifted (d + length b) (size i)) (checkpoints bs)))
    ∙ ap (λ ns. e ∷ ns) (ends_are (d + length b) e es bytes n.others p.1)

-- the bytes of a store's blocks
pub have_blocks : (bytes : List ℕ) → is_store bytes ≡ true → HaveBlocks (blocks_of bytes) (store_body bytes)
have_blocks bytes h =
    let f = store_facts bytes h in
    let es = map (λ c. c.1) (store_checkpoints bytes) in
    let body = store_body bytes in
    let same : byte_ends (checkpoints (blocks_of bytes)) ≡ es = ap (λ bs. byte_ends (checkpoints bs)) (blocks_cut bytes) ∙ sym (ap byte_ends (unshifted (checkpoints (map documents_in (store_parts bytes))))) ∙ ends_are 0 0 es body f.ends f.blocks in
    record {
      ends = ap (are_ends 0 (length body)) same ∙ f.ends;
      good = ap (λ (ns : List ℕ). list_all is_block (cut_from 0 ns body)) same ∙ f.blocks;
      documents = ap (λ (ns : List ℕ). map documents_in (cut_from 0 ns body)) same ∙ sym (blocks_cut bytes);
    }

-- they are as long as the blocks are large
pub blocks_size : (blocks : List Block) (bytes : List ℕ) → HaveBlocks blocks bytes → length bytes ≡ stored_size blocks
blocks_size blocks bytes have =
    omega (arith, size_from 0 (byte_ends (checkpoints blocks)) bytes have.ends have.good, ap stored_size have.documents)

-- each block has documents
no_more_blocks : (parts : List (List ℕ)) → list_all is_block parts ≡ true → length parts ≤ document_count (map documents_in parts)
no_more_blocks [] all = omega arith
no_more_blocks (p ∷ ps) all =
    let both = and_parts (is_block p) (list_all is_block ps) all in
    omega (arith, (block_facts p both.0).some, count_is p, no_more_blocks ps both.1)

pub blocks_few : (blocks : List Block) (bytes : List ℕ) → HaveBlocks blocks bytes → length blocks ≤ document_count blocks
blocks_few blocks bytes have =
    let parts = cut_from 0 (byte_ends (checkpoints blocks)) bytes in
    let many = sym (length-map parts documents_in) ∙ ap length have.documents in
    omega (arith, no_more_blocks parts have.good, ap document_count have.documents, many)

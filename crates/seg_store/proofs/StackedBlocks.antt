-- What a writer keeps once the blocks of a store are stacked.
use Rattle.std.proofs.Common.{◌≡◌, ℕ, ◌+◌, ◌-◌, ◌<◌, ◌≤◌, ◌^◌, true, List, [], ◌∷◌, ◌++◌, length, take, drop, map, refl, sym, ap, ◌∙◌, arith, slice_range, append-nil}
use Rattle.std.specs.List.{list_all}
use Rattle.std.proofs.lemmas.Bool.{eqb-true, eq-eqb}
use Rattle.std.proofs.lemmas.List.{length-append, length-map, take_all, map-append}
use Rattle.std.proofs.lemmas.List.FromFn.{length-map-range_with_len}
use Rattle.std.proofs.lemmas.List.Folds.{list_all-append}
use Rattle.std.proofs.Math.Seq.{drop-append-add}
use Rattle.seg_common.proofs.Lists.{range-front}
use Rattle.seg_store.specs.declared.checkpoint.Checkpoint.{Checkpoint}
use Rattle.seg_store.specs.Block.{Block, documents_in, is_block}
use Rattle.seg_store.specs.WriterBuffers.{Buffers, closed_parts, taken_of, IsKept}
use Rattle.seg_store.specs.Checkpoints.{checkpoint_of, checkpoints}
use Rattle.seg_store.specs.Ends.{are_ends, cut_from}
use Rattle.seg_store.specs.StackedBlocks.{byte_ends, shifted, HaveBlocks}
use Rattle.seg_store.specs.Store.{id_ends, document_count}
use Rattle.seg_store.specs.WriterBlocks.{Taken, byte_count, block_bytes, taken_count, last_block, all_blocks, with_all_closed, with_stacked}
use Rattle.seg_doc_bytes.specs.StoredDocument.{is_stored_document}
use Rattle.seg_store.proofs.CheckpointLists.{shifted_ends, shifted_ids, blocks_few, blocks_size}
use Rattle.seg_store.proofs.CutEnds.{ends-go, ends-next}
use Rattle.seg_store.proofs.KeptBlocks.{nothing_left, all_are_closed}

-- ---- ends and parts after others

abbrev after : ℕ → List ℕ → List ℕ
after n es = map (λ e. n + e) es

ends-after : (n start total : ℕ) (es : List ℕ) → are_ends start total es ≡ true → are_ends (n + start) (n + total) (after n es) ≡ true
ends-after n start total [] h = eq-eqb (n + start) (n + total) (ap (λ (m : ℕ). n + m) (eqb-true start total h))
ends-after n start total (e ∷ es) h =
    let k = ends-next start total e es h in
    ends-go (n + start) (n + total) (n + e) (after n es) (omega (arith, k.from)) ∙ ends-after n e total es k.others

ends-append : (start n total : ℕ) (es ds : List ℕ) → are_ends start n es ≡ true → are_ends 0 total ds ≡ true → are_ends start (n + total) (es ++ after n ds) ≡ true
ends-append start n total [] ds h k =
    let same : start ≡ n + 0 = omega (arith, eqb-true start n h) in
    ap (λ (m : ℕ). are_ends m (n + total) (after n ds)) same ∙ ends-after n 0 total ds k
ends-append start n total (e ∷ es) ds h k =
    let x = ends-next start n e es h in
    ends-go start (n + total) e (es ++ after n ds) x.from ∙ ends-append e n total es ds x.others k

range-after : (front body : List ℕ) (n s e : ℕ) → n ≡ length front → slice_range (front ++ body) (n + s) (n + e) ≡ slice_range body s e
range-after front body n s e is =
    let size : n + e - (n + s) ≡ e - s = omega arith in
    let rest : drop (n + s) (front ++ body) ≡ drop s body = ap (λ (k : ℕ). drop (k + s) (front ++ body)) is ∙ drop-append-add front body s in
    λ i. take (size i) (rest i)

cut-after : (front body : List ℕ) (n start : ℕ) (es : List ℕ) → n ≡ length front → cut_from (n + start) (after n es) (front ++ body) ≡ cut_from start es body
cut-after front body n start [] is = refl
cut-after front body n start (e ∷ es) is =
    let here = range-after front body n start e is in
    let rest = cut-after front body n e es is in
    λ i. here i ∷ rest i

cut-append : (start : ℕ) (es ds front body : List ℕ) → are_ends start (length front) es ≡ true → cut_from start (es ++ after (length front) ds) (front ++ body) ≡ cut_from start es front ++ cut_from 0 ds body
cut-append start [] ds front body h =
    let same : start ≡ length front + 0 = omega (arith, eqb-true start (length front) h) in
    ap (λ (m : ℕ). cut_from m (after (length front) ds) (front ++ body)) same ∙ cut-after front body (length front) 0 ds refl
cut-append start (e ∷ es) ds front body h =
    let n = ends-next start (length front) e es h in
    rw (range-front front body start e n.from n.within, cut-append e es ds front body n.others) refl

-- ---- blocks after others

pub document_count-append : (bs cs : List Block) → document_count (bs ++ cs) ≡ document_count bs + document_count cs
document_count-append [] cs = omega arith
document_count-append (b ∷ bs) cs = omega (arith, document_count-append bs cs)

pub block_bytes-append : (bs cs : List Block) → block_bytes (bs ++ cs) ≡ block_bytes bs + block_bytes cs
block_bytes-append [] cs = omega arith
block_bytes-append (b ∷ bs) cs = omega (arith, block_bytes-append bs cs)

id_ends-append : (first n : ℕ) (bs cs : List Block) → n ≡ first + document_count bs → id_ends first (bs ++ cs) ≡ id_ends first bs ++ id_ends n cs
id_ends-append first n [] cs is = let same : first ≡ n = omega (arith, is) in ap (λ (m : ℕ). id_ends m cs) same
id_ends-append first n (b ∷ bs) cs is = ap (λ ns. (first + length b) ∷ ns) (id_ends-append (first + length b) n bs cs (omega (arith, is)))

pub last_count : (b : Block) → document_count (last_block b) ≡ length b
last_count [] = refl
last_count (d ∷ ds) = omega arith

-- ---- what is kept

-- what is kept once blocks come after others
abbrev pub stacked_on : Buffers → List Block → List ℕ → Buffers
stacked_on b blocks body = record b {
  bytes = b.bytes ++ body;
  checkpoints = b.checkpoints ++ map (shifted b.documents b.start) (checkpoints blocks);
  start = length (b.bytes ++ body);
  documents = b.documents + document_count blocks;
  stored = b.stored + block_bytes blocks;
}

-- no block is open
record IsAtEnd (b : Buffers) : Type 0 where
  start : b.start ≡ length b.bytes
  whole : take b.start b.bytes ≡ b.bytes
  none : (taken_of b).open_block ≡ []
  all : all_blocks (taken_of b) ≡ (taken_of b).closed

at_end : (b : Buffers) → IsKept b → b.ends ≡ [] → IsAtEnd b
at_end b kept none =
    let total : are_ends 0 (length b.bytes - b.start) [] ≡ true = ap (λ (es : List ℕ). are_ends 0 (length b.bytes - b.start) es) (sym none) ∙ kept.open_block.ends in
    let left : 0 ≡ length b.bytes - b.start = eqb-true 0 (length b.bytes - b.start) total in
    let start : b.start ≡ length b.bytes = omega (arith, left, kept.closed.within) in
    record {
      start = start;
      whole = take_all b.start b.bytes (omega (arith, start));
      none = nothing_left b none;
      all = all_are_closed b none;
    }

pub ends_here : (b : Buffers) → IsKept b → b.ends ≡ [] → b.start ≡ length b.bytes
ends_here b kept none = (at_end b kept none).start

pub record IsStacked (b : Buffers) (blocks : List Block) (body : List ℕ) : Type 0 where
  pub kept : IsKept (stacked_on b blocks body)
  pub taken : taken_of (stacked_on b blocks body) ≡ with_stacked blocks (taken_of b)

module _ (b : Buffers) (blocks : List Block) (body : List ℕ) (kept : IsKept b) (none : b.ends ≡ []) (have : HaveBlocks blocks body) where
  abbrev new : Buffers
  new = stacked_on b blocks body

  abbrev bytes : List ℕ
  bytes = b.bytes ++ body

  abbrev es : List ℕ
  es = byte_ends b.checkpoints

  abbrev ds : List ℕ
  ds = byte_ends (checkpoints blocks)

  abbrev closed_before : List Block
  closed_before = map documents_in (closed_parts b)

  size : length bytes ≡ length b.bytes + length body
  size = length-append b.bytes body

  ends_before : are_ends 0 (length b.bytes) es ≡ true
  ends_before = ap (λ (n : ℕ). are_ends 0 n es) (sym (at_end b kept none).start) ∙ kept.closed.ends

  ends_more : byte_ends new.checkpoints ≡ es ++ after (length b.bytes) ds
  ends_more =
      map-append (λ (c : Checkpoint). c.byte_end) b.checkpoints (map (shifted b.documents b.start) (checkpoints blocks))
      ∙ ap (λ ns. es ++ ns) (shifted_ends b.documents b.start (checkpoints blocks) ∙ ap (λ (n : ℕ). after n ds) (at_end b kept none).start)

  parts : closed_parts new ≡ closed_parts b ++ cut_from 0 ds body
  parts =
      (λ i. cut_from 0 (ends_more i) (take_all (length bytes) bytes (omega arith) i))
      ∙ cut-append 0 es ds b.bytes body ends_before
      ∙ ap (λ (l : List ℕ). cut_from 0 es l ++ cut_from 0 ds body) (sym (at_end b kept none).whole)

  closed_after : map documents_in (closed_parts new) ≡ closed_before ++ blocks
  closed_after =
      ap (map documents_in) parts ∙ map-append documents_in (closed_parts b) (cut_from 0 ds body)
      ∙ ap (λ bs. closed_before ++ bs) have.documents

  nothing_open : (taken_of new).open_block ≡ []
  nothing_open = ap (λ (ns : List ℕ). cut_from 0 ns (drop new.start new.bytes)) none

  taken_is : taken_of new ≡ with_stacked blocks (taken_of b)
  taken_is =
      let all = closed_after ∙ ap (λ bs. bs ++ blocks) (sym (at_end b kept none).all) in
      λ i. record { block_size = b.block_size; closed = all i; open_block = nothing_open i }

  documents_before : b.documents ≡ document_count closed_before
  documents_before = let one = ap length (at_end b kept none).none in omega (arith, kept.counts.documents, one)

  ids_after : map (λ c. c.doc_end) new.checkpoints ≡ id_ends 0 (map documents_in (closed_parts new))
  ids_after =
      map-append (λ (c : Checkpoint). c.doc_end) b.checkpoints (map (shifted b.documents b.start) (checkpoints blocks))
      ∙ (λ i. kept.closed.ids i ++ shifted_ids b.documents b.start blocks i)
      ∙ sym (id_ends-append 0 b.documents closed_before blocks (omega (arith, documents_before)))
      ∙ sym (ap (id_ends 0) closed_after)

  blocks_after : list_all is_block (closed_parts new) ≡ true
  blocks_after = ap (list_all is_block) parts ∙ list_all-append is_block (closed_parts b) (cut_from 0 ds body) ∙ rw (kept.closed.blocks, have.good) refl

  counted : new.documents ≡ taken_count (taken_of new)
  counted =
      let open_count = ap length nothing_open in
      let closed_count = ap document_count closed_after in
      omega (arith, documents_before, open_count, closed_count, document_count-append closed_before blocks)

  summed : new.stored ≡ block_bytes (taken_of new).closed + byte_count (taken_of new).open_block
  summed =
      let open_now = ap byte_count nothing_open in
      let open_before = ap byte_count (at_end b kept none).none in
      let closed_now = ap block_bytes closed_after in
      omega (arith, kept.counts.stored, open_now, open_before, closed_now, block_bytes-append closed_before blocks)

  points_few : length new.checkpoints + length b.ends ≤ new.documents
  points_few =
      let points = length-append b.checkpoints (map (shifted b.documents b.start) (checkpoints blocks)) in
      let each = length-map (checkpoints blocks) (shifted b.documents b.start) ∙ length-map-range_with_len (checkpoint_of blocks) 0 (length blocks) in
      omega (arith, kept.counts.blocks, points, each, blocks_few blocks body have)

  pub is_stacked : b.documents + document_count blocks < 2 ^ 31 → IsStacked b blocks body
  is_stacked few = record {
    kept = record {
      closed = record {
        within = omega arith;
        ends = ap (are_ends 0 (length bytes)) ends_more ∙ ap (λ (n : ℕ). are_ends 0 n (es ++ after (length b.bytes) ds)) size ∙ ends-append 0 (length b.bytes) (length body) es ds ends_before have.ends;
        blocks = blocks_after;
        ids = ids_after;
      };
      open_block = record {
        ends = ap (λ (ns : List ℕ). are_ends 0 (length bytes - length bytes) ns) none ∙ eq-eqb 0 (length bytes - length bytes) (omega arith);
        stored = ap (list_all is_stored_document) nothing_open;
      };
      counts = record {
        documents = counted;
        few = few;
        blocks = points_few;
        stored = summed;
        small = omega (arith, kept.counts.small, size, blocks_size blocks body have);
      };
    };
    taken = taken_is;
  }

-- ---- once no block is open

closed_count : (t : Taken) → taken_count (with_all_closed t) ≡ taken_count t
closed_count t = omega (arith, document_count-append t.closed (last_block t.open_block), last_count t.open_block)

-- closing takes no document
pub same_count : (b after : Buffers) → IsKept b → IsKept after → taken_of after ≡ with_all_closed (taken_of b) → after.documents ≡ b.documents
same_count b after kept kept_after is = kept_after.counts.documents ∙ ap taken_count is ∙ closed_count (taken_of b) ∙ sym kept.counts.documents

-- blocks are stacked on what is closed as on what isn't
pub stacked_on_closed : (blocks : List Block) (t : Taken) → with_stacked blocks (with_all_closed t) ≡ with_stacked blocks t
stacked_on_closed blocks t = ap (λ (bs : List Block). record t { closed = bs ++ blocks; open_block = [] }) (append-nil (all_blocks t))

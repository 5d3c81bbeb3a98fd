-- Blocks and documents of a store by their places.
use Rattle.std.proofs.Common.{◌≡◌, ℕ, zero, suc, ◌+◌, ◌*◌, ◌-◌, ◌<◌, ◌≤◌, true, List, [], ◌∷◌, length, take, map, Some, refl, sym, ap, ◌∙◌, arith, slice_range, slice_index, add-one}
use Rattle.std.specs.Prelude.{◌==◌, nat_lt, nat_le, option_map}
use Rattle.std.specs.List.{slice_get, list_all}
use Rattle.std.specs.Str.{bytes_eq}
use Rattle.std.proofs.lemmas.Bool.{and_parts, ltb-true, leb-true, eqb-true}
use Rattle.std.proofs.lemmas.Slice.Eq.{bytes_eq-Decides}
use Rattle.std.proofs.lemmas.List.{length-take, length-drop, length-map, take_all}
use Rattle.std.proofs.lemmas.List.Folds.{list_all-append}
use Rattle.std.proofs.lemmas.Option.{none-some, same_Some, slice_get-map}
use Rattle.seg_common.specs.LittleEndian.{u32_at, u64_at}
use Rattle.seg_common.proofs.Lists.{length-range}
use Rattle.seg_common.proofs.Bytes.{u32_at-drop}
use Rattle.seg_store.specs.Ends.{but_last, numbers_of, are_ends, cut_from, start_of}
use Rattle.seg_doc_bytes.specs.StoredDocument.{is_stored_document}
use Rattle.seg_store.specs.Block.{Block, block_count, block_table, block_ends, block_body, documents_in, is_block}
use Rattle.seg_store.specs.Store.{footer, store_count, store_table, checkpoints_of, store_checkpoints, store_body, store_parts, id_ends, document_count, raw_documents, blocks_of, is_store}
use Rattle.seg_store.specs.Checkpoints.{stored_size}
use Rattle.seg_store.specs.WriterBlocks.{byte_count}
use Rattle.seg_store.proofs.CutEnds.{length-cut, ends-next, bytes-cut as bytes_cut}
use Rattle.seg_store.proofs.EndTables.{number_at, checkpoint_found, length-numbers_of, length-checkpoints_of}
use Rattle.seg_store.proofs.PartPlaces.{get-left, get-right, passes_at, range_in_take, part_at, starts_after}
use Rattle.seg_store.proofs.Blocks.{documents_by}

-- ---- documents of a block

pub record BlockFacts (block : List ℕ) : Type 0 where
  pub some : 0 < block_count block
  pub room : 4 + 8 * block_count block ≤ length block
  pub ends : are_ends 0 (length (block_body block)) (block_ends block) ≡ true
  pub stored : list_all is_stored_document (documents_in block) ≡ true

pub block_facts : (block : List ℕ) → is_block block ≡ true → BlockFacts block
unfolding is_block documents_in
block_facts block h =
    let p = and_parts (nat_lt 0 (block_count block)) _ h in
    let q = and_parts (nat_le (4 + 8 * block_count block) (length block)) _ p.1 in
    let r = and_parts (are_ends 0 (length (block_body block)) (block_ends block)) _ q.1 in
    record { some = ltb-true 0 (block_count block) p.0; room = leb-true (4 + 8 * block_count block) (length block) q.0; ends = r.0; stored = r.1 }

pub count_is : (block : List ℕ) → length (documents_in block) ≡ block_count block
count_is block = ap length (documents_by block) ∙ length-cut 0 (block_ends block) (block_body block) ∙ length-numbers_of (block_count block) (block_table block)

-- a document of a block
pub record IsDocumentAt (block : List ℕ) (i start end : ℕ) : Type 0 where
  pub from : start ≤ end
  pub within : end ≤ length block
  pub is : slice_get (documents_in block) i ≡ Some (slice_range block start end)

body_within : (block : List ℕ) → length (block_body block) ≤ length block
body_within block = omega (arith, length-take (length (but_last 4 block) - 8 * block_count block) (but_last 4 block), length-take (length block - 4) block)

in_body : (block : List ℕ) (s e : ℕ) → s ≤ e → e ≤ length (block_body block) → slice_range (block_body block) s e ≡ slice_range block s e
in_body block s e se h =
    let outer : length (block_body block) ≤ length (but_last 4 block) = omega (arith, length-take (length (but_last 4 block) - 8 * block_count block) (but_last 4 block)) in
    range_in_take (length (but_last 4 block) - 8 * block_count block) (but_last 4 block) s e se h
    ∙ range_in_take (length block - 4) block s e se (omega (arith, h, outer))

pub document_at : (block : List ℕ) (i start end : ℕ) → is_block block ≡ true → i < length (documents_in block) → start ≡ start_of 0 (block_ends block) i → end ≡ u64_at (block_table block) (8 * i) → IsDocumentAt block i start end
document_at block i start end h lt start_is end_is =
    let f = block_facts block h in
    let e = u64_at (block_table block) (8 * i) in
    let found = number_at (block_count block) (block_table block) i (omega (arith, lt, count_is block)) in
    let p = part_at 0 (length (block_body block)) (block_ends block) (block_body block) i e f.ends found in
    let cut : slice_range (block_body block) (start_of 0 (block_ends block) i) e ≡ slice_range block start end = in_body block (start_of 0 (block_ends block) i) e p.from p.within ∙ (λ j. slice_range block (sym start_is j) (sym end_is j)) in
    record {
      from = omega (arith, p.from, start_is, end_is);
      within = omega (arith, p.within, body_within block, end_is);
      is = ap (λ ds. slice_get ds i) (documents_by block) ∙ p.cut ∙ ap Some cut;
    }

-- ---- blocks of a store

pub record StoreFacts (bytes : List ℕ) : Type 0 where
  pub room : 9 + 12 * store_count bytes ≤ length bytes
  pub ends : are_ends 0 (length (store_body bytes)) (map (λ c. c.1) (store_checkpoints bytes)) ≡ true
  pub blocks : list_all is_block (store_parts bytes) ≡ true
  pub ids : map (λ c. c.0) (store_checkpoints bytes) ≡ id_ends 0 (blocks_of bytes)
  pub total : u32_at (footer bytes) 4 ≡ document_count (blocks_of bytes)

pub store_facts : (bytes : List ℕ) → is_store bytes ≡ true → StoreFacts bytes
unfolding is_store blocks_of
store_facts bytes h =
    let p = and_parts (nat_le (9 + 12 * store_count bytes) (length bytes)) _ h in
    let q = and_parts (slice_index (footer bytes) 8 == 0) _ p.1 in
    let r = and_parts (are_ends 0 (length (store_body bytes)) (map (λ c. c.1) (store_checkpoints bytes))) _ q.1 in
    let s = and_parts (list_all is_block (store_parts bytes)) _ r.1 in
    let t = and_parts (bytes_eq (map (λ c. c.0) (store_checkpoints bytes)) (id_ends 0 (map documents_in (store_parts bytes)))) _ s.1 in
    record {
      room = leb-true (9 + 12 * store_count bytes) (length bytes) p.0;
      ends = r.0;
      blocks = s.0;
      ids = (bytes_eq-Decides (map (λ c. c.0) (store_checkpoints bytes)) (id_ends 0 (map documents_in (store_parts bytes)))).0 t.0;
      total = eqb-true (u32_at (footer bytes) 4) (document_count (map documents_in (store_parts bytes))) t.1;
    }

pub blocks_cut : (bytes : List ℕ) → blocks_of bytes ≡ map documents_in (store_parts bytes)
unfolding blocks_of
blocks_cut bytes = refl

pub block_number : (bytes : List ℕ) → length (blocks_of bytes) ≡ store_count bytes
block_number bytes =
    ap length (blocks_cut bytes) ∙ length-map (store_parts bytes) documents_in
    ∙ length-cut 0 (map (λ c. c.1) (store_checkpoints bytes)) (store_body bytes)
    ∙ length-map (store_checkpoints bytes) (λ c. c.1) ∙ length-checkpoints_of (store_count bytes) (store_table bytes)

id_at : (first : ℕ) (bs : List Block) (i : ℕ) → i < length bs → slice_get (id_ends first bs) i ≡ Some (first + document_count (take (suc i) bs))
id_at first [] i lt = absurd (omega (arith, lt))
id_at first (b ∷ bs) zero lt = let sum : first + length b ≡ first + (length b + 0) = omega arith in ap Some sum
id_at first (b ∷ bs) (suc i) lt =
    let more = document_count (take (suc i) bs) in
    let sum : (first + length b) + more ≡ first + (length b + more) = omega arith in
    id_at (first + length b) bs i (omega (arith, lt)) ∙ ap Some sum

-- how many documents there are up to and including a block
pub doc_end_at : (bytes : List ℕ) (i : ℕ) → is_store bytes ≡ true → i < store_count bytes → u32_at (store_table bytes) (12 * i) ≡ document_count (take (suc i) (blocks_of bytes))
doc_end_at bytes i h lt =
    let found = slice_get-map (λ c. c.0) (store_checkpoints bytes) i ∙ ap (option_map (λ c. c.0)) (checkpoint_found (store_count bytes) (store_table bytes) i lt) in
    let numbered = id_at 0 (blocks_of bytes) i (omega (arith, lt, block_number bytes)) in
    let sum : 0 + document_count (take (suc i) (blocks_of bytes)) ≡ document_count (take (suc i) (blocks_of bytes)) = omega arith in
    same_Some _ _ (sym found ∙ ap (λ ns. slice_get ns i) ((store_facts bytes h).ids) ∙ numbered) ∙ sum

-- a block of a store
pub record IsBlockAt (bytes : List ℕ) (i start end : ℕ) : Type 0 where
  pub from : start ≤ end
  pub within : end ≤ length bytes
  pub block : is_block (slice_range bytes start end) ≡ true
  pub is : slice_get (blocks_of bytes) i ≡ Some (documents_in (slice_range bytes start end))

store_body_within : (bytes : List ℕ) → length (store_body bytes) ≤ length bytes
store_body_within bytes = omega (arith, length-take (length (but_last 9 bytes) - 12 * store_count bytes) (but_last 9 bytes), length-take (length bytes - 9) bytes)

in_store_body : (bytes : List ℕ) (s e : ℕ) → s ≤ e → e ≤ length (store_body bytes) → slice_range (store_body bytes) s e ≡ slice_range bytes s e
in_store_body bytes s e se h =
    let outer : length (store_body bytes) ≤ length (but_last 9 bytes) = omega (arith, length-take (length (but_last 9 bytes) - 12 * store_count bytes) (but_last 9 bytes)) in
    range_in_take (length (but_last 9 bytes) - 12 * store_count bytes) (but_last 9 bytes) s e se h
    ∙ range_in_take (length bytes - 9) bytes s e se (omega (arith, h, outer))

pub block_at : (bytes : List ℕ) (i start end : ℕ) → is_store bytes ≡ true → i < store_count bytes → start ≡ start_of 0 (map (λ c. c.1) (store_checkpoints bytes)) i → end ≡ u64_at (store_table bytes) (12 * i + 4) → IsBlockAt bytes i start end
block_at bytes i start end h lt start_is end_is =
    let f = store_facts bytes h in
    let es = map (λ c. c.1) (store_checkpoints bytes) in
    let e = u64_at (store_table bytes) (12 * i + 4) in
    let found = slice_get-map (λ c. c.1) (store_checkpoints bytes) i ∙ ap (option_map (λ c. c.1)) (checkpoint_found (store_count bytes) (store_table bytes) i lt) in
    let p = part_at 0 (length (store_body bytes)) es (store_body bytes) i e f.ends found in
    let cut : slice_range (store_body bytes) (start_of 0 es i) e ≡ slice_range bytes start end = in_store_body bytes (start_of 0 es i) e p.from p.within ∙ (λ j. slice_range bytes (sym start_is j) (sym end_is j)) in
    let part : slice_get (store_parts bytes) i ≡ Some (slice_range bytes start end) = p.cut ∙ ap Some cut in
    record {
      from = omega (arith, p.from, start_is, end_is);
      within = omega (arith, p.within, store_body_within bytes, end_is);
      block = passes_at is_block (store_parts bytes) i (slice_range bytes start end) f.blocks part;
      is = ap (λ bs. slice_get bs i) (blocks_cut bytes) ∙ slice_get-map documents_in (store_parts bytes) i ∙ ap (option_map documents_in) part;
    }

-- ---- documents of a store

-- a document, by the block that it is in
raw_at : (bs : List Block) (i doc : ℕ) (b : Block) → slice_get bs i ≡ Some b → document_count (take i bs) ≤ doc → doc < document_count (take (suc i) bs) → (slice_get (raw_documents bs) doc ≡ slice_get b (doc - document_count (take i bs))) × (doc - document_count (take i bs) < length b)
raw_at [] i doc b is from to = absurd (none-some b is)
raw_at (x ∷ xs) zero doc b is from to =
    let same = same_Some x b is in
    let size = ap length same in
    let here : doc < length x = omega (arith, to) in
    (get-left x (raw_documents xs) doc here ∙ ap (λ y. slice_get y doc) same ∙ (let none : doc ≡ doc - 0 = omega arith in ap (slice_get b) none), omega (arith, here, size))
raw_at (x ∷ xs) (suc i) doc b is from to =
    let before = document_count (take i xs) in
    let lower : length x + before ≤ doc = from in
    let rest : doc ≡ length x + (doc - length x) = omega (arith, lower) in
    let p = raw_at xs i (doc - length x) b is (omega (arith, lower)) (omega (arith, lower, to)) in
    let same : doc - length x - before ≡ doc - (length x + before) = omega arith in
    (get-right x (raw_documents xs) (doc - length x) doc rest ∙ p.0 ∙ ap (slice_get b) same, omega (arith, p.1, same))

-- a document in its block, whose first document has a number
pub raw_in_block : (bs : List Block) (block : List ℕ) (number first doc : ℕ) → slice_get bs number ≡ Some (documents_in block) → first ≡ document_count (take number bs) → document_count (take number bs) ≤ doc → doc < document_count (take (number + 1) bs) → (slice_get (raw_documents bs) doc ≡ slice_get (documents_in block) (doc - first)) × (doc - first < length (documents_in block))
raw_in_block bs block number first doc is first_is from to =
    let next = ap (λ n. document_count (take n bs)) (add-one number) in
    let r = raw_at bs number doc (documents_in block) is from (omega (arith, to, next)) in
    let same : doc - document_count (take number bs) ≡ doc - first = omega (arith, first_is) in
    (r.0 ∙ ap (slice_get (documents_in block)) same, omega (arith, r.1, same))

pub all_stored : (parts : List (List ℕ)) → list_all is_block parts ≡ true → list_all is_stored_document (raw_documents (map documents_in parts)) ≡ true
all_stored [] h = refl
all_stored (p ∷ ps) h =
    let both = and_parts (is_block p) (list_all is_block ps) h in
    list_all-append is_stored_document (documents_in p) (raw_documents (map documents_in ps)) ∙ rw ((block_facts p both.0).stored, all_stored ps both.1) refl

-- each document of a store is stored
pub stored_at : (bytes : List ℕ) (doc : ℕ) (x : List ℕ) → is_store bytes ≡ true → slice_get (raw_documents (blocks_of bytes)) doc ≡ Some x → is_stored_document x ≡ true
stored_at bytes doc x h is =
    passes_at is_stored_document (raw_documents (map documents_in (store_parts bytes))) doc x (all_stored (store_parts bytes) ((store_facts bytes h).blocks))
    (ap (λ bs. slice_get (raw_documents bs) doc) (sym (blocks_cut bytes)) ∙ is)

-- ---- starts

pub start_of_document : (n : ℕ) (table : List ℕ) (i index e : ℕ) → index ≡ suc i → i < n → e ≡ u64_at table (8 * i) → e ≡ start_of 0 (numbers_of n table) index
start_of_document n table i index e is lt e_is = e_is ∙ sym (ap (start_of 0 (numbers_of n table)) is ∙ starts_after 0 (numbers_of n table) i (u64_at table (8 * i)) (number_at n table i lt))

pub start_of_block : (n : ℕ) (table : List ℕ) (i index e : ℕ) → index ≡ suc i → i < n → e ≡ u64_at table (12 * i + 4) → e ≡ start_of 0 (map (λ c. c.1) (checkpoints_of n table)) index
start_of_block n table i index e is lt e_is =
    let es = map (λ c. c.1) (checkpoints_of n table) in
    let found : slice_get es i ≡ Some (u64_at table (12 * i + 4)) = slice_get-map (λ c. c.1) (checkpoints_of n table) i ∙ ap (option_map (λ c. c.1)) (checkpoint_found n table i lt) in
    e_is ∙ sym (ap (start_of 0 es) is ∙ starts_after 0 es i (u64_at table (12 * i + 4)) found)

-- ---- lengths of tables

pub table_length : (bytes : List ℕ) → is_store bytes ≡ true → length (store_table bytes) ≡ 12 * store_count bytes
table_length bytes h =
    let room = (store_facts bytes h).room in
    omega (arith, room, length-take (length bytes - 9) bytes, length-drop (length (but_last 9 bytes) - 12 * store_count bytes) (but_last 9 bytes))

pub block_table_length : (block : List ℕ) → is_block block ≡ true → length (block_table block) ≡ 8 * block_count block
block_table_length block h =
    let room = (block_facts block h).room in
    omega (arith, room, length-take (length block - 4) block, length-drop (length (but_last 4 block) - 8 * block_count block) (but_last 4 block))

-- ---- the block of a document

-- no document before a block is past a document that the blocks before it end at or before
first_below : (bytes : List ℕ) (doc index : ℕ) → is_store bytes ≡ true → index ≤ store_count bytes → ((i : ℕ) → i + 1 ≡ index → u32_at (store_table bytes) (12 * i) ≤ doc) → document_count (take index (blocks_of bytes)) ≤ doc
first_below bytes doc zero h le before = omega arith
first_below bytes doc (suc i) h le before = omega (arith, doc_end_at bytes i h (omega (arith, le)), before i (add-one i))

pub first_number : (bytes : List ℕ) (index first : ℕ) → is_store bytes ≡ true → index ≤ store_count bytes → (index ≡ 0 → first ≡ 0) → ((i : ℕ) → index ≡ i + 1 → first ≡ u32_at (store_table bytes) (12 * i)) → first ≡ document_count (take index (blocks_of bytes))
first_number bytes zero first h le at_first after = at_first refl
first_number bytes (suc i) first h le at_first after = after i (sym (add-one i)) ∙ doc_end_at bytes i h (omega (arith, le))

-- what a search in the table found
pub record IsFound (bytes table : List ℕ) (doc index : ℕ) : Type 0 where
  pub store : is_store bytes ≡ true
  pub doc_within : doc < document_count (blocks_of bytes)
  pub table_is : table ≡ store_table bytes
  pub within : 12 * index ≤ length table
  pub before : (i : ℕ) → i + 1 ≡ index → u32_at table (12 * i) ≤ doc
  pub past : 12 * (index + 1) ≤ length table → doc < u32_at table (12 * index)

size : (bytes table : List ℕ) (doc index : ℕ) → IsFound bytes table doc index → length table ≡ 12 * store_count bytes
size bytes table doc index f = ap length f.table_is ∙ table_length bytes f.store

below : (bytes table : List ℕ) (doc index : ℕ) → IsFound bytes table doc index → document_count (take index (blocks_of bytes)) ≤ doc
below bytes table doc index f =
    first_below bytes doc index f.store (omega (arith, f.within, size bytes table doc index f))
    (λ i is. let same = ap (λ t. u32_at t (12 * i)) f.table_is in omega (arith, f.before i is, same))

pub index_below : (n index : ℕ) (bs : List Block) (doc : ℕ) → length bs ≡ n → doc < document_count bs → document_count (take index bs) ≤ doc → (n ≤ index → ⊥)
index_below n index bs doc len lt le past =
    let all = ap document_count (take_all index bs (omega (arith, len, past))) in
    omega (arith, all, lt, le)

found_within : (bytes table : List ℕ) (doc index : ℕ) → IsFound bytes table doc index → index < store_count bytes
found_within bytes table doc index f =
    let not_past : store_count bytes ≤ index → ⊥ = index_below (store_count bytes) index (blocks_of bytes) doc (block_number bytes) f.doc_within (below bytes table doc index f) in
    omega (arith, not_past)

found_room : (bytes table : List ℕ) (doc index : ℕ) → IsFound bytes table doc index → 12 * (index + 1) ≤ length table
found_room bytes table doc index f = omega (arith, found_within bytes table doc index f, size bytes table doc index f)

-- the block that was found has the document
pub record HasDocument (bytes : List ℕ) (doc number : ℕ) : Type 0 where
  pub within : number < length (blocks_of bytes)
  pub from : document_count (take number (blocks_of bytes)) ≤ doc
  pub to : doc < document_count (take (suc number) (blocks_of bytes))

pub has_document : (bytes table : List ℕ) (doc index : ℕ) → IsFound bytes table doc index → HasDocument bytes doc index
has_document bytes table doc index f =
    let lt = found_within bytes table doc index f in
    record {
      within = omega (arith, lt, block_number bytes);
      from = below bytes table doc index f;
      to = omega (arith, f.past (found_room bytes table doc index f), ap (λ l. u32_at l (12 * index)) f.table_is, doc_end_at bytes index f.store lt);
    }

-- ---- how many documents there are

pub total_at : (bytes : List ℕ) → is_store bytes ≡ true → u32_at bytes (length bytes - 5) ≡ document_count (blocks_of bytes)
total_at bytes h =
    let f = store_facts bytes h in
    let place : length bytes - 9 + 4 ≡ length bytes - 5 = omega (arith, f.room) in
    sym (ap (u32_at bytes) place) ∙ sym (u32_at-drop bytes (length bytes - 9) 4) ∙ f.total

-- ---- where blocks end

pub block_size_is : (block : List ℕ) → is_block block ≡ true → length block ≡ stored_size (documents_in block ∷ [])
block_size_is block h =
    let f = block_facts block h in
    let documents = ap byte_count (documents_by block) in
    let all = bytes_cut 0 (block_ends block) (block_body block) f.ends in
    let rest = length-take (length block - 4) block in
    let body = length-take (length (but_last 4 block) - 8 * block_count block) (but_last 4 block) in
    omega (arith, f.room, documents, all, rest, body, count_is block)

byte_end_from : (start : ℕ) (ends bytes : List ℕ) (i e : ℕ) → are_ends start (length bytes) ends ≡ true → list_all is_block (cut_from start ends bytes) ≡ true → slice_get ends i ≡ Some e → e ≡ start + stored_size (take (suc i) (map documents_in (cut_from start ends bytes)))
byte_end_from start [] bytes i e h all is = absurd (none-some e is)
byte_end_from start (x ∷ xs) bytes zero e h all is =
    let n = ends-next start (length bytes) x xs h in
    let p = and_parts (is_block (slice_range bytes start x)) (list_all is_block (cut_from x xs bytes)) all in
    let part = length-range bytes start x n.from n.within in
    omega (arith, n.from, same_Some x e is, part, block_size_is (slice_range bytes start x) p.0)
byte_end_from start (x ∷ xs) bytes (suc i) e h all is =
    let n = ends-next start (length bytes) x xs h in
    let p = and_parts (is_block (slice_range bytes start x)) (list_all is_block (cut_from x xs bytes)) all in
    let part = length-range bytes start x n.from n.within in
    omega (arith, n.from, byte_end_from x xs bytes i e n.others p.1 is, part, block_size_is (slice_range bytes start x) p.0)

pub byte_end_at : (bytes : List ℕ) (i : ℕ) → is_store bytes ≡ true → i < store_count bytes → u64_at (store_table bytes) (12 * i + 4) ≡ stored_size (take (suc i) (blocks_of bytes))
byte_end_at bytes i h lt =
    let f = store_facts bytes h in
    let es = map (λ c. c.1) (store_checkpoints bytes) in
    let found : slice_get es i ≡ Some (u64_at (store_table bytes) (12 * i + 4)) = slice_get-map (λ c. c.1) (store_checkpoints bytes) i ∙ ap (option_map (λ c. c.1)) (checkpoint_found (store_count bytes) (store_table bytes) i lt) in
    let cut = ap (λ bs. stored_size (take (suc i) bs)) (blocks_cut bytes) in
    omega (arith, byte_end_from 0 es (store_body bytes) i (u64_at (store_table bytes) (12 * i + 4)) f.ends f.blocks found, cut)

-- ---- how many bytes there are

pub size_from : (start : ℕ) (ends bytes : List ℕ) → are_ends start (length bytes) ends ≡ true → list_all is_block (cut_from start ends bytes) ≡ true → length bytes ≡ start + stored_size (map documents_in (cut_from start ends bytes))
size_from start [] bytes h all = omega (arith, eqb-true start (length bytes) h)
size_from start (x ∷ xs) bytes h all =
    let n = ends-next start (length bytes) x xs h in
    let p = and_parts (is_block (slice_range bytes start x)) (list_all is_block (cut_from x xs bytes)) all in
    let part = length-range bytes start x n.from n.within in
    omega (arith, n.from, part, block_size_is (slice_range bytes start x) p.0, size_from x xs bytes n.others p.1)

pub file_size : (bytes : List ℕ) → is_store bytes ≡ true → length bytes ≡ stored_size (blocks_of bytes) + 12 * length (blocks_of bytes) + 9
file_size bytes h =
    let f = store_facts bytes h in
    let body = size_from 0 (map (λ c. c.1) (store_checkpoints bytes)) (store_body bytes) f.ends f.blocks in
    let front = length-take (length bytes - 9) bytes in
    let size = length-take (length (but_last 9 bytes) - 12 * store_count bytes) (but_last 9 bytes) in
    omega (arith, f.room, body, front, size, block_number bytes, ap stored_size (blocks_cut bytes))

-- Blocks and stores by their parts.
use Rattle.std.proofs.Common.{◌≡◌, ℕ, ◌+◌, ◌*◌, ◌<◌, ◌≤◌, Bool, false, List, length, map, refl, sym, ap, ◌∙◌, arith, ◌&&◌, slice_index}
use Rattle.std.specs.Prelude.{◌==◌, nat_lt, nat_le}
use Rattle.std.proofs.lemmas.Bool.{and_left, and_right, lt-ltb, le-leb, lt-leb}
use Rattle.std.proofs.lemmas.Bool.Decides.{nat_tests}
use Rattle.seg_common.specs.LittleEndian.{u32_at}
use Rattle.seg_common.proofs.Numbers.{zero_plus}
use Rattle.seg_store.specs.Ends.{last_bytes, but_last, numbers_of, cut_from}
use Rattle.seg_doc_bytes.specs.StoredDocument.{is_stored_document}
use Rattle.seg_store.specs.Block.{block_count, block_body, documents_in, is_block}
use Rattle.seg_store.specs.CheckedFields.{is_block_of, is_document_of, is_store_of, read_documents}
use Rattle.seg_store.specs.Store.{blocks_of, documents_of, footer, store_count, checkpoints_of, store_checkpoints, store_body, is_store, document_count}
use Rattle.seg_store.specs.StoredFields.{have_fields}
use Rattle.seg_store.specs.CutParts.{are_parts, are_blocks}
use Rattle.seg_store.proofs.CutEnds.{length-cut}
use Rattle.seg_store.proofs.EndTables.{length-numbers_of}
use Rattle.seg_store.proofs.FittingFields.{blocks_fit, parts_fit}

-- ---- blocks

abbrev block_test : (count size : ℕ) → List ℕ → List ℕ → Bool
block_test count size table body = nat_lt 0 count && (nat_le (4 + 8 * count) size && are_parts is_stored_document 0 (numbers_of count table) body)

block_by : (bytes : List ℕ) → is_block bytes ≡ block_test (block_count bytes) (length bytes) (last_bytes (8 * block_count bytes) (but_last 4 bytes)) (block_body bytes)
unfolding is_block
block_by bytes = refl

documents_by : (bytes : List ℕ) → documents_in bytes ≡ cut_from 0 (numbers_of (block_count bytes) (last_bytes (8 * block_count bytes) (but_last 4 bytes))) (block_body bytes)
unfolding documents_in
documents_by bytes = refl

pub no_footer : (bytes : List ℕ) → length bytes < 4 → is_block bytes ≡ false
no_footer bytes lt = block_by bytes ∙ and_right (nat_lt 0 (block_count bytes)) _ (and_left (nat_le (4 + 8 * block_count bytes) (length bytes)) _ (lt-leb (4 + 8 * block_count bytes) (length bytes) (omega (arith, lt))))

pub no_documents : (bytes : List ℕ) → block_count bytes ≡ 0 → is_block bytes ≡ false
no_documents bytes none = block_by bytes ∙ and_left (nat_lt 0 (block_count bytes)) _ (ap (nat_lt 0) none)

pub no_ends : (bytes : List ℕ) → length bytes < 4 + 8 * block_count bytes → is_block bytes ≡ false
no_ends bytes lt = block_by bytes ∙ and_right (nat_lt 0 (block_count bytes)) _ (and_left (nat_le (4 + 8 * block_count bytes) (length bytes)) _ (lt-leb (4 + 8 * block_count bytes) (length bytes) lt))

-- a block that was split: its documents, and the table of their ends
pub record IsSplit (bytes : List ℕ) (count : ℕ) (body table : List ℕ) : Type 0 where
  pub count_is : count ≡ block_count bytes
  pub body_is : body ≡ but_last (8 * count) (but_last 4 bytes)
  pub table_is : table ≡ last_bytes (8 * count) (but_last 4 bytes)

pub block_cut : (bytes rest : List ℕ) (count : ℕ) (body table : List ℕ) → count ≡ block_count bytes → rest ≡ but_last 4 bytes → body ≡ but_last (8 * count) rest → table ≡ last_bytes (8 * count) rest → IsSplit bytes count body table
block_cut bytes rest count body table count_is rest_is body_is table_is = record {
  count_is = count_is;
  body_is = body_is ∙ ap (but_last (8 * count)) rest_is;
  table_is = table_is ∙ ap (last_bytes (8 * count)) rest_is;
}

split_test : (bytes : List ℕ) (count : ℕ) (body table : List ℕ) → IsSplit bytes count body table → is_block bytes ≡ block_test count (length bytes) table body
split_test bytes count body table s =
    let n = s.count_is in
    let t : table ≡ last_bytes (8 * block_count bytes) (but_last 4 bytes) = s.table_is ∙ ap (λ (k : ℕ). last_bytes (8 * k) (but_last 4 bytes)) n in
    let b : body ≡ block_body bytes = s.body_is ∙ ap (λ (k : ℕ). but_last (8 * k) (but_last 4 bytes)) n in
    block_by bytes ∙ (λ i. block_test (sym n i) (length bytes) (sym t i) (sym b i))

pub split_documents : (bytes : List ℕ) (count : ℕ) (body table : List ℕ) → IsSplit bytes count body table → documents_in bytes ≡ cut_from 0 (numbers_of count table) body
split_documents bytes count body table s =
    let n = s.count_is in
    let t : table ≡ last_bytes (8 * block_count bytes) (but_last 4 bytes) = s.table_is ∙ ap (λ (k : ℕ). last_bytes (8 * k) (but_last 4 bytes)) n in
    let b : body ≡ block_body bytes = s.body_is ∙ ap (λ (k : ℕ). but_last (8 * k) (but_last 4 bytes)) n in
    documents_by bytes ∙ (λ i. cut_from 0 (numbers_of (sym n i) (sym t i)) (sym b i))

-- it is one of some fields where its documents are, each in its part
pub block_parts : (test : ℕ → Bool) (bytes : List ℕ) (count : ℕ) (body table : List ℕ) → IsSplit bytes count body table → 0 < count → 4 + 8 * count ≤ length bytes → is_block_of test bytes ≡ are_parts (is_document_of test) 0 (numbers_of count table) body
block_parts test bytes count body table s some room =
    let block : is_block bytes ≡ are_parts is_stored_document 0 (numbers_of count table) body = split_test bytes count body table s ∙ rw (lt-ltb 0 count some, le-leb (4 + 8 * count) (length bytes) room) refl in
    (λ i. block i && have_fields test (read_documents (split_documents bytes count body table s i)))
    ∙ sym (parts_fit test 0 (numbers_of count table) body)

pub split_count : (bytes : List ℕ) (count : ℕ) (body table : List ℕ) → IsSplit bytes count body table → count ≡ length (documents_in bytes)
split_count bytes count body table s =
    sym (ap length (split_documents bytes count body table s) ∙ length-cut 0 (numbers_of count table) body ∙ length-numbers_of count table)

-- ---- stores

abbrev store_test : (count size last total : ℕ) → List ℕ → List ℕ → Bool
store_test count size last total table body = nat_le (9 + 12 * count) size && ((last == 0) && are_blocks is_block 0 total 0 (checkpoints_of count table) body)

store_by : (bytes : List ℕ) → is_store bytes ≡ store_test (store_count bytes) (length bytes) (slice_index (footer bytes) 8) (u32_at (footer bytes) 4) (last_bytes (12 * store_count bytes) (but_last 9 bytes)) (store_body bytes)
unfolding is_store
store_by bytes = rw (zero_plus (document_count (map documents_in (cut_from 0 (map (λ c. c.1) (store_checkpoints bytes)) (store_body bytes))))) refl

pub no_store_footer : (bytes : List ℕ) → length bytes < 9 → is_store bytes ≡ false
no_store_footer bytes lt = store_by bytes ∙ and_left (nat_le (9 + 12 * store_count bytes) (length bytes)) _ (lt-leb (9 + 12 * store_count bytes) (length bytes) (omega (arith, lt)))

pub no_checkpoints : (bytes : List ℕ) → length bytes < 9 + 12 * store_count bytes → is_store bytes ≡ false
no_checkpoints bytes lt = store_by bytes ∙ and_left (nat_le (9 + 12 * store_count bytes) (length bytes)) _ (lt-leb (9 + 12 * store_count bytes) (length bytes) lt)

not_zero : (n : ℕ) → (n ≡ 0 → ⊥) → (n == 0) ≡ false
not_zero n other = grind (arith, nat_tests)

pub compressed : (bytes : List ℕ) → (slice_index (footer bytes) 8 ≡ 0 → ⊥) → is_store bytes ≡ false
compressed bytes other = store_by bytes ∙ and_right (nat_le (9 + 12 * store_count bytes) (length bytes)) _ (and_left (slice_index (footer bytes) 8 == 0) _ (not_zero (slice_index (footer bytes) 8) other))

-- a store that was split: its blocks, and the table of checkpoints
pub record IsStoreSplit (bytes : List ℕ) (count : ℕ) (body table : List ℕ) : Type 0 where
  pub count_is : count ≡ store_count bytes
  pub body_is : body ≡ but_last (12 * count) (but_last 9 bytes)
  pub table_is : table ≡ last_bytes (12 * count) (but_last 9 bytes)

pub store_cut : (bytes rest : List ℕ) (count : ℕ) (body table : List ℕ) → count ≡ store_count bytes → rest ≡ but_last 9 bytes → body ≡ but_last (12 * count) rest → table ≡ last_bytes (12 * count) rest → IsStoreSplit bytes count body table
store_cut bytes rest count body table count_is rest_is body_is table_is = record {
  count_is = count_is;
  body_is = body_is ∙ ap (but_last (12 * count)) rest_is;
  table_is = table_is ∙ ap (last_bytes (12 * count)) rest_is;
}

store_split_test : (bytes : List ℕ) (count total : ℕ) (body table : List ℕ) → IsStoreSplit bytes count body table → total ≡ u32_at (footer bytes) 4 → 9 + 12 * count ≤ length bytes → slice_index (footer bytes) 8 ≡ 0 → is_store bytes ≡ are_blocks is_block 0 total 0 (checkpoints_of count table) body
store_split_test bytes count total body table s total_is room last =
    let n = s.count_is in
    let t : table ≡ last_bytes (12 * store_count bytes) (but_last 9 bytes) = s.table_is ∙ ap (λ (k : ℕ). last_bytes (12 * k) (but_last 9 bytes)) n in
    let b : body ≡ store_body bytes = s.body_is ∙ ap (λ (k : ℕ). but_last (12 * k) (but_last 9 bytes)) n in
    store_by bytes ∙ (λ i. store_test (sym n i) (length bytes) (last i) (sym total_is i) (sym t i) (sym b i))
    ∙ rw (le-leb (9 + 12 * count) (length bytes) room) refl

store_blocks : (bytes : List ℕ) (count : ℕ) (body table : List ℕ) → IsStoreSplit bytes count body table → blocks_of bytes ≡ map documents_in (cut_from 0 (map (λ c. c.1) (checkpoints_of count table)) body)
unfolding blocks_of
store_blocks bytes count body table s =
    let n = s.count_is in
    let t : table ≡ last_bytes (12 * store_count bytes) (but_last 9 bytes) = s.table_is ∙ ap (λ (k : ℕ). last_bytes (12 * k) (but_last 9 bytes)) n in
    let b : body ≡ store_body bytes = s.body_is ∙ ap (λ (k : ℕ). but_last (12 * k) (but_last 9 bytes)) n in
    λ i. map documents_in (cut_from 0 (map (λ c. c.1) (checkpoints_of (sym n i) (sym t i))) (sym b i))

-- it is one of some fields where its blocks are
pub store_parts_test : (test : ℕ → Bool) (bytes : List ℕ) (count total : ℕ) (body table : List ℕ) → IsStoreSplit bytes count body table → total ≡ u32_at (footer bytes) 4 → 9 + 12 * count ≤ length bytes → slice_index (footer bytes) 8 ≡ 0 → is_store_of test bytes ≡ are_blocks (is_block_of test) 0 total 0 (checkpoints_of count table) body
store_parts_test test bytes count total body table s total_is room last =
    (λ i. store_split_test bytes count total body table s total_is room last i && have_fields test (documents_of (store_blocks bytes count body table s i)))
    ∙ sym (blocks_fit test 0 total 0 (checkpoints_of count table) body)

-- A block is read as its documents.
use Rattle.std.proofs.Common.{◌≡◌, ℕ, ◌+◌, ◌*◌, ◌<◌, ◌≤◌, ◌^◌, Bool, true, List, ◌++◌, length, refl, ap, ◌∙◌, arith, ◌&&◌}
use Rattle.std.specs.Prelude.{nat_lt, nat_le}
use Rattle.std.specs.List.{flat_map, list_all}
use Rattle.std.specs.Int.{w32, w64, to_le_bytes}
use Rattle.std.proofs.lemmas.List.{length-append}
use Rattle.std.proofs.lemmas.Bool.{le-leb, lt-ltb}
use Rattle.seg_common.specs.LittleEndian.{u32_at}
use Rattle.seg_common.proofs.Bytes.{length-numbers}
use Rattle.seg_store.specs.Ends.{numbers_of, are_ends, cut_from, last_bytes, but_last}
use Rattle.seg_doc_bytes.specs.StoredDocument.{is_stored_document}
use Rattle.seg_store.specs.Block.{Block, block_count, block_ends, block_body, documents_in, is_block}
use Rattle.seg_store.proofs.CutEnds.{last-appended, but_last-appended, u32_at-alone, numbers_read, ends-below}

-- bytes are a block with these documents
pub record IsBlockOf (bytes : List ℕ) (documents : Block) : Type 0 where
  pub good : is_block bytes ≡ true
  pub documents_are : documents_in bytes ≡ documents

-- a block by its parts
abbrev block_test : ℕ → ℕ → List ℕ → List ℕ → Bool
block_test n size body ends = nat_lt 0 n && (nat_le (4 + 8 * n) size && (are_ends 0 (length body) ends && list_all is_stored_document (cut_from 0 ends body)))

block_by : (bytes : List ℕ) → is_block bytes ≡ block_test (block_count bytes) (length bytes) (block_body bytes) (block_ends bytes)
unfolding is_block
block_by bytes = refl

-- the documents of a block are cut at its ends
pub documents_by : (bytes : List ℕ) → documents_in bytes ≡ cut_from 0 (block_ends bytes) (block_body bytes)
unfolding documents_in
documents_by bytes = refl

-- a block's bytes
abbrev pub block_form : List ℕ → List ℕ → List ℕ
block_form body ends = (body ++ flat_map (to_le_bytes w64) ends) ++ to_le_bytes w32 (length ends)

pub block_read : (body ends : List ℕ) → are_ends 0 (length body) ends ≡ true → 0 < length ends → length ends < 2 ^ 32 → length body < 2 ^ 64 → list_all is_stored_document (cut_from 0 ends body) ≡ true → IsBlockOf (block_form body ends) (cut_from 0 ends body)
block_read body ends good some few small stored =
    let n = length ends in
    let table = flat_map (to_le_bytes w64) ends in
    let last = to_le_bytes w32 n in
    let all : List ℕ = block_form body ends in
    let four : length last ≡ 4 = refl in
    let room : length table ≡ 8 * n = length-numbers ends in
    let count : block_count all ≡ n = ap (λ (l : List ℕ). u32_at l 0) (last-appended (body ++ table) last 4 refl) ∙ u32_at-alone n few in
    let front : but_last 4 all ≡ body ++ table = but_last-appended (body ++ table) last 4 refl in
    let table_is : last_bytes (8 * n) (body ++ table) ≡ table = last-appended body table (8 * n) (omega (arith, room)) in
    let body_was : but_last (8 * n) (body ++ table) ≡ body = but_last-appended body table (8 * n) (omega (arith, room)) in
    let numbers : numbers_of n table ≡ ends = numbers_read ends (ends-below (2 ^ 64) 0 (length body) ends good small) in
    let ends_by : block_ends all ≡ numbers_of n (last_bytes (8 * n) (body ++ table)) = λ i. numbers_of (count i) (last_bytes (8 * count i) (front i)) in
    let ends_are : block_ends all ≡ ends = ends_by ∙ ap (numbers_of n) table_is ∙ numbers in
    let body_by : block_body all ≡ but_last (8 * n) (body ++ table) = λ i. but_last (8 * count i) (front i) in
    let body_is : block_body all ≡ body = body_by ∙ body_was in
    let size : 4 + 8 * n ≤ length all = omega (arith, length-append (body ++ table) last, length-append body table, room, four) in
    let by : block_test (block_count all) (length all) (block_body all) (block_ends all) ≡ block_test n (length all) body ends = λ i. block_test (count i) (length all) (body_is i) (ends_are i) in
    let parts : cut_from 0 (block_ends all) (block_body all) ≡ cut_from 0 ends body = λ i. cut_from 0 (ends_are i) (body_is i) in
    record {
      good = block_by all ∙ by ∙ rw (lt-ltb 0 n some, le-leb (4 + 8 * n) (length all) size, good, stored) refl;
      documents_are = documents_by all ∙ parts;
    }

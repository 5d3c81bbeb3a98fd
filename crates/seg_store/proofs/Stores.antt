-- A store is read as its blocks.
use Rattle.std.proofs.Common.{◌≡◌, ℕ, ◌+◌, ◌*◌, ◌<◌, ◌≤◌, ◌^◌, Bool, true, List, [], ◌∷◌, ◌++◌, length, drop, map, refl, sym, ap, ◌∙◌, arith, ◌&&◌, Some, append_assoc, slice_index, get_or, drop-cons, add-one}
use Rattle.std.specs.Prelude.{nat_le, ◌==◌}
use Rattle.std.specs.List.{flat_map, list_all, AllByRecursion}
use Rattle.std.specs.Int.{w32, w64, to_le_bytes}
use Rattle.std.specs.Str.{bytes_eq}
use Rattle.std.proofs.lemmas.List.{length-append, drop_at}
use Rattle.std.proofs.lemmas.Bool.{le-leb, eq-eqb}
use Rattle.seg_common.specs.LittleEndian.{u32_at, u64_at}
use Rattle.seg_common.proofs.Bytes.{u32_at-written, u64_at-written, bytes_are}
use Rattle.seg_store.specs.declared.checkpoint.Checkpoint.{Checkpoint}
use Rattle.seg_store.specs.Ends.{are_ends, cut_from, last_bytes, but_last}
use Rattle.seg_store.specs.Block.{documents_in, is_block}
use Rattle.seg_store.specs.Store.{footer, store_count, checkpoints_of, store_checkpoints, store_body, id_ends, document_count, blocks_of, is_store, store_of}
use Rattle.seg_store.specs.WriterBuffers.{checkpoint_form}
use Rattle.seg_store.proofs.CutEnds.{last-appended, but_last-appended}

abbrev byte_ends : List (ℕ × ℕ) → List ℕ
byte_ends cs = map (λ c. c.1) cs

abbrev counts : List (ℕ × ℕ) → List ℕ
counts cs = map (λ c. c.0) cs

-- a store by its parts
abbrev store_test : ℕ → ℕ → ℕ → ℕ → List ℕ → List (ℕ × ℕ) → Bool
store_test n size last documents body cs =
    nat_le (9 + 12 * n) size && ((last == 0) &&
    (are_ends 0 (length body) (byte_ends cs) && (list_all is_block (cut_from 0 (byte_ends cs) body) &&
    (bytes_eq (counts cs) (id_ends 0 (map documents_in (cut_from 0 (byte_ends cs) body))) &&
    (documents == document_count (map documents_in (cut_from 0 (byte_ends cs) body)))))))

store_by : (bytes : List ℕ) → is_store bytes ≡ store_test (store_count bytes) (length bytes) (slice_index (footer bytes) 8) (u32_at (footer bytes) 4) (store_body bytes) (store_checkpoints bytes)
unfolding is_store
store_by bytes = refl

blocks_by : (bytes : List ℕ) → blocks_of bytes ≡ map documents_in (cut_from 0 (byte_ends (store_checkpoints bytes)) (store_body bytes))
unfolding blocks_of
blocks_by bytes = refl

abbrev pair_of : Checkpoint → ℕ × ℕ
pair_of c = (c.doc_end, c.byte_end)

pub length-checkpoints : (cs : List Checkpoint) → length (flat_map checkpoint_form cs) ≡ 12 * length cs
length-checkpoints [] = refl
length-checkpoints (c ∷ cs) =
    let twelve : length (checkpoint_form c) ≡ 12 = refl in
    omega (arith, length-append (checkpoint_form c) (flat_map checkpoint_form cs), twelve, length-checkpoints cs)

-- one more checkpoint is written
pub one_checkpoint : (out after : List ℕ) (cs : List Checkpoint) (i : ℕ) (d : Checkpoint) → i < length cs → after ≡ out ++ checkpoint_form (get_or cs i d) → after ++ flat_map checkpoint_form (drop (i + 1) cs) ≡ out ++ flat_map checkpoint_form (drop i cs)
one_checkpoint out after cs i d lt more =
    let here : drop i cs ≡ get_or cs i d ∷ drop (i + 1) cs = drop-cons cs i d lt ∙ ap (λ (j : ℕ). get_or cs i d ∷ drop j cs) (sym (add-one i)) in
    ap (λ xs. xs ++ flat_map checkpoint_form (drop (i + 1) cs)) more
    ∙ append_assoc out (checkpoint_form (get_or cs i d)) (flat_map checkpoint_form (drop (i + 1) cs))
    ∙ ap (λ xs. out ++ flat_map checkpoint_form xs) (sym here)

checkpoints_read : (cs : List Checkpoint) → AllByRecursion (λ n. n < 2 ^ 32) (map (λ c. c.doc_end) cs) → AllByRecursion (λ n. n < 2 ^ 64) (map (λ c. c.byte_end) cs) → checkpoints_of (length cs) (flat_map checkpoint_form cs) ≡ map pair_of cs
checkpoints_read [] ids ends = refl
checkpoints_read (c ∷ cs) ids ends =
    let tail = flat_map checkpoint_form cs in
    let all : List ℕ = checkpoint_form c ++ tail in
    let first : u32_at all 0 ≡ c.doc_end = ap (λ (l : List ℕ). u32_at l 0) (append_assoc (to_le_bytes w32 c.doc_end) (to_le_bytes w64 c.byte_end) tail) ∙ u32_at-written [] (to_le_bytes w64 c.byte_end ++ tail) c.doc_end 0 ids.0 refl in
    let second : u64_at all 4 ≡ c.byte_end = ap (λ (l : List ℕ). u64_at l 4) (append_assoc (to_le_bytes w32 c.doc_end) (to_le_bytes w64 c.byte_end) tail) ∙ u64_at-written (to_le_bytes w32 c.doc_end) tail c.byte_end 4 ends.0 refl in
    let others : drop 12 all ≡ tail = drop_at (checkpoint_form c) tail 12 refl in
    let again : checkpoints_of (length cs) (drop 12 all) ≡ map pair_of cs = ap (checkpoints_of (length cs)) others ∙ checkpoints_read cs ids.1 ends.1 in
    λ i. (first i, second i) ∷ again i

firsts : (cs : List Checkpoint) → counts (map pair_of cs) ≡ map (λ c. c.doc_end) cs
firsts [] = refl
firsts (c ∷ cs) = ap (λ ns. c.doc_end ∷ ns) (firsts cs)

seconds : (cs : List Checkpoint) → byte_ends (map pair_of cs) ≡ map (λ c. c.byte_end) cs
seconds [] = refl
seconds (c ∷ cs) = ap (λ ns. c.byte_end ∷ ns) (seconds cs)

-- a store's bytes
abbrev pub store_form : List ℕ → List Checkpoint → ℕ → List ℕ
store_form body cs documents = (((body ++ flat_map checkpoint_form cs) ++ to_le_bytes w32 (length cs)) ++ to_le_bytes w32 documents) ++ 0 ∷ []

grouped : (a b c d : List ℕ) → ((a ++ b) ++ c) ++ d ≡ a ++ (b ++ (c ++ d))
grouped a b c d = simp append_assoc

-- the parts of a store
pub record AreParts (body : List ℕ) (cs : List Checkpoint) (documents : ℕ) (parts : List (List ℕ)) : Type 0 where
  pub cut : cut_from 0 (map (λ c. c.byte_end) cs) body ≡ parts
  pub ends : are_ends 0 (length body) (map (λ c. c.byte_end) cs) ≡ true
  pub blocks : list_all is_block parts ≡ true
  pub ids : map (λ c. c.doc_end) cs ≡ id_ends 0 (map documents_in parts)
  pub count : documents ≡ document_count (map documents_in parts)
  pub ids_fit : AllByRecursion (λ n. n < 2 ^ 32) (map (λ c. c.doc_end) cs)
  pub ends_fit : AllByRecursion (λ n. n < 2 ^ 64) (map (λ c. c.byte_end) cs)
  pub few : length cs < 2 ^ 32
  pub small : documents < 2 ^ 32

pub store_read : (body : List ℕ) (cs : List Checkpoint) (documents : ℕ) (parts : List (List ℕ)) → AreParts body cs documents parts → store_of (store_form body cs documents) ≡ Some (map documents_in parts)
store_read body cs documents parts are =
    let n = length cs in
    let table = flat_map checkpoint_form cs in
    let foot : List ℕ = to_le_bytes w32 n ++ (to_le_bytes w32 documents ++ 0 ∷ []) in
    let all : List ℕ = store_form body cs documents in
    let split : all ≡ (body ++ table) ++ foot = grouped (body ++ table) (to_le_bytes w32 n) (to_le_bytes w32 documents) (0 ∷ []) in
    let nine : length foot ≡ 9 = refl in
    let room : length table ≡ 12 * n = length-checkpoints cs in
    let foot_is : footer all ≡ foot = ap (last_bytes 9) split ∙ last-appended (body ++ table) foot 9 (sym nine) in
    let front : but_last 9 all ≡ body ++ table = ap (but_last 9) split ∙ but_last-appended (body ++ table) foot 9 (sym nine) in
    let count : store_count all ≡ n = ap (λ (l : List ℕ). u32_at l 0) foot_is ∙ u32_at-written [] (to_le_bytes w32 documents ++ 0 ∷ []) n 0 are.few refl in
    let total : u32_at (footer all) 4 ≡ documents = ap (λ (l : List ℕ). u32_at l 4) foot_is ∙ u32_at-written (to_le_bytes w32 n) (0 ∷ []) documents 4 are.small refl in
    let last : slice_index (footer all) 8 ≡ 0 = ap (λ (l : List ℕ). slice_index l 8) foot_is in
    let table_is : last_bytes (12 * n) (body ++ table) ≡ table = last-appended body table (12 * n) (sym room) in
    let body_was : but_last (12 * n) (body ++ table) ≡ body = but_last-appended body table (12 * n) (sym room) in
    let body_by : store_body all ≡ but_last (12 * n) (body ++ table) = λ i. but_last (12 * count i) (front i) in
    let body_is : store_body all ≡ body = body_by ∙ body_was in
    let cs_by : store_checkpoints all ≡ checkpoints_of n (last_bytes (12 * n) (body ++ table)) = λ i. checkpoints_of (count i) (last_bytes (12 * count i) (front i)) in
    let cs_are : store_checkpoints all ≡ map pair_of cs = cs_by ∙ ap (checkpoints_of n) table_is ∙ checkpoints_read cs are.ids_fit are.ends_fit in
    let size : 9 + 12 * n ≤ length all = omega (arith, ap length split, length-append (body ++ table) foot, length-append body table, room, nine) in
    let cut : cut_from 0 (byte_ends (map pair_of cs)) body ≡ parts = ap (λ (es : List ℕ). cut_from 0 es body) (seconds cs) ∙ are.cut in
    let ends : are_ends 0 (length body) (byte_ends (map pair_of cs)) ≡ true = ap (are_ends 0 (length body)) (seconds cs) ∙ are.ends in
    let blocks : list_all is_block (cut_from 0 (byte_ends (map pair_of cs)) body) ≡ true = ap (list_all is_block) cut ∙ are.blocks in
    let read : map documents_in (cut_from 0 (byte_ends (map pair_of cs)) body) ≡ map documents_in parts = ap (map documents_in) cut in
    let ids : bytes_eq (counts (map pair_of cs)) (id_ends 0 (map documents_in (cut_from 0 (byte_ends (map pair_of cs)) body))) ≡ true = bytes_are _ _ (firsts cs ∙ are.ids ∙ ap (id_ends 0) (sym read)) in
    let number : (documents == document_count (map documents_in (cut_from 0 (byte_ends (map pair_of cs)) body))) ≡ true = eq-eqb _ _ (are.count ∙ ap document_count (sym read)) in
    let by : store_test (store_count all) (length all) (slice_index (footer all) 8) (u32_at (footer all) 4) (store_body all) (store_checkpoints all) ≡ store_test n (length all) 0 documents body (map pair_of cs) = λ i. store_test (count i) (length all) (last i) (total i) (body_is i) (cs_are i) in
    let good : is_store all ≡ true = store_by all ∙ by ∙ all-true (le-leb (9 + 12 * n) (length all) size) ends blocks ids number in
    let found : blocks_of all ≡ map documents_in (cut_from 0 (byte_ends (map pair_of cs)) body) = blocks_by all ∙ (λ i. map documents_in (cut_from 0 (byte_ends (cs_are i)) (body_is i))) in
    rw (good, found, read) refl
  where
    all-true : {a b c d e : Bool} → a ≡ true → b ≡ true → c ≡ true → d ≡ true → e ≡ true → (a && (true && (b && (c && (d && e))))) ≡ true
    all-true p q r s t = rw (p, q, r, s, t) refl

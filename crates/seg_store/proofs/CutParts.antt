-- Parts that pass a test, one after another.
use Rattle.std.proofs.Common.{◌≡◌, ℕ, ◌+◌, ◌*◌, ◌<◌, ◌≤◌, Bool, true, false, List, [], ◌∷◌, length, drop, map, Some, refl, sym, ap, subst, ◌∙◌, arith, ◌&&◌, slice_range}
use Rattle.std.specs.Prelude.{◌==◌}
use Rattle.std.specs.List.{slice_get}
use Rattle.std.proofs.lemmas.List.{drop_all}
use Rattle.std.proofs.lemmas.Bool.{eqb-true, eq-eqb, le-leb, false_from_ne_true, and_parts}
use Rattle.std.proofs.Math.Bool.{and-true}
use Rattle.seg_common.specs.LittleEndian.{u64_at}
use Rattle.seg_common.proofs.Lists.{drop-slice_get}
use Rattle.seg_store.specs.Ends.{numbers_of, cut_from}
use Rattle.seg_store.specs.Block.{documents_in}
use Rattle.seg_store.specs.Store.{checkpoints_of, document_count}
use Rattle.seg_store.specs.CutParts.{are_parts, are_blocks}
use Rattle.seg_store.proofs.CutEnds.{ends-next}
use Rattle.seg_store.proofs.EndTables.{number_at, length-numbers_of, length-checkpoints_of}

-- ---- parts

-- the first part, and the others
pub record IsPart (test : List ℕ → Bool) (start end : ℕ) (ends bytes : List ℕ) : Type 0 where
  pub from : start ≤ end
  pub within : end ≤ length bytes
  pub passes : test (slice_range bytes start end) ≡ true
  pub others : are_parts test end ends bytes ≡ true

pub first_part : (test : List ℕ → Bool) (start end : ℕ) (ends bytes : List ℕ) → are_parts test start (end ∷ ends) bytes ≡ true → IsPart test start end ends bytes
first_part test start end ends bytes h =
    let p = and_parts _ _ h in
    let n = ends-next start (length bytes) end ends p.0 in
    let q = and_parts _ _ p.1 in
    record { from = n.from; within = n.within; passes = q.0; others = rw (n.others, q.1) refl }

part_passed : (test : List ℕ → Bool) (start end : ℕ) (ends bytes : List ℕ) → start ≤ end → test (slice_range bytes start end) ≡ true → are_parts test start (end ∷ ends) bytes ≡ are_parts test end ends bytes
part_passed test start end ends bytes le ok = rw (le-leb start end le, ok) refl

-- some parts passed, and the others decide
abbrev pub PartsPassed : (List ℕ → Bool) → (count : ℕ) (table bytes : List ℕ) (start index : ℕ) → Type 0
PartsPassed test count table bytes start index = are_parts test 0 (numbers_of count table) bytes ≡ are_parts test start (drop index (numbers_of count table)) bytes

next : (count : ℕ) (table : List ℕ) (i : ℕ) → i < count → drop i (numbers_of count table) ≡ u64_at table (8 * i) ∷ drop (i + 1) (numbers_of count table)
next count table i lt = drop-slice_get (numbers_of count table) i (u64_at table (8 * i)) (number_at count table i lt)

pub part_turn : (test : List ℕ → Bool) (count : ℕ) (table bytes : List ℕ) (start index end : ℕ) → index < count → end ≡ u64_at table (8 * index) → PartsPassed test count table bytes start index → start ≤ end → test (slice_range bytes start end) ≡ true → PartsPassed test count table bytes end (index + 1)
part_turn test count table bytes start index end lt is so_far le ok =
    so_far
    ∙ ap (λ es. are_parts test start es bytes) (next count table index lt ∙ ap (λ (e : ℕ). e ∷ drop (index + 1) (numbers_of count table)) (sym is))
    ∙ part_passed test start end (drop (index + 1) (numbers_of count table)) bytes le ok

-- a part that isn't there, or doesn't pass
pub part_stops : (test : List ℕ → Bool) (count : ℕ) (table bytes : List ℕ) (start index end : ℕ) → index < count → end ≡ u64_at table (8 * index) → PartsPassed test count table bytes start index → (start ≤ end → end ≤ length bytes → test (slice_range bytes start end) ≡ true → ⊥) → are_parts test 0 (numbers_of count table) bytes ≡ false
part_stops test count table bytes start index end lt is so_far refused =
    let here = ap (λ es. are_parts test start es bytes) (next count table index lt ∙ ap (λ (e : ℕ). e ∷ drop (index + 1) (numbers_of count table)) (sym is)) in
    so_far ∙ here ∙ false_from_ne_true (are_parts test start (end ∷ drop (index + 1) (numbers_of count table)) bytes)
    (λ h. let p = first_part test start end (drop (index + 1) (numbers_of count table)) bytes h in refused p.from p.within p.passes)

pub parts_end : (test : List ℕ → Bool) (count : ℕ) (table bytes : List ℕ) (start index : ℕ) → count ≤ index → PartsPassed test count table bytes start index → are_parts test 0 (numbers_of count table) bytes ≡ (start == length bytes)
parts_end test count table bytes start index past so_far =
    so_far
    ∙ ap (λ es. are_parts test start es bytes) (drop_all index (numbers_of count table) (omega (arith, past, length-numbers_of count table)))
    ∙ and-true (start == length bytes)

-- ---- blocks

-- the first block, and the others
pub record IsBlockFirst (test : List ℕ → Bool) (first total start doc_end byte_end : ℕ) (others : List (ℕ × ℕ)) (bytes : List ℕ) : Type 0 where
  pub from : start ≤ byte_end
  pub within : byte_end ≤ length bytes
  pub block : test (slice_range bytes start byte_end) ≡ true
  pub documents : doc_end ≡ first + length (documents_in (slice_range bytes start byte_end))

pub first_block : (test : List ℕ → Bool) (first total start doc_end byte_end : ℕ) (others : List (ℕ × ℕ)) (bytes : List ℕ) → are_blocks test first total start ((doc_end, byte_end) ∷ others) bytes ≡ true → IsBlockFirst test first total start doc_end byte_end others bytes
first_block test first total start doc_end byte_end others bytes h =
    let p = and_parts _ _ h in
    let n = ends-next start (length bytes) byte_end (map (λ c. c.1) others) p.0 in
    let q = and_parts _ _ p.1 in
    let r = and_parts _ _ q.1 in
    record { from = n.from; within = n.within; block = (and_parts _ _ q.0).0; documents = eqb-true _ _ (and_parts _ _ r.0).0 }

block_numbered : (test : List ℕ → Bool) (first total start byte_end : ℕ) (others : List (ℕ × ℕ)) (bytes : List ℕ) → start ≤ byte_end → test (slice_range bytes start byte_end) ≡ true → are_blocks test first total start ((first + length (documents_in (slice_range bytes start byte_end)), byte_end) ∷ others) bytes ≡ are_blocks test (first + length (documents_in (slice_range bytes start byte_end))) total byte_end others bytes
block_numbered test first total start byte_end others bytes le ok =
    let count = length (documents_in (slice_range bytes start byte_end)) in
    let more = document_count (map documents_in (cut_from byte_end (map (λ c. c.1) others) bytes)) in
    let sum : first + (count + more) ≡ (first + count) + more = omega arith in
    rw (le-leb start byte_end le, ok, eq-eqb (first + count) (first + count) refl, sum) refl

block_passed : (test : List ℕ → Bool) (first total start doc_end byte_end : ℕ) (others : List (ℕ × ℕ)) (bytes : List ℕ) → start ≤ byte_end → test (slice_range bytes start byte_end) ≡ true → doc_end ≡ first + length (documents_in (slice_range bytes start byte_end)) → are_blocks test first total start ((doc_end, byte_end) ∷ others) bytes ≡ are_blocks test doc_end total byte_end others bytes
block_passed test first total start doc_end byte_end others bytes le ok is =
    subst (λ d. are_blocks test first total start ((d, byte_end) ∷ others) bytes ≡ are_blocks test d total byte_end others bytes) (sym is) (block_numbered test first total start byte_end others bytes le ok)

-- some blocks passed, and the others decide
abbrev pub BlocksPassed : (List ℕ → Bool) → (total count : ℕ) (table bytes : List ℕ) (first start index : ℕ) → Type 0
BlocksPassed test total count table bytes first start index = are_blocks test 0 total 0 (checkpoints_of count table) bytes ≡ are_blocks test first total start (drop index (checkpoints_of count table)) bytes

pub block_turn : (test : List ℕ → Bool) (total count : ℕ) (table bytes : List ℕ) (first start index doc_end byte_end : ℕ) → slice_get (checkpoints_of count table) index ≡ Some (doc_end, byte_end) → BlocksPassed test total count table bytes first start index → start ≤ byte_end → test (slice_range bytes start byte_end) ≡ true → doc_end ≡ first + length (documents_in (slice_range bytes start byte_end)) → BlocksPassed test total count table bytes doc_end byte_end (index + 1)
block_turn test total count table bytes first start index doc_end byte_end is so_far le ok numbered =
    so_far
    ∙ ap (λ cs. are_blocks test first total start cs bytes) (drop-slice_get (checkpoints_of count table) index (doc_end, byte_end) is)
    ∙ block_passed test first total start doc_end byte_end (drop (index + 1) (checkpoints_of count table)) bytes le ok numbered

-- a block that isn't there, is none, or has another number of documents
pub block_stops : (test : List ℕ → Bool) (total count : ℕ) (table bytes : List ℕ) (first start index doc_end byte_end : ℕ) → slice_get (checkpoints_of count table) index ≡ Some (doc_end, byte_end) → BlocksPassed test total count table bytes first start index → (start ≤ byte_end → byte_end ≤ length bytes → test (slice_range bytes start byte_end) ≡ true → doc_end ≡ first + length (documents_in (slice_range bytes start byte_end)) → ⊥) → are_blocks test 0 total 0 (checkpoints_of count table) bytes ≡ false
block_stops test total count table bytes first start index doc_end byte_end is so_far refused =
    let others = drop (index + 1) (checkpoints_of count table) in
    so_far
    ∙ ap (λ cs. are_blocks test first total start cs bytes) (drop-slice_get (checkpoints_of count table) index (doc_end, byte_end) is)
    ∙ false_from_ne_true (are_blocks test first total start ((doc_end, byte_end) ∷ others) bytes)
    (λ h. let p = first_block test first total start doc_end byte_end others bytes h in refused p.from p.within p.block p.documents)

no_more : (test : List ℕ → Bool) (first total start : ℕ) (bytes : List ℕ) → are_blocks test first total start [] bytes ≡ ((start == length bytes) && (total == first))
no_more test first total start bytes = let sum : first + 0 ≡ first = omega arith in ap (λ n. (start == length bytes) && (total == n)) sum

pub blocks_end : (test : List ℕ → Bool) (total count : ℕ) (table bytes : List ℕ) (first start index : ℕ) → count ≤ index → BlocksPassed test total count table bytes first start index → are_blocks test 0 total 0 (checkpoints_of count table) bytes ≡ ((start == length bytes) && (total == first))
blocks_end test total count table bytes first start index past so_far =
    so_far
    ∙ ap (λ cs. are_blocks test first total start cs bytes) (drop_all index (checkpoints_of count table) (omega (arith, past, length-checkpoints_of count table)))
    ∙ no_more test first total start bytes

-- How much memory documents take, added up document by document.
use Rattle.std.proofs.Common.{◌≡◌, ℕ, ◌+◌, ◌-◌, ◌*◌, ◌^◌, min, List, [], ◌∷◌, ◌++◌, map, length, Some, None, Option, refl, sym, ap, ◌∙◌, arith}
use Rattle.std.specs.Prelude.{IsSomeAnd}
use Rattle.std.specs.List.{flat_map}
use Rattle.std.proofs.lemmas.Grind.{flat_map-append}
use Rattle.seg_values.specs.Tree.{Document}
use Rattle.seg_model.specs.Columns.{FastValue, fast_values}
use Rattle.seg_model.specs.Fields.{Schema, Analyzer}
use Rattle.seg_fastfield.specs.FastFieldWriters.{Holds}
use Rattle.seg_values.specs.StoredBytes.{stored_form}
use Rattle.seg_store.specs.Block.{Block}
use Rattle.seg_store.specs.BlockLaw.{all_documents}
use Rattle.seg_store.specs.WriterBlocks.{Taken, byte_count, block_bytes, last_block, taken_bytes}
use Rattle.seg_store.proofs.Exports.{last_size}
use Rattle.seg_build.specs.WriterContents.{Kept}
use Rattle.seg_model.specs.SaturatedNumbers.{saturated}
use Rattle.seg_build.specs.MemoryUsage.{total, occurrence_count, length_fields, memory_usage}
use Rattle.seg_build.specs.SegmentWriters.{Stores, IsKeptOf}

pub total-last : {A : Type 0} (count : A → ℕ) (xs : List A) (x : A) → total count (xs ++ x ∷ []) ≡ total count xs + count x
total-last count [] x = omega arith
total-last count (y ∷ ys) x = omega (arith, total-last count ys x)

-- ---- the bytes of a store

bytes-append : (xs ys : Block) → byte_count (xs ++ ys) ≡ byte_count xs + byte_count ys
bytes-append [] ys = omega arith
bytes-append (x ∷ xs) ys = omega (arith, bytes-append xs ys)

bytes-blocks : (bs : List Block) → byte_count (flat_map (λ (b : Block). b) bs) ≡ block_bytes bs
bytes-blocks [] = refl
bytes-blocks (b ∷ bs) = omega (arith, bytes-append b (flat_map (λ (b : Block). b) bs), bytes-blocks bs)

bytes-taken : (w : Taken) → taken_bytes (Some w) ≡ byte_count (all_documents w)
bytes-taken w =
    ap (λ n. block_bytes w.closed + n) (sym (last_size w.open_block))
    ∙ (λ i. sym (bytes-blocks w.closed) i + sym (bytes-blocks (last_block w.open_block)) i)
    ∙ sym (bytes-append (flat_map (λ (b : Block). b) w.closed) (flat_map (λ (b : Block). b) (last_block w.open_block)))
    ∙ ap byte_count (sym (flat_map-append (λ (b : Block). b) w.closed (last_block w.open_block)))

bytes-stored : (schema : Schema) (size : ℕ) (documents : List Document) (o : Option Taken) → IsSomeAnd o (Stores schema size documents) → taken_bytes o ≡ byte_count (map (stored_form schema) documents)
bytes-stored schema size documents (Some w) so = bytes-taken w ∙ ap byte_count so.forms
bytes-stored schema size documents None so = absurd so

-- ---- the formula

by_parts : (stored all values occurrences fast most a b v c r : ℕ) → occurrences ≡ saturated all → fast ≡ saturated (16 * values)
    → a ≡ min (occurrences * 16) (2 ^ 64 - 1) → b ≡ min (stored + a) (2 ^ 64 - 1) → v ≡ min (b + fast) (2 ^ 64 - 1)
    → c ≡ min most (2 ^ 64 - 1) → r ≡ min (v + c) (2 ^ 64 - 1) → r ≡ saturated (stored + 16 * all + 16 * values + most)
by_parts stored all values occurrences fast most a b v c r o f a_is b_is v_is c_is r_is = omega (arith, o, f, a_is, b_is, v_is, c_is, r_is)

module _ (schema : Schema) (analyzer : Analyzer) (size : ℕ) (documents : List Document) (stamps : List ℕ) (kept : Kept) (are : IsKeptOf schema analyzer size documents stamps kept) where
  -- what is added up is the formula
  pub usage_is : (stored fast count lengths a b v c r : ℕ) → stored ≡ taken_bytes kept.store
      → ((values : List (List FastValue)) → Holds values kept.fast → fast ≡ saturated (16 * total length values))
      → count ≡ length kept.stamps → lengths ≡ length_fields schema
      → a ≡ min (kept.occurrences * 16) (2 ^ 64 - 1) → b ≡ min (stored + a) (2 ^ 64 - 1) → v ≡ min (b + fast) (2 ^ 64 - 1)
      → c ≡ min (count * lengths) (2 ^ 64 - 1) → r ≡ min (v + c) (2 ^ 64 - 1)
      → r ≡ saturated (memory_usage schema analyzer documents)
  usage_is stored fast count lengths a b v c r stored_is fast_is count_is lengths_is a_is b_is v_is c_is r_is =
      by_parts stored (total (occurrence_count schema analyzer) documents) (total length (map (fast_values schema analyzer) documents)) kept.occurrences fast (count * lengths) a b v c r are.occurrences
      (fast_is (map (fast_values schema analyzer) documents) are.fast) a_is b_is v_is c_is r_is
      ∙ (λ i. saturated ((stored_is ∙ bytes-stored schema size documents kept.store are.store) i + 16 * total (occurrence_count schema analyzer) documents + 16 * total length (map (fast_values schema analyzer) documents) + (count_is ∙ ap length are.stamped ∙ are.each) i * lengths_is i))

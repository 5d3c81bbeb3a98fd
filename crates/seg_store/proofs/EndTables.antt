-- Tables of ends, and of checkpoints.
use Rattle.std.proofs.Common.{◌≡◌, ℕ, zero, suc, ◌+◌, ◌*◌, ◌<◌, List, length, drop, Some, refl, ap, ◌∙◌, arith}
use Rattle.std.specs.List.{slice_get}
use Rattle.seg_common.specs.LittleEndian.{u32_at, u64_at}
use Rattle.seg_common.proofs.Bytes.{u32_at-drop, u64_at-drop}
use Rattle.seg_store.specs.Ends.{numbers_of}
use Rattle.seg_store.specs.Store.{checkpoints_of}

pub number_at : (n : ℕ) (table : List ℕ) (i : ℕ) → i < n → slice_get (numbers_of n table) i ≡ Some (u64_at table (8 * i))
number_at zero table i lt = absurd (omega (arith, lt))
number_at (suc n) table zero lt = refl
number_at (suc n) table (suc i) lt =
    let past : 8 + 8 * i ≡ 8 * suc i = omega arith in
    number_at n (drop 8 table) i (omega (arith, lt)) ∙ ap Some (u64_at-drop table 8 (8 * i) ∙ ap (u64_at table) past)

pub checkpoint_found : (n : ℕ) (table : List ℕ) (i : ℕ) → i < n → slice_get (checkpoints_of n table) i ≡ Some (u32_at table (12 * i), u64_at table (12 * i + 4))
checkpoint_found zero table i lt = absurd (omega (arith, lt))
checkpoint_found (suc n) table zero lt = refl
checkpoint_found (suc n) table (suc i) lt =
    let past : 12 + 12 * i ≡ 12 * suc i = omega arith in
    let further : 12 + (12 * i + 4) ≡ 12 * suc i + 4 = omega arith in
    let ids = u32_at-drop table 12 (12 * i) ∙ ap (u32_at table) past in
    let ends = u64_at-drop table 12 (12 * i + 4) ∙ ap (u64_at table) further in
    checkpoint_found n (drop 12 table) i (omega (arith, lt)) ∙ (λ j. Some (ids j, ends j))

pub length-numbers_of : (n : ℕ) (table : List ℕ) → length (numbers_of n table) ≡ n
length-numbers_of zero table = refl
length-numbers_of (suc n) table = ap suc (length-numbers_of n (drop 8 table))

pub length-checkpoints_of : (n : ℕ) (table : List ℕ) → length (checkpoints_of n table) ≡ n
length-checkpoints_of zero table = refl
length-checkpoints_of (suc n) table = ap suc (length-checkpoints_of n (drop 12 table))

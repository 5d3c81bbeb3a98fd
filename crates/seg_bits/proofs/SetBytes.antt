-- Sets in bytes, word by word.
use Rattle.std.proofs.Common.{◌≡◌, ◌<◌, ℕ, ◌+◌, ◌*◌, ◌==◌, true, false, List, Some, None, length, get_or, ap, arith}
use Rattle.std.specs.Prelude.{if◌then◌else◌}
use Rattle.std.proofs.lemmas.Bool.{and_left, and_right, and_from, and_parts, eq-eqb, ne_eqb, eqb-true}
use Rattle.std.proofs.lemmas.List.FromFn.{get_or-map-range_with_len, length-map-range_with_len}
use Rattle.seg_common.specs.LittleEndian.{u32_at, u64_at}
use Rattle.seg_bits.specs.BitSets.{words_for, is_clear_from, words_of, is_bit_set, set_in, set_of}

-- ---- reading

pub length-words_of : (bytes : List ℕ) → length (words_of bytes) ≡ words_for (u32_at bytes 0)
unfolding words_of
length-words_of bytes = length-map-range_with_len (λ i. u64_at bytes (4 + 8 * i)) 0 (words_for (u32_at bytes 0))

pub get_or-words_of : (bytes : List ℕ) (i : ℕ) → i < words_for (u32_at bytes 0) → get_or (words_of bytes) i 0 ≡ u64_at bytes (4 + 8 * i)
unfolding words_of
get_or-words_of bytes i h = get_or-map-range_with_len (λ i. u64_at bytes (4 + 8 * i)) 0 (words_for (u32_at bytes 0)) i i 0 h (omega arith)

pub reads_none : (bytes : List ℕ) → is_bit_set bytes ≡ false → set_of bytes ≡ None
unfolding set_of
reads_none bytes bad = ap (λ b. if b then Some (set_in bytes) else None) bad

pub reads_some : (bytes : List ℕ) → is_bit_set bytes ≡ true → set_of bytes ≡ Some (set_in bytes)
unfolding set_of
reads_some bytes good = ap (λ b. if b then Some (set_in bytes) else None) good

pub wrong_length : (bytes : List ℕ) → (length bytes ≡ 4 + 8 * words_for (u32_at bytes 0) → ⊥) → is_bit_set bytes ≡ false
unfolding is_bit_set
wrong_length bytes differ = and_left (length bytes == 4 + 8 * words_for (u32_at bytes 0)) (is_clear_from (u32_at bytes 0) (words_of bytes)) (ne_eqb (length bytes) (4 + 8 * words_for (u32_at bytes 0)) differ)

pub unclear : (bytes : List ℕ) → is_clear_from (u32_at bytes 0) (words_of bytes) ≡ false → is_bit_set bytes ≡ false
unfolding is_bit_set
unclear bytes set_bits = and_right (length bytes == 4 + 8 * words_for (u32_at bytes 0)) (is_clear_from (u32_at bytes 0) (words_of bytes)) set_bits

pub is_set : (bytes : List ℕ) → length bytes ≡ 4 + 8 * words_for (u32_at bytes 0) → is_clear_from (u32_at bytes 0) (words_of bytes) ≡ true → is_bit_set bytes ≡ true
unfolding is_bit_set
is_set bytes long clear = and_from (length bytes == 4 + 8 * words_for (u32_at bytes 0)) (is_clear_from (u32_at bytes 0) (words_of bytes)) (eq-eqb (length bytes) (4 + 8 * words_for (u32_at bytes 0)) long) clear

pub set_length : (bytes : List ℕ) → is_bit_set bytes ≡ true → length bytes ≡ 4 + 8 * words_for (u32_at bytes 0)
unfolding is_bit_set
set_length bytes good = eqb-true (length bytes) (4 + 8 * words_for (u32_at bytes 0)) (and_parts (length bytes == 4 + 8 * words_for (u32_at bytes 0)) (is_clear_from (u32_at bytes 0) (words_of bytes)) good).0

pub set_clear : (bytes : List ℕ) → is_bit_set bytes ≡ true → is_clear_from (u32_at bytes 0) (words_of bytes) ≡ true
unfolding is_bit_set
set_clear bytes good = (and_parts (length bytes == 4 + 8 * words_for (u32_at bytes 0)) (is_clear_from (u32_at bytes 0) (words_of bytes)) good).1

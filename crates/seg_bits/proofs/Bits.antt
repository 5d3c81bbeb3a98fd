-- The bits of words, one by one.
use Rattle.std.proofs.Common.{◌≡◌, ◌<◌, ℕ, ◌-◌, ◌*◌, ◌/◌, ◌%◌, ◌==◌, Bool, false, List, [], ◌∷◌, length, get_or, refl, sym, ap, ◌∙◌, arith, length-append, inl, inr, suc}
use Rattle.std.specs.Int.{bit_at}
use Rattle.std.specs.List.{flat_map}
use Rattle.std.proofs.lemmas.Bool.{cases_lt}
use Rattle.std.proofs.lemmas.List.{get_or_append_left, get_or-append_right}
use Rattle.std.proofs.lemmas.List.FromFn.{get_or-map-range_with_len, length-map-range_with_len}
use Rattle.std.proofs.lemmas.Nat.Bits.{bit_at-zero}
use Rattle.seg_bits.specs.BitSets.{word_bits, bits_of}

-- whether a number is in, by its word
abbrev pub has : List ℕ → ℕ → Bool
has words k = bit_at (get_or words (k / 64) 0) (k % 64) == 1

pub length-word_bits : (word : ℕ) → length (word_bits word) ≡ 64
unfolding word_bits
length-word_bits word = length-map-range_with_len (λ i. bit_at word i == 1) 0 64

pub get_or-word_bits : (word k : ℕ) → k < 64 → get_or (word_bits word) k false ≡ (bit_at word k == 1)
unfolding word_bits
get_or-word_bits word k h = get_or-map-range_with_len (λ i. bit_at word i == 1) 0 64 k k false h (omega arith)

pub length-bits_of : (words : List ℕ) → length (bits_of words) ≡ 64 * length words
unfolding bits_of
length-bits_of [] = refl
length-bits_of (w ∷ ws) = omega (arith, length-append (word_bits w) (flat_map word_bits ws), length-word_bits w, length-bits_of ws)

-- a bit is that of its word
pub get_or-bits_of : (words : List ℕ) (k : ℕ) → get_or (bits_of words) k false ≡ has words k
unfolding bits_of
get_or-bits_of [] k = ap (λ n. n == 1) (sym (bit_at-zero (k % 64)))
get_or-bits_of (w ∷ ws) k = elim (cases_lt k 64) [
  | inl below ↦
      let q : k / 64 ≡ 0 = omega arith in
      let r : k % 64 ≡ k = omega arith in
      get_or_append_left (word_bits w) (flat_map word_bits ws) false k (omega (arith, length-word_bits w))
      ∙ get_or-word_bits w k below ∙ rw (q, r) refl
  | inr above ↦
      let q : k / 64 ≡ suc ((k - 64) / 64) = omega arith in
      let r : k % 64 ≡ (k - 64) % 64 = omega arith in
      get_or-append_right (word_bits w) (flat_map word_bits ws) 64 k false (length-word_bits w) above
      ∙ get_or-bits_of ws (k - 64) ∙ rw (q, r) refl
]

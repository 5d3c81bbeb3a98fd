-- Look-ups in the bytes of a set.
use Rattle.std.proofs.Common.{◌≡◌, ◌≤◌, ◌<◌, ℕ, ◌+◌, ◌-◌, ◌*◌, ◌/◌, ◌%◌, ◌^◌, ◌==◌, true, false, cond, List, [], ◌∷◌, ◌++◌, length, take, drop, get_or, refl, sym, ap, ◌∙◌, arith, inl, inr, nat_eq}
use Rattle.std.specs.Int.{bit_at, w64, trailing_zeros}
use Rattle.std.specs.Int.RustNames.{count_ones}
use Rattle.std.specs.Int.Bits.{bit_and}
use Rattle.std.specs.List.{flat_map}
use Rattle.std.proofs.lemmas.Bool.{cases_lt, false≢true}
use Rattle.std.proofs.lemmas.Grind.{flat_map-append}
use Rattle.std.proofs.lemmas.List.{take_more, length-take, take_all, append-nil, get_or_past}
use Rattle.std.proofs.lemmas.List.Sums.{sum_by-append, count_by-le-length}
use Rattle.std.proofs.lemmas.Nat.Bits.{shr_and_one}
use Rattle.seg_common.specs.LittleEndian.{u32_at}
use Rattle.seg_bits.specs.BitSets.{words_for, word_bits, bits_of, words_of, is_bit_set, set_in, member_count, numbers_from}
use Rattle.seg_bits.proofs.Bits.{has, length-bits_of}
use Rattle.seg_bits.proofs.LowestBits.{IsLowest, lowest, no_bit}
use Rattle.seg_bits.proofs.Members.{length-members, get_or-members, count-word_bits, count-members, skip, take_one}
use Rattle.seg_bits.proofs.SetBytes.{length-words_of, set_clear}

pub length-set_in : (bytes : List ℕ) → length (set_in bytes) ≡ u32_at bytes 0
length-set_in bytes = length-members (u32_at bytes 0) (words_of bytes) (length-words_of bytes)

pub get_or-set_in : (bytes : List ℕ) (k : ℕ) → is_bit_set bytes ≡ true → get_or (set_in bytes) k false ≡ has (words_of bytes) k
get_or-set_in bytes k good = get_or-members (u32_at bytes 0) (words_of bytes) k (set_clear bytes good)

pub member_at : (bytes : List ℕ) (n word : ℕ) → is_bit_set bytes ≡ true → word ≡ get_or (words_of bytes) (n / 64) 0 → nat_eq (bit_and (word / 2 ^ (n % 64)) 1) 1 ≡ get_or (set_in bytes) n false
member_at bytes n word good is =
    ap (λ m. nat_eq m 1) (shr_and_one word (n % 64)) ∙ ap (λ w. nat_eq (bit_at w (n % 64)) 1) is ∙ sym (get_or-set_in bytes n good)

-- ---- counting

bits_of_more : (words : List ℕ) (i : ℕ) → i < length words → bits_of (take (i + 1) words) ≡ bits_of (take i words) ++ word_bits (get_or words i 0)
unfolding bits_of
bits_of_more words i h =
    ap (flat_map word_bits) (take_more words i 0 h) ∙ flat_map-append word_bits (take i words) (get_or words i 0 ∷ [])
    ∙ ap (λ bs. flat_map word_bits (take i words) ++ bs) (append-nil (word_bits (get_or words i 0)))

pub counted_more : (words : List ℕ) (i word : ℕ) → i < length words → word < 2 ^ 64 → word ≡ get_or words i 0 → member_count (bits_of (take (i + 1) words)) ≡ member_count (bits_of (take i words)) + count_ones word
counted_more words i word h small is =
    ap member_count (bits_of_more words i h)
    ∙ sum_by-append (λ b. cond b 1 0) (bits_of (take i words)) (word_bits (get_or words i 0))
    ∙ ap (λ n. member_count (bits_of (take i words)) + n) (ap (λ w. member_count (word_bits w)) (sym is) ∙ sym (count-word_bits word small))

pub counted_below : (words : List ℕ) (i : ℕ) → member_count (bits_of (take i words)) ≤ 64 * i
counted_below words i = omega (arith, count_by-le-length (λ b. b) (bits_of (take i words)), length-bits_of (take i words), length-take i words)

pub counted_all : (bytes : List ℕ) (n : ℕ) → is_bit_set bytes ≡ true → n ≡ words_for (u32_at bytes 0) → member_count (bits_of (take n (words_of bytes))) ≡ member_count (set_in bytes)
counted_all bytes n good all =
    ap (λ ws. member_count (bits_of ws)) (take_all n (words_of bytes) (omega (arith, length-words_of bytes)))
    ∙ sym (count-members (u32_at bytes 0) (words_of bytes) (set_clear bytes good))

-- ---- the next number

module _ (bytes : List ℕ) (at word : ℕ) (good : is_bit_set bytes ≡ true) (small : word < 2 ^ 64) (is : word ≡ get_or (words_of bytes) (at / 64) 0) where
  -- a number of the same word is in where its bit is set
  by_bit : (k j : ℕ) → k ≡ at + j → at % 64 + j < 64 → get_or (set_in bytes) k false ≡ (bit_at word (at % 64 + j) == 1)
  by_bit k j e below =
      let q : k / 64 ≡ at / 64 = omega arith in
      let r : k % 64 ≡ at % 64 + j = omega arith in
      get_or-set_in bytes k good ∙ ap (λ i. bit_at (get_or (words_of bytes) i 0) (k % 64) == 1) q
      ∙ ap (λ w. bit_at w (k % 64) == 1) (sym is) ∙ ap (λ i. bit_at word i == 1) r

  -- where no bit is left, all of the word is passed over
  pub passed : word / 2 ^ (at % 64) ≡ 0 → numbers_from at (drop at (set_in bytes)) ≡ numbers_from ((at / 64 + 1) * 64) (drop ((at / 64 + 1) * 64) (set_in bytes))
  passed none =
      let e : at + ((at / 64 + 1) * 64 - at) ≡ (at / 64 + 1) * 64 = omega arith in
      skip (set_in bytes) at ((at / 64 + 1) * 64 - at) (λ k low high.
      by_bit k (k - at) (omega arith) (omega arith) ∙ ap (λ n. n == 1) (no_bit word (at % 64) (at % 64 + (k - at)) none (omega arith)))
      ∙ ap (λ n. numbers_from n (drop n (set_in bytes))) e

  -- else the lowest bit is the next number
  module _ (some : 0 < word / 2 ^ (at % 64)) where
    zeros : ℕ
    zeros = trailing_zeros w64 (word / 2 ^ (at % 64))

    first : IsLowest word (at % 64) zeros
    unfolding zeros
    first = lowest word (at % 64) small some

    found_in : get_or (set_in bytes) (at + zeros) false ≡ true
    found_in = by_bit (at + zeros) zeros refl first.inside ∙ ap (λ n. n == 1) first.here

    pub found_within : at + trailing_zeros w64 (word / 2 ^ (at % 64)) < u32_at bytes 0
    unfolding zeros
    found_within = elim (cases_lt (at + zeros) (u32_at bytes 0)) [
      | inl below ↦ below
      | inr past ↦ absurd (false≢true (sym (get_or_past (set_in bytes) (at + zeros) false (omega (arith, length-set_in bytes))) ∙ found_in))
    ]

    pub found_next : numbers_from at (drop at (set_in bytes)) ≡ (at + trailing_zeros w64 (word / 2 ^ (at % 64))) ∷ numbers_from (at + trailing_zeros w64 (word / 2 ^ (at % 64)) + 1) (drop (at + trailing_zeros w64 (word / 2 ^ (at % 64)) + 1) (set_in bytes))
    unfolding zeros
    found_next =
        skip (set_in bytes) at zeros (λ k low high.
        by_bit k (k - at) (omega arith) (omega (arith, first.inside)) ∙ ap (λ n. n == 1) (first.none (at % 64 + (k - at)) (omega arith) (omega arith)))
        ∙ take_one (set_in bytes) (at + zeros) found_in

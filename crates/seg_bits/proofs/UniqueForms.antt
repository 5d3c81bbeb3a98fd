-- Bytes that read as one set are the same: first their sizes, then their words, then each byte.
use Rattle.std.proofs.Common.{◌≡◌, ◌≤◌, ◌<◌, ℕ, zero, suc, ◌+◌, ◌-◌, ◌*◌, ◌/◌, ◌%◌, ◌^◌, ◌==◌, Bool, true, false, List, length, take, drop, get_or, Some, None, refl, sym, ap, ◌∙◌, subst, arith, inl, inr}
use Rattle.std.specs.Int.{bit_at, w32, w64, to_le_bytes, from_le_bytes}
use Rattle.std.proofs.lemmas.Bool.{cases_lt, cases_Bool}
use Rattle.std.proofs.lemmas.List.{ext_get_or, get_or-take, get_or-drop, get_or_past, length-take, length-drop, length-take-le}
use Rattle.std.proofs.lemmas.Nat.{le_bytes_4, le_bytes_8}
use Rattle.std.proofs.lemmas.Nat.Bits.{same_from_bits_below, bit_at-lt}
use Rattle.seg_common.specs.LittleEndian.{u32_at, u64_at}
use Rattle.seg_bits.specs.BitSets.{words_for, words_of, is_bit_set, set_in, set_of, AreBytes, SetsHaveOneForm}
use Rattle.seg_bits.proofs.Bits.{has}
use Rattle.seg_bits.proofs.SetLookUps.{length-set_in, get_or-set_in}
use Rattle.seg_bits.proofs.SetBytes.{get_or-words_of, reads_none, reads_some, set_length}

-- what is known of bytes that read as a set
pub record Reads (bytes : List ℕ) (set : List Bool) : Type 0 where
  pub good : is_bit_set bytes ≡ true
  pub is : set_in bytes ≡ set

reads : (bytes : List ℕ) (set : List Bool) → set_of bytes ≡ Some set → Reads bytes set
reads bytes set e = elim (cases_Bool (is_bit_set bytes)) [
  | inl good ↦ record { good = good; is = same (set_in bytes) set (sym (reads_some bytes good) ∙ e) }
  | inr bad ↦ absurd (none_some set (sym (reads_none bytes bad) ∙ e))
]
  where
    same : (x y : List Bool) → Some x ≡ Some y → x ≡ y
    same x y h = cc

    none_some : (y : List Bool) → None ≡ Some y → ⊥
    none_some y h = cc

four : (bs : List ℕ) → length bs ≡ 4 → AreBytes bs → to_le_bytes w32 (from_le_bytes w32 bs) ≡ bs
four bs long small = le_bytes_4 bs (from_le_bytes w32 bs) long small refl

eight : (bs : List ℕ) → length bs ≡ 8 → AreBytes bs → to_le_bytes w64 (from_le_bytes w64 bs) ≡ bs
eight bs long small = le_bytes_8 bs (from_le_bytes w64 bs) long small refl

eight_below : (bs : List ℕ) → AreBytes bs → from_le_bytes w64 bs < 2 ^ 64
eight_below bs small = omega (arith, small 0, small 1, small 2, small 3, small 4, small 5, small 6, small 7)

take_bytes : (n : ℕ) (bs : List ℕ) → AreBytes bs → AreBytes (take n bs)
take_bytes n bs small i = elim (cases_lt i n) [
  | inl below ↦ subst (λ b. b < 256) (sym (get_or-take n bs i 0 below)) (small i)
  | inr past ↦ subst (λ b. b < 256) (sym (get_or_past (take n bs) i 0 (omega (arith, length-take n bs)))) (omega arith)
]

drop_bytes : (n : ℕ) (bs : List ℕ) → AreBytes bs → AreBytes (drop n bs)
drop_bytes n bs small i = subst (λ b. b < 256) (sym (get_or-drop n bs i 0)) (small (n + i))

same_bit : (m n : ℕ) → m < 2 → n < 2 → (m == 1) ≡ (n == 1) → m ≡ n
same_bit zero zero h k e = refl
same_bit zero (suc zero) h k e = cc
same_bit (suc zero) zero h k e = cc
same_bit (suc zero) (suc zero) h k e = refl
same_bit (suc (suc m)) n h k e = absurd (omega arith)
same_bit m (suc (suc n)) h k e = absurd (omega arith)

module _ (a b : List ℕ) (set : List Bool) (a_bytes : AreBytes a) (b_bytes : AreBytes b) (a_reads : Reads a set) (b_reads : Reads b set) where
  same_size : u32_at a 0 ≡ u32_at b 0
  same_size = sym (length-set_in a) ∙ ap length (a_reads.is ∙ sym b_reads.is) ∙ length-set_in b

  same_length : length a ≡ length b
  same_length = set_length a a_reads.good ∙ ap (λ n. 4 + 8 * words_for n) same_size ∙ sym (set_length b b_reads.good)

  same_has : (k : ℕ) → has (words_of a) k ≡ has (words_of b) k
  same_has k = sym (get_or-set_in a k a_reads.good) ∙ ap (λ (s : List Bool). get_or s k false) (a_reads.is ∙ sym b_reads.is) ∙ get_or-set_in b k b_reads.good

  word_below : (bs : List ℕ) (at : ℕ) → AreBytes bs → u64_at bs at < 2 ^ 64
  unfolding u64_at
  word_below bs at small = eight_below (take 8 (drop at bs)) (take_bytes 8 (drop at bs) (drop_bytes at bs small))

  same_words : (k : ℕ) → k < words_for (u32_at a 0) → u64_at a (4 + 8 * k) ≡ u64_at b (4 + 8 * k)
  same_words k h =
      let in_b : k < words_for (u32_at b 0) = subst (λ n. k < words_for n) same_size h in
      same_from_bits_below 64 (u64_at a (4 + 8 * k)) (u64_at b (4 + 8 * k)) (word_below a (4 + 8 * k) a_bytes) (word_below b (4 + 8 * k) b_bytes) (λ i below.
      let q : (64 * k + i) / 64 ≡ k = omega arith in
      let r : (64 * k + i) % 64 ≡ i = omega arith in
      let bits : (bit_at (get_or (words_of a) k 0) i == 1) ≡ (bit_at (get_or (words_of b) k 0) i == 1) =
      subst (λ m. (bit_at (get_or (words_of a) k 0) m == 1) ≡ (bit_at (get_or (words_of b) k 0) m == 1)) r
      (subst (λ m. (bit_at (get_or (words_of a) m 0) ((64 * k + i) % 64) == 1) ≡ (bit_at (get_or (words_of b) m 0) ((64 * k + i) % 64) == 1)) q (same_has (64 * k + i))) in
      ap (λ w. bit_at w i) (sym (get_or-words_of a k h))
      ∙ same_bit (bit_at (get_or (words_of a) k 0) i) (bit_at (get_or (words_of b) k 0) i) (bit_at-lt (get_or (words_of a) k 0) i) (bit_at-lt (get_or (words_of b) k 0) i) bits
      ∙ ap (λ w. bit_at w i) (get_or-words_of b k in_b))

  same_front : take 4 (drop 0 a) ≡ take 4 (drop 0 b)
  unfolding u32_at
  same_front =
      let a_long : length (take 4 a) ≡ 4 = length-take-le 4 a (omega (arith, set_length a a_reads.good)) in
      let b_long : length (take 4 b) ≡ 4 = length-take-le 4 b (omega (arith, set_length b b_reads.good)) in
      sym (four (take 4 a) a_long (take_bytes 4 a a_bytes)) ∙ ap (to_le_bytes w32) same_size ∙ four (take 4 b) b_long (take_bytes 4 b b_bytes)

  same_eight : (k : ℕ) → k < words_for (u32_at a 0) → take 8 (drop (4 + 8 * k) a) ≡ take 8 (drop (4 + 8 * k) b)
  unfolding u64_at
  same_eight k h =
      let a_long : length (take 8 (drop (4 + 8 * k) a)) ≡ 8 = length-take-le 8 (drop (4 + 8 * k) a) (omega (arith, length-drop (4 + 8 * k) a, set_length a a_reads.good)) in
      let b_long : length (take 8 (drop (4 + 8 * k) b)) ≡ 8 = length-take-le 8 (drop (4 + 8 * k) b) (omega (arith, length-drop (4 + 8 * k) b, set_length a a_reads.good, same_length)) in
      sym (eight (take 8 (drop (4 + 8 * k) a)) a_long (take_bytes 8 (drop (4 + 8 * k) a) (drop_bytes (4 + 8 * k) a a_bytes)))
      ∙ ap (to_le_bytes w64) (same_words k h)
      ∙ eight (take 8 (drop (4 + 8 * k) b)) b_long (take_bytes 8 (drop (4 + 8 * k) b) (drop_bytes (4 + 8 * k) b b_bytes))

  byte_of : (bs : List ℕ) (at n j : ℕ) → at ≤ j → j < at + n → get_or bs j 0 ≡ get_or (take n (drop at bs)) (j - at) 0
  byte_of bs at n j low high =
      let e : at + (j - at) ≡ j = omega arith in
      sym (get_or-take n (drop at bs) (j - at) 0 (omega arith) ∙ get_or-drop at bs (j - at) 0 ∙ ap (λ i. get_or bs i 0) e)

  same_byte : (j : ℕ) → j < length a → get_or a j 0 ≡ get_or b j 0
  same_byte j h = elim (cases_lt j 4) [
    | inl front ↦ byte_of a 0 4 j (omega arith) front ∙ ap (λ (bs : List ℕ). get_or bs (j - 0) 0) same_front ∙ sym (byte_of b 0 4 j (omega arith) front)
    | inr behind ↦
        let k : ℕ = (j - 4) / 8 in
        let inside : k < words_for (u32_at a 0) = omega (arith, set_length a a_reads.good) in
        byte_of a (4 + 8 * k) 8 j (omega arith) (omega arith) ∙ ap (λ (bs : List ℕ). get_or bs (j - (4 + 8 * k)) 0) (same_eight k inside) ∙ sym (byte_of b (4 + 8 * k) 8 j (omega arith) (omega arith))
  ]

  pub same_bytes : a ≡ b
  same_bytes = ext_get_or 0 a b same_length same_byte

pub one_form : SetsHaveOneForm
one_form a b set a_bytes b_bytes a_is b_is = same_bytes a b set a_bytes b_bytes (reads a set a_is) (reads b set b_is)

-- Words that keep a set, as numbers come and go.
use Rattle.std.proofs.Common.{◌≡◌, ◌<◌, ℕ, ◌+◌, ◌-◌, ◌*◌, ◌/◌, ◌%◌, ◌^◌, ◌==◌, true, false, List, length, get_or, set, replicate, sym, ap, ◌∙◌, subst, zero-add, arith, inl, inr, nat_eq}
use mathlib.Core.Logic.{◌≢◌}
use Rattle.std.specs.Int.{bit_at, w64}
use Rattle.std.specs.Int.Bits.{bit_and, bit_or}
use Rattle.std.proofs.lemmas.Bool.{cases_lt, cases_eq}
use Rattle.std.proofs.lemmas.List.{get_or-replicate, get_or_past, get_or-set_same, get_or-set_other, get_or_read, length-replicate, length-set}
use Rattle.std.proofs.lemmas.Nat.{shr_below, one_shl, pow_pos}
use Rattle.std.proofs.lemmas.Nat.Bits.{bit_at-zero, shr_and_one, bit_at_set_same, bit_at_set_other, bit_at_clear_same, bit_at_clear_other, bit_at_ones}
use Rattle.seg_bits.specs.BitSets.{words_for, members, is_clear_from, member_count, KeepsSet}
use Rattle.seg_bits.proofs.Bits.{has, length-bits_of}
use Rattle.seg_bits.proofs.LowestBits.{clear_since}
use Rattle.seg_bits.proofs.Members.{clear_from, enough_words, length-members, get_or-members, all_or_none, HasChanged, members-set, clear-set, count-set-true, count-set-false, count-replicate-false}

-- ---- one bit set, and cleared

set_bit : (word k : ℕ) → k < 64 → HasChanged word (bit_or word (1 * 2 ^ k % 18446744073709551616)) k true
set_bit word k h = record {
  same = ap (λ n. n == 1) (bit_at_set_same w64 word k h);
  others = λ i _ differ. bit_at_set_other w64 word k h i differ;
}

clear_bit : (word k : ℕ) → k < 64 → HasChanged word (bit_and word (18446744073709551615 - 1 * 2 ^ k % 18446744073709551616)) k false
clear_bit word k h = record {
  same = ap (λ n. n == 1) (bit_at_clear_same w64 word k h);
  others = λ i below differ. bit_at_clear_other w64 word k h i below differ;
}

module _ (size : ℕ) (words : List ℕ) (count n word : ℕ) (keeps : KeepsSet size words count) (below : n < size) (read : word ≡ get_or words (n / 64) word) where
  place : n / 64 < length words
  place = omega (arith, keeps.enough, enough_words size words keeps.enough, length-bits_of words)

  is : word ≡ get_or words (n / 64) 0
  is = get_or_read words (n / 64) word place read 0

  pub looked_up : nat_eq (bit_and (word / 2 ^ (n % 64)) 1) 1 ≡ get_or (members size words) n false
  looked_up =
      ap (λ m. nat_eq m 1) (shr_and_one word (n % 64)) ∙ ap (λ w. nat_eq (bit_at w (n % 64)) 1) is ∙ sym (get_or-members size words n keeps.clear)

  within : n < 64 * length words
  within = omega (arith, keeps.enough, enough_words size words keeps.enough, length-bits_of words)

  inside : n < length (members size words)
  inside = omega (arith, length-members size words keeps.enough)

  set_here : HasChanged (get_or words (n / 64) 0) (bit_or word (1 * 2 ^ (n % 64) % 18446744073709551616)) (n % 64) true
  set_here = subst (λ w. HasChanged w (bit_or word (1 * 2 ^ (n % 64) % 18446744073709551616)) (n % 64) true) is (set_bit word (n % 64) (omega arith))

  clear_here : HasChanged (get_or words (n / 64) 0) (bit_and word (18446744073709551615 - 1 * 2 ^ (n % 64) % 18446744073709551616)) (n % 64) false
  clear_here = subst (λ w. HasChanged w (bit_and word (18446744073709551615 - 1 * 2 ^ (n % 64) % 18446744073709551616)) (n % 64) false) is (clear_bit word (n % 64) (omega arith))

  pub inserted_is : members size (set words (n / 64) (bit_or word (1 * 2 ^ (n % 64) % 18446744073709551616))) ≡ set (members size words) n true
  inserted_is = members-set size words n (bit_or word (1 * 2 ^ (n % 64) % 18446744073709551616)) true below within set_here

  pub removed_is : members size (set words (n / 64) (bit_and word (18446744073709551615 - 1 * 2 ^ (n % 64) % 18446744073709551616))) ≡ set (members size words) n false
  removed_is = members-set size words n (bit_and word (18446744073709551615 - 1 * 2 ^ (n % 64) % 18446744073709551616)) false below within clear_here

  pub inserted : get_or (members size words) n false ≡ false → KeepsSet size (set words (n / 64) (bit_or word (1 * 2 ^ (n % 64) % 18446744073709551616))) (count + 1)
  inserted new = record {
    small = keeps.small;
    enough = length-set words (n / 64) (bit_or word (1 * 2 ^ (n % 64) % 18446744073709551616)) ∙ keeps.enough;
    clear = clear-set size words n (bit_or word (1 * 2 ^ (n % 64) % 18446744073709551616)) true below within set_here keeps.clear;
    counted = ap (λ k. k + 1) keeps.counted ∙ sym (ap member_count inserted_is ∙ count-set-true (members size words) n inside new);
  }

  pub removed : get_or (members size words) n false ≡ true → KeepsSet size (set words (n / 64) (bit_and word (18446744073709551615 - 1 * 2 ^ (n % 64) % 18446744073709551616))) (count - 1)
  removed old =
      let one_less : member_count (set (members size words) n false) + 1 ≡ member_count (members size words) = count-set-false (members size words) n inside old in
      let counted : member_count (members size (set words (n / 64) (bit_and word (18446744073709551615 - 1 * 2 ^ (n % 64) % 18446744073709551616)))) ≡ member_count (set (members size words) n false) = ap member_count removed_is in record {
        small = keeps.small;
        enough = length-set words (n / 64) (bit_and word (18446744073709551615 - 1 * 2 ^ (n % 64) % 18446744073709551616)) ∙ keeps.enough;
        clear = clear-set size words n (bit_and word (18446744073709551615 - 1 * 2 ^ (n % 64) % 18446744073709551616)) false below within clear_here keeps.clear;
        counted = omega (arith, keeps.counted, one_less, counted);
      }

-- ---- no number, and all of them

has_zeros : (n k : ℕ) → has (replicate n 0) k ≡ false
has_zeros n k = elim (cases_lt (k / 64) n) [
  | inl there ↦ ap (λ w. bit_at w (k % 64) == 1) (get_or-replicate n (k / 64) 0 0 there) ∙ ap (λ m. m == 1) (bit_at-zero (k % 64))
  | inr past ↦ ap (λ w. bit_at w (k % 64) == 1) (get_or_past (replicate n 0) (k / 64) 0 (omega (arith, length-replicate {A = ℕ} n 0))) ∙ ap (λ m. m == 1) (bit_at-zero (k % 64))
]

pub none_is : (size : ℕ) → members size (replicate (words_for size) 0) ≡ replicate size false
none_is size = all_or_none size (replicate (words_for size) 0) false (length-replicate (words_for size) 0) (λ k _. has_zeros (words_for size) k)

pub none_kept : (size : ℕ) → size < 2 ^ 32 → KeepsSet size (replicate (words_for size) 0) 0
none_kept size small = record {
  small = small;
  enough = length-replicate (words_for size) 0;
  clear = clear_from size (replicate (words_for size) 0) (λ k _. has_zeros (words_for size) k);
  counted = sym (ap member_count (none_is size) ∙ count-replicate-false size);
}

-- ---- all numbers: each word full, and the last one up to the last number

pub all_whole : (size : ℕ) → size % 64 ≡ 0 → members size (replicate (words_for size) 18446744073709551615) ≡ replicate size true
all_whole size whole = all_or_none size (replicate (words_for size) 18446744073709551615) true (length-replicate (words_for size) 18446744073709551615) (λ k below.
    ap (λ w. bit_at w (k % 64) == 1) (get_or-replicate (words_for size) (k / 64) 18446744073709551615 0 (omega arith))
    ∙ ap (λ m. m == 1) (bit_at_ones 64 (k % 64) (omega arith)))

-- the words with the last one cut
abbrev pub cut : ℕ → ℕ → List ℕ
cut size last = set (replicate (words_for size) 18446744073709551615) (size / 64) last

-- the ones of the last word
abbrev pub last_ones : ℕ → ℕ
last_ones size = 1 * 2 ^ (size % 64) % 18446744073709551616 - 1

module _ (size : ℕ) (part : size % 64 ≢ 0) where
  last_is : last_ones size ≡ 2 ^ (size % 64) - 1
  last_is = ap (λ n. n - 1) (one_shl (size % 64) 64 (omega arith))

  pub cut_enough : length (cut size (last_ones size)) ≡ words_for size
  cut_enough = length-set (replicate (words_for size) 18446744073709551615) (size / 64) (last_ones size) ∙ length-replicate (words_for size) 18446744073709551615

  cut_last : get_or (cut size (last_ones size)) (size / 64) 0 ≡ last_ones size
  cut_last = get_or-set_same (replicate (words_for size) 18446744073709551615) (size / 64) (last_ones size) 0 (omega (arith, length-replicate {A = ℕ} (words_for size) 18446744073709551615))

  pub all_cut : members size (cut size (last_ones size)) ≡ replicate size true
  all_cut = all_or_none size (cut size (last_ones size)) true cut_enough (λ k below. elim (cases_eq (k / 64) (size / 64)) [
    | inl same ↦
        ap (λ i. bit_at (get_or (cut size (last_ones size)) i 0) (k % 64) == 1) same ∙ ap (λ w. bit_at w (k % 64) == 1) (cut_last ∙ last_is)
        ∙ ap (λ m. m == 1) (bit_at_ones (size % 64) (k % 64) (omega arith))
    | inr differ ↦
        ap (λ w. bit_at w (k % 64) == 1) (get_or-set_other (replicate (words_for size) 18446744073709551615) (size / 64) (k / 64) (last_ones size) 0 differ)
        ∙ ap (λ w. bit_at w (k % 64) == 1) (get_or-replicate (words_for size) (k / 64) 18446744073709551615 0 (omega arith))
        ∙ ap (λ m. m == 1) (bit_at_ones 64 (k % 64) (omega arith))
  ])

  pub cut_clear : is_clear_from size (cut size (last_ones size)) ≡ true
  cut_clear =
      let small : 2 ^ (size % 64) - 1 < 2 ^ (0 + size % 64) = omega (arith, pow_pos (size % 64), ap (λ n. 2 ^ n) (zero-add (size % 64))) in
      let none : last_ones size / 2 ^ (size % 64) ≡ 0 = omega (arith, shr_below (2 ^ (size % 64) - 1) 0 (size % 64) small, ap (λ n. n / 2 ^ (size % 64)) last_is) in
      clear_since size (cut size (last_ones size)) (last_ones size) cut_enough part cut_last none

-- The lowest bit of a word from a place on.
use Rattle.std.proofs.Common.{◌≡◌, ◌≤◌, ◌<◌, ℕ, ◌+◌, ◌-◌, ◌/◌, ◌%◌, ◌^◌, ◌==◌, true, false, List, length, get_or, sym, ap, ◌∙◌, arith, inl, inr, eqb}
use mathlib.Core.Logic.{◌≢◌}
use mathlib.Core.Bool.{false≢true}
use Rattle.std.specs.Int.{bit_at, w64, trailing_zeros}
use Rattle.std.proofs.lemmas.Bool.{cases_lt, cases_eq, false_from_ne_true, eq-eqb, ne_eqb}
use Rattle.std.proofs.lemmas.List.{get_or_past}
use Rattle.std.proofs.lemmas.Nat.{shr-shr, shr_le}
use Rattle.std.proofs.lemmas.Nat.Bits.{bit_at-zero, bit_at_above, bit_at-trailing_zeros}
use Rattle.seg_bits.specs.BitSets.{words_for, is_clear_from}
use Rattle.seg_bits.proofs.Bits.{has}
use Rattle.seg_bits.proofs.Members.{clear_at, clear_from}

-- a bit of what is left after a shift
bit_at-shr : (word u k : ℕ) → u ≤ k → bit_at word k ≡ bit_at (word / 2 ^ u) (k - u)
bit_at-shr word u k h =
    let e : u + (k - u) ≡ k = omega arith in
    sym (ap (λ n. n % 2) (shr-shr word u (k - u) ∙ ap (λ n. word / 2 ^ n) e))

pub no_bit : (word u k : ℕ) → word / 2 ^ u ≡ 0 → u ≤ k → bit_at word k ≡ 0
no_bit word u k none h = bit_at-shr word u k h ∙ ap (λ n. bit_at n (k - u)) none ∙ bit_at-zero (k - u)

-- where a bit is set from a place on, the lowest such one, and how far it is
pub record IsLowest (word u t : ℕ) : Type 0 where
  pub inside : u + t < 64
  pub here : bit_at word (u + t) ≡ 1
  pub none : (k : ℕ) → u ≤ k → k < u + t → bit_at word k ≡ 0

pub lowest : (word u : ℕ) → word < 2 ^ 64 → 0 < word / 2 ^ u → IsLowest word u (trailing_zeros w64 (word / 2 ^ u))
lowest word u small some =
    let rest : ℕ = word / 2 ^ u in
    let t : ℕ = trailing_zeros w64 rest in
    let below : rest < 2 ^ 64 = omega (arith, shr_le word u) in
    let found = bit_at-trailing_zeros w64 rest some below in
    let back : u + t - u ≡ t = omega arith in
    let here : bit_at word (u + t) ≡ 1 = bit_at-shr word u (u + t) (omega arith) ∙ ap (bit_at rest) back ∙ found.1 in
    record {
      inside = elim (cases_lt (u + t) 64) [ inl h ↦ h | inr h ↦ absurd (omega (arith, bit_at_above word 64 (u + t) small h, here)) ];
      here = here;
      none = λ k low high. bit_at-shr word u k low ∙ found.2 (k - u) (omega arith);
    }

-- ---- the word that the last number is in

pub clear_whole : (size : ℕ) (words : List ℕ) → length words ≡ words_for size → size % 64 ≡ 0 → is_clear_from size words ≡ true
clear_whole size words enough whole = clear_from size words (λ k behind.
    let past : length words ≤ k / 64 = omega arith in
    ap (λ w. bit_at w (k % 64) == 1) (get_or_past words (k / 64) 0 past) ∙ ap (λ n. n == 1) (bit_at-zero (k % 64)))

pub clear_since : (size : ℕ) (words : List ℕ) (last : ℕ) → length words ≡ words_for size → size % 64 ≢ 0 → get_or words (size / 64) 0 ≡ last → last / 2 ^ (size % 64) ≡ 0 → is_clear_from size words ≡ true
clear_since size words last enough part is none = clear_from size words (λ k behind. elim (cases_eq (k / 64) (size / 64)) [
  | inl same ↦
      ap (λ i. bit_at (get_or words i 0) (k % 64) == 1) same ∙ ap (λ w. bit_at w (k % 64) == 1) is
      ∙ ap (λ n. n == 1) (no_bit last (size % 64) (k % 64) none (omega arith))
  | inr differ ↦
      let past : length words ≤ k / 64 = omega arith in
      ap (λ w. bit_at w (k % 64) == 1) (get_or_past words (k / 64) 0 past) ∙ ap (λ n. n == 1) (bit_at-zero (k % 64))
])

unclear_since : (size : ℕ) (words : List ℕ) (last : ℕ) → last < 2 ^ 64 → get_or words (size / 64) 0 ≡ last → 0 < last / 2 ^ (size % 64) → is_clear_from size words ≡ false
unclear_since size words last small is some = false_from_ne_true (is_clear_from size words) (λ clear.
    let found = lowest last (size % 64) small some in
    let t : ℕ = trailing_zeros w64 (last / 2 ^ (size % 64)) in
    let k : ℕ = size + t in
    let q : k / 64 ≡ size / 64 = omega (arith, found.inside) in
    let r : k % 64 ≡ size % 64 + t = omega (arith, found.inside) in
    let has_it : has words k ≡ true =
    ap (λ i. bit_at (get_or words i 0) (k % 64) == 1) q ∙ ap (λ w. bit_at w (k % 64) == 1) is ∙ ap (λ i. bit_at last i == 1) r ∙ ap (λ n. n == 1) found.here in
    false≢true (sym (clear_at size words k clear (omega arith)) ∙ has_it))

pub clear_last : (size : ℕ) (words : List ℕ) (last : ℕ) → last < 2 ^ 64 → length words ≡ words_for size → size % 64 ≢ 0 → get_or words (size / 64) 0 ≡ last → is_clear_from size words ≡ eqb (last / 2 ^ (size % 64)) 0
clear_last size words last small enough part is = elim (cases_eq (last / 2 ^ (size % 64)) 0) [
  | inl none ↦ clear_since size words last enough part is none ∙ sym (eq-eqb (last / 2 ^ (size % 64)) 0 none)
  | inr some ↦ unclear_since size words last small is (omega arith) ∙ sym (ne_eqb (last / 2 ^ (size % 64)) 0 some)
]

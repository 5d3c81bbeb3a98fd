-- Sets by their words: number by number, as a whole, and counted.
use Rattle.std.proofs.Common.{◌≡◌, ◌≤◌, ◌<◌, ℕ, ◌+◌, ◌-◌, ◌*◌, ◌/◌, ◌%◌, ◌^◌, ◌==◌, Bool, true, false, not, cond, List, [], ◌∷◌, length, take, drop, get_or, set, replicate, refl, sym, ap, ◌∙◌, subst, arith, inl, inr, zero, suc}
use mathlib.Core.Logic.{◌≢◌}
use mathlib.Core.Bool.{true≢false, false≢true}
use Rattle.std.specs.Int.{bit_at}
use Rattle.std.specs.Int.RustNames.{count_ones}
use Rattle.std.specs.Simd.Lanes.{mask_l}
use Rattle.std.specs.List.{list_all}
use Rattle.std.proofs.lemmas.Bool.{cases_lt, cases_eq}
use Rattle.std.proofs.lemmas.Grind.{div_ceil_times}
use Rattle.std.proofs.lemmas.List.{get_or-take, get_or-drop, get_or_past, ext_get_or, length-take, length-take-le, length-set, get_or-set_same, get_or-set_other, take-append-drop, drop-set-lt, drop_more, drop_all, get_or-replicate, length-replicate, map-id}
use Rattle.std.proofs.lemmas.List.Sums.{sum_by-append, sum_by-cons, sum_by-set}
use Rattle.std.proofs.lemmas.Nat.Bits.{same_from_bits_below, bit_at-lt}
use Rattle.std.proofs.lemmas.Simd.{bit_mask_l, mask_l-lt, ones-mask_l}
use Rattle.std.proofs.Math.Seq.{take-set-lt}
use Rattle.seg_bits.specs.BitSets.{words_for, word_bits, bits_of, members, is_clear_from, member_count, numbers_from}
use Rattle.seg_bits.proofs.Bits.{has, length-word_bits, get_or-word_bits, length-bits_of, get_or-bits_of}

-- ---- the bits after the last number

none_at : (bs : List Bool) (k : ℕ) → list_all not bs ≡ true → get_or bs k false ≡ false
none_at [] k h = refl
none_at (true ∷ bs) k h = absurd (false≢true h)
none_at (false ∷ bs) zero h = refl
none_at (false ∷ bs) (suc k) h = none_at bs k h

none_anywhere : (bs : List Bool) → ((k : ℕ) → get_or bs k false ≡ false) → list_all not bs ≡ true
none_anywhere [] h = refl
none_anywhere (true ∷ bs) h = absurd (true≢false (h 0))
none_anywhere (false ∷ bs) h = none_anywhere bs (λ k. h (suc k))

pub clear_at : (size : ℕ) (words : List ℕ) (k : ℕ) → is_clear_from size words ≡ true → size ≤ k → has words k ≡ false
clear_at size words k clear behind =
    let at : size + (k - size) ≡ k = omega arith in
    sym (get_or-bits_of words k)
    ∙ ap (λ n. get_or (bits_of words) n false) (sym at)
    ∙ sym (get_or-drop size (bits_of words) (k - size) false)
    ∙ none_at (drop size (bits_of words)) (k - size) clear

pub clear_from : (size : ℕ) (words : List ℕ) → ((k : ℕ) → size ≤ k → has words k ≡ false) → is_clear_from size words ≡ true
clear_from size words none =
    none_anywhere (drop size (bits_of words)) (λ k. get_or-drop size (bits_of words) k false ∙ get_or-bits_of words (size + k) ∙ none (size + k) (omega arith))

-- ---- number by number

pub enough_words : (size : ℕ) (words : List ℕ) → length words ≡ words_for size → size ≤ length (bits_of words)
enough_words size words h = omega (arith, div_ceil_times size 64 (omega arith), length-bits_of words)

pub length-members : (size : ℕ) (words : List ℕ) → length words ≡ words_for size → length (members size words) ≡ size
length-members size words h = length-take-le size (bits_of words) (enough_words size words h)

pub get_or-members : (size : ℕ) (words : List ℕ) (k : ℕ) → is_clear_from size words ≡ true → get_or (members size words) k false ≡ has words k
get_or-members size words k clear = elim (cases_lt k size) [
  | inl below ↦ get_or-take size (bits_of words) k false below ∙ get_or-bits_of words k
  | inr above ↦
      let short : length (members size words) ≤ k = omega (arith, length-take size (bits_of words)) in
      get_or_past (members size words) k false short ∙ sym (clear_at size words k clear above)
]

-- ---- all of the numbers, or none

pub all_or_none : (size : ℕ) (words : List ℕ) (b : Bool) → length words ≡ words_for size → ((k : ℕ) → k < size → has words k ≡ b) → members size words ≡ replicate size b
all_or_none size words b enough each =
    let long : length (members size words) ≡ size = length-members size words enough in
    ext_get_or false (members size words) (replicate size b) (long ∙ sym (length-replicate size b)) (λ k h.
    let below : k < size = omega arith in
    get_or-take size (bits_of words) k false below ∙ get_or-bits_of words k ∙ each k below ∙ sym (get_or-replicate size k b false below))

pub count-replicate-false : (n : ℕ) → member_count (replicate n false) ≡ 0
count-replicate-false zero = refl
count-replicate-false (suc n) = omega (arith, sum_by-cons (λ b. cond b 1 0) false (replicate n false), count-replicate-false n)

-- ---- a word changed in one bit

-- a word that differs from another in one bit at most, which is b
pub record HasChanged (old new i : ℕ) (b : Bool) : Type 0 where
  pub same : (bit_at new i == 1) ≡ b
  pub others : (k : ℕ) → k < 64 → k ≢ i → bit_at new k ≡ bit_at old k

pub bits_of-set : (words : List ℕ) (n new : ℕ) (b : Bool) → n < 64 * length words → HasChanged (get_or words (n / 64) 0) new (n % 64) b → bits_of (set words (n / 64) new) ≡ set (bits_of words) n b
bits_of-set words n new b within changed =
    let q : n / 64 < length words = omega arith in
    let long : length (bits_of (set words (n / 64) new)) ≡ length (set (bits_of words) n b) =
    length-bits_of (set words (n / 64) new) ∙ ap (λ m. 64 * m) (length-set words (n / 64) new) ∙ sym (length-bits_of words) ∙ sym (length-set (bits_of words) n b) in
    let inside : n < length (bits_of words) = omega (arith, length-bits_of words) in
    ext_get_or false (bits_of (set words (n / 64) new)) (set (bits_of words) n b) long (λ k _.
    get_or-bits_of (set words (n / 64) new) k ∙ elim (cases_eq k n) [
      | inl e ↦
          ap (has (set words (n / 64) new)) e
          ∙ ap (λ w. bit_at w (n % 64) == 1) (get_or-set_same words (n / 64) new 0 q)
          ∙ changed.same ∙ sym (get_or-set_same (bits_of words) n b false inside) ∙ ap (λ m. get_or (set (bits_of words) n b) m false) (sym e)
      | inr differ ↦ elsewhere k differ ∙ sym (get_or-bits_of words k) ∙ sym (get_or-set_other (bits_of words) n k b false differ)
    ])
  where
    elsewhere : (k : ℕ) → (k ≡ n → ⊥) → has (set words (n / 64) new) k ≡ has words k
    elsewhere k differ = elim (cases_eq (k / 64) (n / 64)) [
      | inl one ↦
          let apart : k % 64 ≢ n % 64 = λ e. differ (omega arith) in
          let q : n / 64 < length words = omega arith in
          ap (λ i. bit_at (get_or (set words (n / 64) new) i 0) (k % 64) == 1) one
          ∙ ap (λ w. bit_at w (k % 64) == 1) (get_or-set_same words (n / 64) new 0 q)
          ∙ ap (λ m. m == 1) (changed.others (k % 64) (omega arith) apart)
          ∙ ap (λ i. bit_at (get_or words i 0) (k % 64) == 1) (sym one)
      | inr two ↦ ap (λ w. bit_at w (k % 64) == 1) (get_or-set_other words (n / 64) (k / 64) new 0 two)
    ]

pub members-set : (size : ℕ) (words : List ℕ) (n new : ℕ) (b : Bool) → n < size → n < 64 * length words → HasChanged (get_or words (n / 64) 0) new (n % 64) b → members size (set words (n / 64) new) ≡ set (members size words) n b
members-set size words n new b below within changed =
    ap (take size) (bits_of-set words n new b within changed) ∙ take-set-lt size (bits_of words) n b below

pub clear-set : (size : ℕ) (words : List ℕ) (n new : ℕ) (b : Bool) → n < size → n < 64 * length words → HasChanged (get_or words (n / 64) 0) new (n % 64) b → is_clear_from size words ≡ true → is_clear_from size (set words (n / 64) new) ≡ true
clear-set size words n new b below within changed clear =
    ap (λ bs. list_all not (drop size bs)) (bits_of-set words n new b within changed) ∙ ap (list_all not) (drop-set-lt size (bits_of words) n b below) ∙ clear

pub count-set-true : (marks : List Bool) (n : ℕ) → n < length marks → get_or marks n false ≡ false → member_count (set marks n true) ≡ member_count marks + 1
count-set-true marks n h e = omega (arith, sum_by-set (λ b. cond b 1 0) marks n true false h, ap {B = ℕ} (λ b. cond b 1 0) e)

pub count-set-false : (marks : List Bool) (n : ℕ) → n < length marks → get_or marks n false ≡ true → member_count (set marks n false) + 1 ≡ member_count marks
count-set-false marks n h e = omega (arith, sum_by-set (λ b. cond b 1 0) marks n false false h, ap {B = ℕ} (λ b. cond b 1 0) e)

-- ---- counted word by word

bit_of : (n i : ℕ) → cond (bit_at n i == 1) 1 0 ≡ bit_at n i
bit_of n i = by (bit_at n i) (bit_at-lt n i)
  where
    by : (m : ℕ) → m < 2 → cond (m == 1) 1 0 ≡ m
    by zero h = refl
    by (suc zero) h = refl
    by (suc (suc m)) h = absurd (omega arith)

word_is : (word : ℕ) → word < 2 ^ 64 → mask_l (word_bits word) ≡ word
word_is word small =
    let below : mask_l (word_bits word) < 2 ^ 64 = subst (λ n. mask_l (word_bits word) < 2 ^ n) (length-word_bits word) (mask_l-lt (word_bits word)) in
    same_from_bits_below 64 (mask_l (word_bits word)) word below small (λ i h.
    bit_mask_l (word_bits word) i ∙ ap (λ b. cond b 1 0) (get_or-word_bits word i h) ∙ bit_of word i)

pub count-word_bits : (word : ℕ) → word < 2 ^ 64 → count_ones word ≡ member_count (word_bits word)
count-word_bits word small =
    ap count_ones (sym (word_is word small) ∙ ap mask_l (sym (map-id (word_bits word)))) ∙ ones-mask_l (λ b. b) (word_bits word)

none_counted : (bs : List Bool) → list_all not bs ≡ true → member_count bs ≡ 0
none_counted [] h = refl
none_counted (true ∷ bs) h = absurd (false≢true h)
none_counted (false ∷ bs) h = omega (arith, sum_by-cons (λ b. cond b 1 0) false bs, none_counted bs h)

-- the bits after the last number count nothing
pub count-members : (size : ℕ) (words : List ℕ) → is_clear_from size words ≡ true → member_count (members size words) ≡ member_count (bits_of words)
count-members size words clear =
    omega (arith, ap member_count (take-append-drop size (bits_of words)), sum_by-append (λ b. cond b 1 0) (take size (bits_of words)) (drop size (bits_of words)), none_counted (drop size (bits_of words)) clear)

-- ---- the numbers in order

-- a number that isn't in is passed over
pub skip_one : (marks : List Bool) (at : ℕ) → get_or marks at false ≡ false → numbers_from at (drop at marks) ≡ numbers_from (at + 1) (drop (at + 1) marks)
skip_one marks at none = elim (cases_lt at (length marks)) [
  | inl inside ↦ ap (numbers_from at) (drop_more marks at false inside) ∙ ap (λ b. numbers_from at (b ∷ drop (at + 1) marks)) none
  | inr past ↦ ap (numbers_from at) (drop_all at marks past) ∙ sym (ap (numbers_from (at + 1)) (drop_all (at + 1) marks (omega arith)))
]

-- and so are several
pub skip : (marks : List Bool) (at n : ℕ) → ((k : ℕ) → at ≤ k → k < at + n → get_or marks k false ≡ false) → numbers_from at (drop at marks) ≡ numbers_from (at + n) (drop (at + n) marks)
skip marks at zero none =
    let e : at ≡ at + 0 = omega arith in
    ap (λ k. numbers_from k (drop k marks)) e
skip marks at (suc n) none =
    let e : at + 1 + n ≡ at + suc n = omega arith in
    skip_one marks at (none at (omega arith) (omega arith))
    ∙ skip marks (at + 1) n (λ k low high. none k (omega arith) (omega arith))
    ∙ ap (λ k. numbers_from k (drop k marks)) e

-- one that is in comes next
pub take_one : (marks : List Bool) (at : ℕ) → get_or marks at false ≡ true → numbers_from at (drop at marks) ≡ at ∷ numbers_from (at + 1) (drop (at + 1) marks)
take_one marks at here = elim (cases_lt at (length marks)) [
  | inl inside ↦ ap (numbers_from at) (drop_more marks at false inside) ∙ ap (λ b. numbers_from at (b ∷ drop (at + 1) marks)) here
  | inr past ↦ absurd (false≢true (sym (get_or_past marks at false past) ∙ here))
]

-- after the last number nothing comes
pub no_more : (marks : List Bool) (at : ℕ) → length marks ≤ at → numbers_from at (drop at marks) ≡ []
no_more marks at past = ap (numbers_from at) (drop_all at marks past)

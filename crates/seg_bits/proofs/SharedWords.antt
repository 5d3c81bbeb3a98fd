-- What two sets share, word by word.
use Rattle.std.proofs.Common.{◌≡◌, ◌<◌, ℕ, zero, suc, ◌+◌, ◌/◌, ◌%◌, ◌==◌, ◌&&◌, min, Bool, true, false, List, [], ◌∷◌, length, get_or, map, refl, sym, ap, ◌∙◌, subst, arith, inl, inr, ◌++◌, ◌^◌}
use Rattle.std.specs.Int.{bit_at, w32, w64, to_le_bytes}
use Rattle.std.specs.Int.Bits.{bit_and}
use Rattle.std.specs.List.{range_with_len, flat_map}
use Rattle.std.proofs.lemmas.Grind.{flat_map-append}
use Rattle.std.proofs.lemmas.Bool.{cases_lt, and_left}
use Rattle.std.proofs.lemmas.List.{ext_get_or, get_or_past, append_assoc, append-nil}
use Rattle.std.proofs.lemmas.List.FromFn.{get_or-map-range_with_len, length-map-range_with_len, map-range_with_len_more}
use Rattle.std.proofs.lemmas.Nat.Bits.{bit_at_and, bit_at-lt, bit_at-zero}
use Rattle.std.proofs.lemmas.Nat.{and_le_l}
use Rattle.seg_common.specs.LittleEndian.{u32_at}
use Rattle.seg_common.specs.Marks.{both_marked}
use Rattle.seg_bits.specs.BitSets.{words_for, members, is_clear_from, words_of, is_bit_set, set_in}
use Rattle.seg_bits.proofs.Bits.{has}
use Rattle.seg_bits.proofs.Members.{clear_at, clear_from, length-members, get_or-members}
use Rattle.seg_bits.proofs.SetBytes.{length-words_of, set_clear}
use Rattle.seg_bits.proofs.WrittenSets.{spelled, size_at, set_back, is_set_back}

pub length-both_marked : (as' bs : List Bool) → length (both_marked as' bs) ≡ min (length as') (length bs)
length-both_marked [] bs = omega arith
length-both_marked (a ∷ as') [] = omega arith
length-both_marked (a ∷ as') (b ∷ bs) = omega (arith, length-both_marked as' bs)

pub get_or-both_marked : (as' bs : List Bool) (k : ℕ) → get_or (both_marked as' bs) k false ≡ (get_or as' k false && get_or bs k false)
get_or-both_marked [] bs k = refl
get_or-both_marked (a ∷ as') [] zero = by a
  where
    by : (a : Bool) → false ≡ (a && false)
    by true = refl
    by false = refl
get_or-both_marked (a ∷ as') [] (suc k) = by (get_or as' k false)
  where
    by : (a : Bool) → false ≡ (a && false)
    by true = refl
    by false = refl
get_or-both_marked (a ∷ as') (b ∷ bs) zero = refl
get_or-both_marked (a ∷ as') (b ∷ bs) (suc k) = get_or-both_marked as' bs k

-- a bit of both
both_bits : (a b i : ℕ) → (bit_at (bit_and a b) i == 1) ≡ ((bit_at a i == 1) && (bit_at b i == 1))
both_bits a b i = ap (λ n. n == 1) (bit_at_and a b i) ∙ by (bit_at a i) (bit_at b i) (bit_at-lt a i) (bit_at-lt b i)
  where
    by : (m n : ℕ) → m < 2 → n < 2 → (min m n == 1) ≡ ((m == 1) && (n == 1))
    by zero zero h k = refl
    by zero (suc zero) h k = refl
    by (suc zero) zero h k = refl
    by (suc zero) (suc zero) h k = refl
    by (suc (suc m)) n h k = absurd (omega arith)
    by m (suc (suc n)) h k = absurd (omega arith)

-- the words of both
abbrev pub shared_word : List ℕ → List ℕ → ℕ → ℕ
shared_word left right i = bit_and (get_or left i 0) (get_or right i 0)

abbrev pub shared : List ℕ → List ℕ → ℕ → List ℕ
shared left right count = map (shared_word left right) (range_with_len 0 count)

module _ (size : ℕ) (left right : List ℕ) (left_enough : length left ≡ words_for size) (right_enough : length right ≡ words_for size) where
  pub shared_enough : length (shared left right (words_for size)) ≡ words_for size
  shared_enough = length-map-range_with_len (shared_word left right) 0 (words_for size)

  has_both : (k : ℕ) → has (shared left right (words_for size)) k ≡ (has left k && has right k)
  has_both k = elim (cases_lt (k / 64) (words_for size)) [
    | inl below ↦
        ap (λ w. bit_at w (k % 64) == 1) (get_or-map-range_with_len (shared_word left right) 0 (words_for size) (k / 64) (k / 64) 0 below (omega arith))
        ∙ both_bits (get_or left (k / 64) 0) (get_or right (k / 64) 0) (k % 64)
    | inr past ↦
        ap (λ w. bit_at w (k % 64) == 1) (get_or_past (shared left right (words_for size)) (k / 64) 0 (omega (arith, shared_enough)))
        ∙ ap (λ n. n == 1) (bit_at-zero (k % 64))
        ∙ sym (and_left (has left k) (has right k) (ap (λ w. bit_at w (k % 64) == 1) (get_or_past left (k / 64) 0 (omega arith)) ∙ ap (λ n. n == 1) (bit_at-zero (k % 64))))
  ]

  pub shared_clear : is_clear_from size left ≡ true → is_clear_from size (shared left right (words_for size)) ≡ true
  shared_clear clear = clear_from size (shared left right (words_for size)) (λ k behind. has_both k ∙ and_left (has left k) (has right k) (clear_at size left k clear behind))

  pub shared_is : is_clear_from size left ≡ true → is_clear_from size right ≡ true → members size (shared left right (words_for size)) ≡ both_marked (members size left) (members size right)
  shared_is left_clear right_clear =
      ext_get_or false (members size (shared left right (words_for size))) (both_marked (members size left) (members size right))
      (omega (arith, length-members size (shared left right (words_for size)) shared_enough, length-both_marked (members size left) (members size right), length-members size left left_enough, length-members size right right_enough))
      (λ k _.
      get_or-members size (shared left right (words_for size)) k (shared_clear left_clear) ∙ has_both k
      ∙ sym (get_or-both_marked (members size left) (members size right) k
      ∙ ap (λ b. b && get_or (members size right) k false) (get_or-members size left k left_clear)
      ∙ ap (λ b. has left k && b) (get_or-members size right k right_clear)))

-- ---- in bytes

-- one more word is there
pub spelled_more : (size : ℕ) (left right : List ℕ) (i word : ℕ) (bytes new : List ℕ) → bytes ≡ spelled size (shared left right i) → word ≡ shared_word left right i → new ≡ bytes ++ to_le_bytes w64 word → new ≡ spelled size (shared left right (i + 1))
spelled_more size left right i word bytes new so_far is grown =
    let some : List ℕ = flat_map (to_le_bytes w64) (shared left right i) in
    let next : List ℕ = to_le_bytes w64 (shared_word left right i) in
    let more : flat_map (to_le_bytes w64) (shared left right (i + 1)) ≡ some ++ next =
    ap (flat_map (to_le_bytes w64)) (map-range_with_len_more (shared_word left right) 0 i i (omega arith))
    ∙ flat_map-append (to_le_bytes w64) (shared left right i) (shared_word left right i ∷ [])
    ∙ ap (λ bs. some ++ bs) (append-nil next) in
    grown ∙ ap (λ bs. bs ++ to_le_bytes w64 word) so_far ∙ ap (λ n. spelled size (shared left right i) ++ to_le_bytes w64 n) is
    ∙ append_assoc (to_le_bytes w32 size) some next ∙ ap (λ bs. to_le_bytes w32 size ++ bs) (sym more)

pub fit_more : (left right : List ℕ) (i a b : ℕ) → ((k : ℕ) → k < i → shared_word left right k < 2 ^ 64) → a ≡ get_or left i 0 → a < 2 ^ 64 → (k : ℕ) → k < i + 1 → shared_word left right k < 2 ^ 64
fit_more left right i a b below is small k h = elim (cases_lt k i) [
  | inl before ↦ below k before
  | inr last ↦
      let e : k ≡ i = omega arith in
      subst (λ n. shared_word left right n < 2 ^ 64) (sym e) (omega (arith, and_le_l (get_or left i 0) (get_or right i 0)))
]

-- what the bytes of all words are
pub record AreShared (size : ℕ) (left right bytes : List ℕ) : Type 0 where
  pub same_size : size ≡ u32_at bytes 0
  pub is_set : is_bit_set bytes ≡ true
  pub has_both : set_in bytes ≡ both_marked (set_in left) (set_in right)

pub are_shared : (size : ℕ) (left right bytes : List ℕ) (n : ℕ) → size ≡ u32_at left 0 → size ≡ u32_at right 0 → is_bit_set left ≡ true → is_bit_set right ≡ true → size < 2 ^ 32 → n ≡ words_for size → bytes ≡ spelled size (shared (words_of left) (words_of right) n) → ((k : ℕ) → k < n → shared_word (words_of left) (words_of right) k < 2 ^ 64) → AreShared size left right bytes
are_shared size left right bytes n left_size right_size left_set right_set small all is fit =
    let both : List ℕ = shared (words_of left) (words_of right) (words_for size) in
    let left_enough : length (words_of left) ≡ words_for size = length-words_of left ∙ ap words_for (sym left_size) in
    let right_enough : length (words_of right) ≡ words_for size = length-words_of right ∙ ap words_for (sym right_size) in
    let left_clear : is_clear_from size (words_of left) ≡ true = ap (λ m. is_clear_from m (words_of left)) left_size ∙ set_clear left left_set in
    let right_clear : is_clear_from size (words_of right) ≡ true = ap (λ m. is_clear_from m (words_of right)) right_size ∙ set_clear right right_set in
    let enough : length both ≡ words_for size = shared_enough size (words_of left) (words_of right) left_enough right_enough in
    let clear : is_clear_from size both ≡ true = shared_clear size (words_of left) (words_of right) left_enough right_enough left_clear in
    let fits = all_fit (words_of left) (words_of right) (words_for size) (λ k h. fit k (omega arith)) in
    let same : bytes ≡ spelled size both = is ∙ ap (λ m. spelled size (shared (words_of left) (words_of right) m)) all in
    record {
      same_size = sym (ap (λ bs. u32_at bs 0) same ∙ size_at size both small);
      is_set = ap is_bit_set same ∙ is_set_back size both small enough fits clear;
      has_both =
          ap set_in same ∙ set_back size both small enough fits ∙ shared_is size (words_of left) (words_of right) left_enough right_enough left_clear right_clear
          ∙ ap (λ m. both_marked (members m (words_of left)) (members size (words_of right))) left_size
          ∙ ap (λ m. both_marked (set_in left) (members m (words_of right))) right_size;
    }
  where
    all_fit : (l r : List ℕ) (count : ℕ) → ((k : ℕ) → k < count → shared_word l r k < 2 ^ 64) → (k : ℕ) → get_or (shared l r count) k 0 < 2 ^ 64
    all_fit l r count h k = elim (cases_lt k count) [
      | inl below ↦ subst (λ m. m < 2 ^ 64) (sym (get_or-map-range_with_len (shared_word l r) 0 count k k 0 below (omega arith))) (h k below)
      | inr past ↦ subst (λ m. m < 2 ^ 64) (sym (get_or_past (shared l r count) k 0 (omega (arith, length-map-range_with_len (shared_word l r) 0 count)))) (omega arith)
    ]

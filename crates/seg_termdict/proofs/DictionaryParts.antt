-- The parts of a dictionary, one after the other, are a dictionary.
use Rattle.std.proofs.Common.{◌≡◌, ℕ, ◌+◌, ◌*◌, ◌-◌, ◌^◌, ◌<◌, ◌≤◌, List, [], ◌++◌, length, refl, sym, ap, ◌∙◌, arith, slice_range}
use Rattle.std.specs.Int.{w32, w64, to_le_bytes}
use Rattle.std.proofs.lemmas.List.{length-append}
use Rattle.seg_common.specs.LittleEndian.{u32_at, u64_at}
use Rattle.seg_common.proofs.Bytes.{u32_at-front, u64_at-front, u32_at-end, u64_at-end}
use Rattle.seg_common.proofs.Lists.{range-front, range-end}
use Rattle.seg_termdict.specs.Dictionary.{AreKeys, AreInfos, terms_in, ends_of, keys_of, infos_of, count_of, IsDictionary, terms_of}

-- the parts: a number of keys, the table of their ends, their bytes, a number of infos, these, and a length
pub record AreParts (ends keys infos : List ℕ) (n store : ℕ) : Type 0 where
  pub small : store < 2 ^ 64
  pub store_is : store ≡ 24 + 20 * n
  pub ends_length : length ends ≡ 8 * n
  pub infos_length : length infos ≡ 16 + 20 * n
  pub keys_are : AreKeys ends keys n
  pub infos_are : AreInfos infos n

module _ (ends keys infos : List ℕ) (n store : ℕ) (p : AreParts ends keys infos n store) where
  f0 : List ℕ
  f0 = to_le_bytes w64 n

  f1 : List ℕ
  f1 = f0 ++ ends

  f2 : List ℕ
  f2 = f1 ++ keys

  f3 : List ℕ
  f3 = f2 ++ to_le_bytes w64 n

  f4 : List ℕ
  f4 = f3 ++ infos

  f5 : List ℕ
  f5 = f4 ++ to_le_bytes w64 store

  f6 : List ℕ
  f6 = f5 ++ to_le_bytes w32 1

  pub all : List ℕ
  all = f6 ++ to_le_bytes w32 3

  l0 : length f0 ≡ 8
  unfolding f0
  l0 = refl

  l1 : length f1 ≡ 8 + 8 * n
  unfolding f1
  l1 = omega (arith, length-append f0 ends, l0, p.ends_length)

  l2 : length f2 ≡ 8 + 8 * n + length keys
  unfolding f2
  l2 = omega (arith, length-append f1 keys, l1)

  l3 : length f3 ≡ 16 + 8 * n + length keys
  unfolding f3
  l3 = omega (arith, length-append f2 (to_le_bytes w64 n), l2)

  l4 : length f4 ≡ 32 + 28 * n + length keys
  unfolding f4
  l4 = omega (arith, length-append f3 infos, l3, p.infos_length)

  l5 : length f5 ≡ 40 + 28 * n + length keys
  unfolding f5
  l5 = omega (arith, length-append f4 (to_le_bytes w64 store), l4)

  l6 : length f6 ≡ 44 + 28 * n + length keys
  unfolding f6
  l6 = omega (arith, length-append f5 (to_le_bytes w32 1), l5)

  pub all_length : length all ≡ 48 + 28 * n + length keys
  unfolding all
  all_length = omega (arith, length-append f6 (to_le_bytes w32 3), l6)

  -- numbers and ranges that are before the last three numbers
  number_before : (at : ℕ) → at + 8 ≤ length f4 → u64_at all at ≡ u64_at f4 at
  unfolding all f6 f5
  number_before at h = u64_at-front f6 (to_le_bytes w32 3) at (omega (arith, l6, l4)) ∙ u64_at-front f5 (to_le_bytes w32 1) at (omega (arith, l5, l4)) ∙ u64_at-front f4 (to_le_bytes w64 store) at h

  range_before : (s e : ℕ) → s ≤ e → e ≤ length f4 → slice_range all s e ≡ slice_range f4 s e
  unfolding all f6 f5
  range_before s e se h = range-front f6 (to_le_bytes w32 3) s e se (omega (arith, l6, l4)) ∙ range-front f5 (to_le_bytes w32 1) s e se (omega (arith, l5, l4)) ∙ range-front f4 (to_le_bytes w64 store) s e se h

  -- and before the infos
  number_in : (at : ℕ) → at + 8 ≤ length f3 → u64_at all at ≡ u64_at f3 at
  unfolding f4
  number_in at h = number_before at (omega (arith, l4, l3)) ∙ u64_at-front f3 infos at h

  range_in : (s e : ℕ) → s ≤ e → e ≤ length f2 → slice_range all s e ≡ slice_range f2 s e
  unfolding f4 f3
  range_in s e se h = range_before s e se (omega (arith, l4, l2)) ∙ range-front f3 infos s e se (omega (arith, l3, l2)) ∙ range-front f2 (to_le_bytes w64 n) s e se h

  pub counted : count_of all ≡ n
  unfolding f3 f2 f1 f0
  counted = number_in 0 (omega (arith, l3)) ∙ u64_at-front f2 (to_le_bytes w64 n) 0 (omega (arith, l2)) ∙ u64_at-front f1 keys 0 (omega (arith, l1)) ∙ u64_at-front f0 ends 0 (omega (arith, l0)) ∙ u64_at-end [] n 0 (omega (arith, p.small, p.store_is)) refl

  ends_are : ends_of all ≡ ends
  unfolding ends_of f2 f1
  ends_are = rw counted (range_in 8 (8 + 8 * n) (omega arith) (omega (arith, l2)) ∙ range-front f1 keys 8 (8 + 8 * n) (omega arith) (omega (arith, l1)) ∙ range-end f0 ends 8 (8 + 8 * n) l0 (omega (arith, p.ends_length)))

  keys_at : length all - (40 + 20 * n) ≡ 8 + 8 * n + length keys
  keys_at = omega (arith, all_length)

  keys_are : keys_of all ≡ keys
  unfolding keys_of f2
  keys_are = rw (counted, keys_at) (range_in (8 + 8 * n) (8 + 8 * n + length keys) (omega arith) (omega (arith, l2)) ∙ range-end f1 keys (8 + 8 * n) (8 + 8 * n + length keys) l1 (omega arith))

  infos_at : length all - (32 + 20 * n) ≡ 16 + 8 * n + length keys
  infos_at = omega (arith, all_length)

  infos_to : length all - 16 ≡ 32 + 28 * n + length keys
  infos_to = omega (arith, all_length)

  infos_are : infos_of all ≡ infos
  unfolding infos_of f4
  infos_are = rw (counted, infos_at, infos_to) (range_before (16 + 8 * n + length keys) (32 + 28 * n + length keys) (omega arith) (omega (arith, l4)) ∙ range-end f3 infos (16 + 8 * n + length keys) (32 + 28 * n + length keys) l3 (omega (arith, p.infos_length)))

  number : u64_at all (length all - (40 + 20 * n)) ≡ n
  unfolding f3
  number = rw keys_at (number_in (8 + 8 * n + length keys) (omega (arith, l3)) ∙ u64_at-end f2 n (8 + 8 * n + length keys) (omega (arith, p.small, p.store_is)) l2)

  store_length : u64_at all (length all - 16) ≡ 24 + 20 * n
  unfolding all f6 f5
  store_length = rw infos_to (u64_at-front f6 (to_le_bytes w32 3) (32 + 28 * n + length keys) (omega (arith, l6)) ∙ u64_at-front f5 (to_le_bytes w32 1) (32 + 28 * n + length keys) (omega (arith, l5)) ∙ u64_at-end f4 store (32 + 28 * n + length keys) p.small l4 ∙ p.store_is)

  version : u32_at all (length all - 8) ≡ 1
  unfolding all f6
  version = u32_at-front f6 (to_le_bytes w32 3) (length all - 8) (omega (arith, l6, all_length)) ∙ u32_at-end f5 1 (length all - 8) (omega arith) (omega (arith, l5, all_length))

  kind : u32_at all (length all - 4) ≡ 3
  unfolding all
  kind = u32_at-end f6 3 (length all - 4) (omega arith) (omega (arith, l6, all_length))

  pub is_dictionary : IsDictionary all
  is_dictionary = record {
    room = rw counted (omega (arith, all_length));
    kind = kind;
    version = version;
    store_length = rw counted store_length;
    number = rw counted number;
    keys = rw (counted, ends_are, keys_are) p.keys_are;
    infos = rw (counted, infos_are) p.infos_are;
  }

  pub terms_are : terms_of all ≡ terms_in ends keys infos n
  unfolding terms_of
  terms_are = rw (counted, ends_are, keys_are, infos_are) refl

-- what the code appended, step by step
pub record AreSteps (ends keys infos : List ℕ) (n m store : ℕ) (b0 b1 b2 b3 b4 b5 b6 bytes : List ℕ) : Type 0 where
  pub key_count : b0 ≡ [] ++ to_le_bytes w64 n
  pub ends_are : b1 ≡ b0 ++ ends
  pub keys_are : b2 ≡ b1 ++ keys
  pub info_count : b3 ≡ b2 ++ to_le_bytes w64 m
  pub infos_are : b4 ≡ b3 ++ infos
  pub store_length : b5 ≡ b4 ++ to_le_bytes w64 store
  pub version : b6 ≡ b5 ++ to_le_bytes w32 1
  pub kind : bytes ≡ b6 ++ to_le_bytes w32 3

pub all_from : (ends keys infos : List ℕ) (n m store : ℕ) (p : AreParts ends keys infos n store) (b0 b1 b2 b3 b4 b5 b6 bytes : List ℕ) → n ≡ m → AreSteps ends keys infos n m store b0 b1 b2 b3 b4 b5 b6 bytes → bytes ≡ all ends keys infos n store p
unfolding all f6 f5 f4 f3 f2 f1 f0
all_from ends keys infos n m store p b0 b1 b2 b3 b4 b5 b6 bytes same s =
    let e1 : b1 ≡ to_le_bytes w64 n ++ ends = s.ends_are ∙ ap (λ (l : List ℕ). l ++ ends) s.key_count in
    let e3 : b3 ≡ ((to_le_bytes w64 n ++ ends) ++ keys) ++ to_le_bytes w64 n = s.info_count ∙ ap (λ (i : ℕ). b2 ++ to_le_bytes w64 i) (sym same) ∙ ap (λ (l : List ℕ). l ++ to_le_bytes w64 n) (s.keys_are ∙ ap (λ (l : List ℕ). l ++ keys) e1) in
    let e5 : b5 ≡ ((((to_le_bytes w64 n ++ ends) ++ keys) ++ to_le_bytes w64 n) ++ infos) ++ to_le_bytes w64 store = s.store_length ∙ ap (λ (l : List ℕ). l ++ to_le_bytes w64 store) (s.infos_are ∙ ap (λ (l : List ℕ). l ++ infos) e3) in
    s.kind ∙ ap (λ (l : List ℕ). l ++ to_le_bytes w32 3) (s.version ∙ ap (λ (l : List ℕ). l ++ to_le_bytes w32 1) e5)

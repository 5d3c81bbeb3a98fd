-- The keys of a dictionary, and one more key.
use Rattle.std.proofs.Common.{◌≡◌, ℕ, zero, suc, ◌+◌, ◌*◌, ◌-◌, ◌^◌, ◌<◌, ◌≤◌, List, ◌++◌, length, drop, refl, sym, ap, ◌∙◌, arith, inl, inr, add-one, slice_range}
use Rattle.std.specs.Int.{w64, to_le_bytes}
use Rattle.std.specs.Ordering.{nat_cmp}
use Rattle.std.specs.Cmp.Lexicographic.{slice_cmp}
use Rattle.std.specs.declared.cmp.Ordering.TheVariants.{Less}
use Rattle.std.proofs.lemmas.Bool.{cases_lt}
use Rattle.std.proofs.lemmas.List.{length-append, length-drop, take_all}
use Rattle.seg_common.specs.LittleEndian.{u64_at}
use Rattle.seg_common.proofs.Bytes.{u64_at-front, u64_at-end}
use Rattle.seg_common.proofs.Lists.{range-front, range-end}
use Rattle.seg_termdict.specs.Dictionary.{key_start, key_of, AreKeys}

pub key_start-next : (ends : List ℕ) (i : ℕ) → key_start ends (i + 1) ≡ u64_at ends (8 * i)
unfolding key_start
key_start-next ends i = rw (add-one i) refl

pub key_start-first : (ends : List ℕ) → key_start ends 0 ≡ 0
unfolding key_start
key_start-first ends = refl

-- starts never fall
pub start_mono : (ends keys : List ℕ) (count : ℕ) → AreKeys ends keys count → (j k : ℕ) → j + k ≤ count → key_start ends j ≤ key_start ends (j + k)
start_mono ends keys count are j zero h = let e : j + 0 ≡ j = omega arith in rw e (omega arith)
start_mono ends keys count are j (suc k) h =
    let e : j + suc k ≡ j + k + 1 = omega arith in
    let one : key_start ends j ≤ key_start ends (j + k) = start_mono ends keys count are j k (omega arith) in
    let two : key_start ends (j + k) ≤ key_start ends (j + k + 1) = are.rise (j + k) (omega arith) in
    rw e (omega (arith, one, two))

pub start_within : (ends keys : List ℕ) (count i : ℕ) → AreKeys ends keys count → i ≤ count → key_start ends i ≤ length keys
start_within ends keys count i are h =
    let e : i + (count - i) ≡ count = omega arith in
    let m : key_start ends i ≤ key_start ends (i + (count - i)) = start_mono ends keys count are i (count - i) (omega arith) in
    omega (arith, m, ap (key_start ends) e, are.fill)

-- the last key is the end of the bytes
pub last_key : (ends keys : List ℕ) (count : ℕ) → AreKeys ends keys count → 0 < count → drop (key_start ends (count - 1)) keys ≡ key_of ends keys (count - 1)
unfolding key_of
last_key ends keys count are h =
    let s = key_start ends (count - 1) in
    let e : count - 1 + 1 ≡ count = omega arith in
    let fill : key_start ends (count - 1 + 1) ≡ length keys = ap (key_start ends) e ∙ are.fill in
    sym (take_all (key_start ends (count - 1 + 1) - s) (drop s keys) (omega (arith, fill, length-drop s keys)))

-- ---- a longer table, of longer bytes

key_start-front : (ends more : List ℕ) (count i : ℕ) → length ends ≡ 8 * count → i ≤ count → key_start (ends ++ more) i ≡ key_start ends i
unfolding key_start
key_start-front ends more count zero len h = refl
key_start-front ends more count (suc i) len h = u64_at-front ends more (8 * i) (omega arith)

pub key_of-front : (ends more keys others : List ℕ) (count i : ℕ) → AreKeys ends keys count → length ends ≡ 8 * count → i < count → key_of (ends ++ more) (keys ++ others) i ≡ key_of ends keys i
unfolding key_of
key_of-front ends more keys others count i are len h =
    rw (key_start-front ends more count i len (omega arith), key_start-front ends more count (i + 1) len (omega arith)) (range-front keys others (key_start ends i) (key_start ends (i + 1)) (are.rise i h) (start_within ends keys count (i + 1) are (omega arith)))

-- one more key, and where it ends
module _ (ends keys key : List ℕ) (count end : ℕ) (are : AreKeys ends keys count) (len : length ends ≡ 8 * count) (at : length (keys ++ key) ≡ end) (small : end < 2 ^ 64) where
  pub start_before : key_start (ends ++ to_le_bytes w64 end) count ≡ length keys
  start_before = key_start-front ends (to_le_bytes w64 end) count count len (omega arith) ∙ are.fill

  pub end_after : key_start (ends ++ to_le_bytes w64 end) (count + 1) ≡ end
  end_after = key_start-next (ends ++ to_le_bytes w64 end) count ∙ u64_at-end ends end (8 * count) small len

  pub key_after : key_of (ends ++ to_le_bytes w64 end) (keys ++ key) count ≡ key
  unfolding key_of
  key_after = rw (start_before, end_after) (range-end keys key (length keys) end refl (omega (arith, length-append keys key)))

  pub keys_after : (0 < count → slice_cmp nat_cmp (key_of ends keys (count - 1)) key ≡ Less) → AreKeys (ends ++ to_le_bytes w64 end) (keys ++ key) (count + 1)
  keys_after above =
      let more = to_le_bytes w64 end in
      record {
        rise = λ i h. elim (cases_lt i count) [
          | inl lt ↦ rw (key_start-front ends more count i len (omega arith), key_start-front ends more count (i + 1) len (omega arith)) (are.rise i lt)
          | inr le ↦ let e : i ≡ count = omega arith in rw (e, start_before, end_after) (omega (arith, length-append keys key))
        ];
        fill = end_after ∙ sym at;
        ascend = λ i h. elim (cases_lt (i + 1) count) [
          | inl lt ↦ rw (key_of-front ends more keys key count i are len (omega arith), key_of-front ends more keys key count (i + 1) are len lt) (are.ascend i lt)
          | inr le ↦
              let e : i + 1 ≡ count = omega arith in
              let f : i ≡ count - 1 = omega arith in
              rw (e, key_after, key_of-front ends more keys key count i are len (omega arith), f) (above (omega arith))
        ];
      }

-- ---- what the code reads

pub key_start-later : (ends : List ℕ) (i : ℕ) → 0 < i → key_start ends i ≡ u64_at ends (8 * (i - 1))
key_start-later ends i h = let e : i ≡ i - 1 + 1 = omega arith in ap (key_start ends) e ∙ key_start-next ends (i - 1)

pub key_of-by : (ends keys : List ℕ) (i s e : ℕ) → s ≡ key_start ends i → e ≡ key_start ends (i + 1) → slice_range keys s e ≡ key_of ends keys i
unfolding key_of
key_of-by ends keys i s e p q = rw (p, q) refl

pub same_key : (ends keys ends' keys' : List ℕ) → ends ≡ ends' → keys ≡ keys' → (i : ℕ) → key_of ends keys i ≡ key_of ends' keys' i
same_key ends keys ends' keys' e k i = rw (e, k) refl

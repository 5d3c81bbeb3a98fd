-- Parts one after another, and where each ends.
use Rattle.std.proofs.Common.{◌≡◌, ℕ, zero, suc, ◌+◌, ◌-◌, ◌*◌, ◌^◌, ◌<◌, ◌≤◌, List, [], ◌∷◌, ◌++◌, length, take, drop, get_or, slice_range, refl, sym, ap, ◌∙◌, arith, append_assoc}
use Rattle.std.specs.List.{flat_map}
use Rattle.std.specs.Int.{w64, to_le_bytes}
use Rattle.std.proofs.lemmas.List.{length-take-le, take-append-drop, drop_more, take_more, take_all, drop_at, take_at}
use Rattle.std.proofs.lemmas.List.Concat.{flat_map-append}
use Rattle.seg_common.specs.LittleEndian.{u64_at}
use Rattle.seg_common.proofs.Bytes.{length-numbers, u64_at-written}
use Rattle.seg_columns.specs.Ends.{start_at, EndsRise}
use Rattle.seg_column_format.specs.ColumnBytes.{ends_from, number_bytes, total}

-- what is before a place, at it and after it
pub split : {X : Type 0} (xs : List X) (i : ℕ) (d : X) → i < length xs
    → xs ≡ take i xs ++ (get_or xs i d ∷ drop (i + 1) xs)
split xs i d lt = sym (take-append-drop i xs) ∙ ap (λ (l : List _). take i xs ++ l) (drop_more xs i d lt)

pub flat_split : {X A : Type 0} (f : X → List A) (xs : List X) (i : ℕ) (d : X) → i < length xs
    → flat_map f xs ≡ flat_map f (take i xs) ++ (f (get_or xs i d) ++ flat_map f (drop (i + 1) xs))
flat_split f xs i d lt =
    ap (flat_map f) (split xs i d lt) ∙ flat_map-append f (take i xs) (get_or xs i d ∷ drop (i + 1) xs)

-- a number among others
pub number_at : (numbers : List ℕ) (rest : List ℕ) (i : ℕ) → i < length numbers → get_or numbers i 0 < 2 ^ 64
    → u64_at (number_bytes numbers ++ rest) (8 * i) ≡ get_or numbers i 0
number_at numbers rest i lt fits =
    let n : ℕ = get_or numbers i 0 in
    let front : List ℕ = number_bytes (take i numbers) in
    let back : List ℕ = number_bytes (drop (i + 1) numbers) in
    let size : length front ≡ 8 * i =
    length-numbers (take i numbers) ∙ ap (λ (k : ℕ). 8 * k) (length-take-le i numbers (omega (arith, lt))) in
    ap (λ (l : List ℕ). u64_at (l ++ rest) (8 * i)) (flat_split (to_le_bytes w64) numbers i 0 lt)
    ∙ ap (λ (l : List ℕ). u64_at l (8 * i))
    (append_assoc front (to_le_bytes w64 n ++ back) rest
    ∙ ap (λ (l : List ℕ). front ++ l) (append_assoc (to_le_bytes w64 n) back rest))
    ∙ u64_at-written front (back ++ rest) n (8 * i) fits size

module _ {X : Type 0} where
  pub total-append : (some more : List (List X)) → total (some ++ more) ≡ total some + total more
  total-append [] more = omega arith
  total-append (part ∷ some) more = omega (arith, total-append some more)

  -- the parts up to and including one
  pub total-more : (parts : List (List X)) (i : ℕ) → i < length parts
      → total (take (i + 1) parts) ≡ total (take i parts) + length (get_or parts i [])
  total-more parts i lt =
      ap total (take_more parts i [] lt)
      ∙ omega (arith, total-append (take i parts) (get_or parts i [] ∷ []))

  pub total-front : (parts : List (List X)) (i : ℕ) → total (take i parts) ≤ total parts
  total-front parts i =
      let whole : total (take i parts ++ drop i parts) ≡ total parts = ap total (take-append-drop i parts) in
      omega (arith, whole, total-append (take i parts) (drop i parts))

  pub length-ends : (parts : List (List X)) (before : ℕ) → length (ends_from before parts) ≡ length parts
  length-ends [] before = refl
  length-ends (part ∷ parts) before = ap suc (length-ends parts (before + length part))

  end_at : (parts : List (List X)) (before i : ℕ) → i < length parts
      → get_or (ends_from before parts) i 0 ≡ before + total (take (suc i) parts)
  end_at [] before i lt = absurd (omega (arith, lt))
  end_at (part ∷ parts) before zero lt = omega arith
  end_at (part ∷ parts) before (suc i) lt =
      omega (arith, end_at parts (before + length part) i (omega (arith, lt)))

  module _ (parts : List (List X)) (few : total parts < 2 ^ 64) (rest : List ℕ) where
    bytes : List ℕ
    bytes = number_bytes (ends_from 0 parts) ++ rest

    pub length-number_bytes : length (number_bytes (ends_from 0 parts)) ≡ 8 * length parts
    length-number_bytes =
        length-numbers (ends_from 0 parts) ∙ ap (λ (k : ℕ). 8 * k) (length-ends parts 0)

    -- a part begins after those before it
    pub start_at-parts : (i : ℕ) → i ≤ length parts
        → start_at (number_bytes (ends_from 0 parts) ++ rest) i ≡ total (take i parts)
    unfolding start_at
    start_at-parts zero le = refl
    start_at-parts (suc i) le =
        let lt : i < length parts = omega (arith, le) in
        let there : i < length (ends_from 0 parts) = omega (arith, lt, length-ends parts 0) in
        let end : get_or (ends_from 0 parts) i 0 ≡ total (take (suc i) parts) = end_at parts 0 i lt ∙ omega arith in
        let fits : get_or (ends_from 0 parts) i 0 < 2 ^ 64 =
        omega (arith, end, total-front parts (suc i), few) in
        number_at (ends_from 0 parts) rest i there fits ∙ end

    pub starts_rise : EndsRise (number_bytes (ends_from 0 parts) ++ rest) (length parts)
    starts_rise i lt =
        omega (
          arith,
          start_at-parts i (omega (arith, lt)),
          start_at-parts (i + 1) (omega (arith, lt)),
          total-more parts i lt,
        )

    -- the end of all
    pub last_end : start_at (number_bytes (ends_from 0 parts) ++ rest) (length parts) ≡ total parts
    last_end = start_at-parts (length parts) (omega arith) ∙ ap total (take_all (length parts) parts (omega arith))

    -- a part is as long as its ends are apart
    pub apart : (i : ℕ) → i < length parts
        → start_at (number_bytes (ends_from 0 parts) ++ rest) (i + 1)
        - start_at (number_bytes (ends_from 0 parts) ++ rest) i
        ≡ length (get_or parts i [])
    apart i lt =
        omega (
          arith,
          start_at-parts i (omega (arith, lt)),
          start_at-parts (i + 1) (omega (arith, lt)),
          total-more parts i lt,
        )

-- a piece after others
pub range_of : {X : Type 0} (front piece back : List X) (s e : ℕ) → length front ≡ s → e ≡ s + length piece
    → slice_range (front ++ (piece ++ back)) s e ≡ piece
range_of front piece back s e at end =
    let n : e - s ≡ length piece = omega (arith, end) in
    ap (take (e - s)) (drop_at front (piece ++ back) s at)
    ∙ ap (λ (k : ℕ). take k (piece ++ back)) n ∙ take_at piece back (length piece) refl

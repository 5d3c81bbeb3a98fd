-- The values of a column are of its type, and so are those of the rows that are kept.
use Rattle.std.proofs.Common.{◌≡◌, ℕ, zero, suc, ◌+◌, ◌-◌, ◌*◌, ◌^◌, ◌<◌, ◌≤◌, Bool, true, false, List, [], ◌∷◌, length, take, drop, map, Option, Some, None, subst, ◌∙◌, arith, mul-add}
use Rattle.std.specs.Prelude.{All, FitsSigned, IfSome, if◌then◌else◌, slice_range}
use Rattle.std.specs.Int.{w64, from_le_bytes}
use Rattle.std.specs.List.{AllByRecursion, cons_option, filter_map, range_with_len}
use Rattle.std.specs.Net.Addr.{octets_of, segments_of}
use Rattle.std.proofs.Math.Nat.{mul-le-mul_left}
use Rattle.std.proofs.lemmas.List.{length-drop, length-take-le}
use Rattle.std.proofs.lemmas.List.Elements.{All-append, All-from_recursion, All-head, All-nil, All-tail}
use Rattle.seg_column_merge_parts.proofs.Exports.{AreOctets, octets_left, octets_taken}
use Rattle.seg_common.specs.LittleEndian.{u64_at}
use Rattle.seg_common.specs.MappableLaws.{lowered-fits}
use Rattle.seg_columns.specs.Addresses.{address}
use Rattle.seg_columns.specs.Columns.{IsColumn, row_of, rows_of, value_at}
use Rattle.seg_columns.specs.Ends.{start_at}
use Rattle.seg_columns.specs.ValueImages.{signed, unsigned}
use Rattle.seg_columns.proofs.DocumentValues.{within}
use Rattle.seg_column_merge_parts.specs.KeptColumns.{IsWhole}
use Rattle.seg_column_file.specs.KeptRows.{kept_values}

-- what the bytes of a value tell of it
abbrev pub Tells : {T : Type 0} → ℕ → (List ℕ → Option T) → (T → Type 0) → Type 0
Tells width decoded F = (part : List ℕ) → length part ≡ width → AreOctets part → IfSome (decoded part) F

module _ {T : Type 0} (width : ℕ) (decoded : List ℕ → Option T) (F : T → Type 0) (tells : Tells width decoded F) where
  one_more : (r : Option T) (rest : List T) → IfSome r F → AllByRecursion F rest → AllByRecursion F (cons_option r rest)
  one_more (Some x) rest fits all = (fits, all)
  one_more None rest fits all = all

  value_fits : (values : List ℕ) → AreOctets values → (place : ℕ) → width * place + width ≤ length values
      → IfSome (value_at width decoded values place) F
  unfolding value_at
  value_fits values small place fits =
      let start = width * place in
      let end = width * place + width in
      let count : end - start ≡ width = omega arith in
      tells (slice_range values start end)
      (length-take-le (end - start) (drop start values) (omega (arith, count, fits, length-drop start values)) ∙ count)
      (octets_taken (end - start) (drop start values) (octets_left start values small))

  values_fit : (values : List ℕ) → AreOctets values → (start n : ℕ) → width * (start + n) ≤ length values
      → AllByRecursion F (filter_map (value_at width decoded values) (range_with_len start n))
  values_fit values small start zero fits = tt
  values_fit values small start (suc n) fits =
      let next : start + suc n ≡ start + 1 + n = omega arith in
      let step : width * (start + 1) ≡ width * start + width = omega (arith, mul-add width start 1) in
      let below : width * (start + 1) ≤ width * (start + suc n) = mul-le-mul_left width (omega arith) in
      one_more (value_at width decoded values start)
      (filter_map (value_at width decoded values) (range_with_len (start + 1) n))
      (value_fits values small start (omega (arith, fits, step, below)))
      (values_fit values small (start + 1) n (subst (λ (k : ℕ). width * k ≤ length values) next fits))

  module _ (docs : ℕ) (bytes : List ℕ) (small : AreOctets bytes) (is : IsColumn width decoded docs bytes) where
    row_fits : (doc : ℕ) → doc < docs → All F (row_of width decoded docs bytes doc)
    unfolding row_of
    row_fits doc lt =
        let start = start_at bytes doc in
        let end = start_at bytes (doc + 1) in
        let values = drop (8 * docs) bytes in
        let whole : end ≡ start + (end - start) = omega (arith, is.rise doc lt) in
        All-from_recursion F (filter_map (value_at width decoded values) (range_with_len start (end - start)))
        (values_fit values (octets_left (8 * docs) bytes small) start (end - start)
        (subst (λ (m : ℕ). width * m ≤ length values) whole
        (within width decoded docs bytes is (doc + 1) (omega (arith, lt)))))

    rows_from : (k n : ℕ) → k + n ≤ docs
        → AllByRecursion (All F) (map (row_of width decoded docs bytes) (range_with_len k n))
    rows_from k zero fits = tt
    rows_from k (suc n) fits = (row_fits k (omega (arith, fits)), rows_from (k + 1) n (omega (arith, fits)))

    -- what the bytes of each value tell holds of the values of all rows
    pub rows_fit : All (All F) (rows_of width decoded docs bytes)
    rows_fit = All-from_recursion (All F) (rows_of width decoded docs bytes) (rows_from 0 docs (omega arith))

-- ---- values of each type

eight_below : (bytes : List ℕ) → AreOctets bytes → from_le_bytes w64 bytes < 2 ^ 64
eight_below bytes small = omega (arith, small 0, small 1, small 2, small 3, small 4, small 5, small 6, small 7)

image_below : (part : List ℕ) → AreOctets part → u64_at part 0 < 2 ^ 64
unfolding u64_at
image_below part small = eight_below (take 8 part) (octets_taken 8 part small)

pub unsigned_tells : Tells 8 unsigned (λ n. n < 2 ^ 64)
unsigned_tells part long small = image_below part small

pub signed_tells : Tells 8 signed (FitsSigned w64)
signed_tells part long small = lowered-fits (u64_at part 0) (image_below part small)

octets_many : (n : ℕ) (xs : List ℕ) → length xs ≡ 2 * n → length (octets_of (segments_of xs)) ≡ 2 * n
octets_many n [] even = even
octets_many n (a ∷ []) even = absurd (omega (arith, even))
octets_many n (a ∷ b ∷ xs) even =
    let rest = octets_many (n - 1) xs (omega (arith, even)) in omega (arith, even, rest)

pub address_tells : Tells 16 address IsWhole
address_tells part long small = octets_many 8 part long

-- ---- kept rows

marked_fit : {T : Type 0} (F : T → Type 0) (mark : Bool) (row : List T) → All F row
    → All F (if mark then row else [])
marked_fit F true row fits = fits
marked_fit F false row fits = All-nil F

-- what holds of the values of all rows holds of those that are kept
pub kept_are : {T : Type 0} (F : T → Type 0) (kept : List Bool) (rows : List (List T)) → All (All F) rows
    → All F (kept_values kept rows)
kept_are F [] rows all = All-nil F
kept_are F (mark ∷ marks) [] all = All-nil F
kept_are F (mark ∷ marks) (row ∷ rows) all =
    All-append F (if mark then row else []) (kept_values marks rows)
    (marked_fit F mark row (All-head (All F) row rows all))
    (kept_are F marks rows (All-tail (All F) row rows all))

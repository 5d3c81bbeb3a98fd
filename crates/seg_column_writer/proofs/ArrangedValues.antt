-- Values of rows, as they came or in order.
use Rattle.std.proofs.Common.{◌≡◌, ℕ, zero, suc, ◌+◌, ◌<◌, ◌≤◌, Bool, true, false, cond, List, [], ◌∷◌, ◌++◌, length, map, get_or, sym, refl, ap, subst, ◌∙◌, arith}
use Rattle.std.specs.Prelude.{◌==◌, nat_lt}
use Rattle.std.specs.List.{AllByRecursion, flat_map}
use Rattle.std.specs.List.Sorted.{IsSortedBy}
use Rattle.std.specs.Ordering.{is_gt, is_lt, nat_cmp, ordering_then}
use Rattle.std.specs.declared.cmp.Ordering.{Ordering}
use Rattle.std.specs.declared.cmp.Ordering.TheVariants.{Less, Equal, Greater}
use Rattle.std.proofs.lemmas.Bool.{false≢true}
use Rattle.std.proofs.lemmas.Bool.Decides.{nat_tests}
use Rattle.std.proofs.lemmas.List.{length-append}
use Rattle.std.proofs.lemmas.List.Elements.{All-from_recursion, recursion_from_All}
use Rattle.std.proofs.lemmas.List.Sorted.{All-permutation, IsPermutation-sym, length_permutation, ranks_by, sorted_far}
use Rattle.std.proofs.lemmas.List.Concat.{flat_map-append}
use Rattle.seg_model.specs.Columns.{ColumnValue}
use Rattle.seg_column_format.specs.ColumnBytes.{column_bytes, total}
use Rattle.seg_column_writer.specs.EncodedColumns.{IsArranged, number_cmp}
use Rattle.seg_column_format.specs.RowNumbers.{end_bytes}
use Rattle.seg_column_writer.specs.RecordedColumns.{in_order, value_cmp}
use Rattle.seg_column_format.specs.ValuesByRow.{Rise, of_row, rows_from}
use Rattle.seg_column_format.specs.declared.row_number.RowNumber.{RowNumber}
use Rattle.seg_column_writer.specs.declared.row_value.RowValue.{RowValue}
use Rattle.seg_column_writer.proofs.NumberRanks.{number_cmp_total}
use Rattle.seg_column_format.proofs.RowValues.{in_a_row}
use Rattle.seg_column_writer.proofs.SortedRows.{AreOrdered, MayPrecede, from_places, rises, row_in_order, seen_in_order}

abbrev pub row : RowNumber → ℕ
row v = v.row

abbrev pub number : RowNumber → ℕ
number v = v.number

precedes : (v w : RowNumber) → is_lt (number_cmp w v) ≡ false → MayPrecede row number v w
precedes v w up = by (nat_cmp w.row v.row) (nat_cmp w.number v.number) refl refl up
  where
    le_from : (m n : ℕ) → is_lt (nat_cmp n m) ≡ false → m ≤ n
    le_from m n e = grind (arith, nat_tests, e)

    by : (r s : Ordering) → nat_cmp w.row v.row ≡ r → nat_cmp w.number v.number ≡ s
        → is_lt (ordering_then r s) ≡ false → MayPrecede row number v w
    by Less s e f up = absurd (false≢true (sym up))
    by Equal s e f up = record {
      rows = le_from v.row w.row (ap is_lt e);
      numbers = λ _. le_from v.number w.number (ap is_lt f ∙ up);
    }
    by Greater s e f up = record {
      rows = le_from v.row w.row (ap is_lt e);
      numbers = λ same.
          let gt : v.row < w.row = grind (arith, nat_tests, e) in
          absurd (omega (arith, gt, same));
    }

ordered_from : (xs : List RowNumber) → IsSortedBy (λ v w. is_lt (number_cmp v w)) xs → AreOrdered row number xs
ordered_from xs up = from_places row number xs (λ i j d lt below.
    precedes (get_or xs i d) (get_or xs j d)
    (sorted_far (λ v w. is_lt (number_cmp v w)) (ranks_by number_cmp_total (λ (v : RowNumber). v)) xs up i j d
    (omega (arith, lt)) below))

-- rows still don't fall
pub still_rise : (sorts : Bool) (xs ys : List RowNumber) → IsArranged sorts xs ys → Rise row 0 xs → Rise row 0 ys
still_rise false xs ys is rise = subst (Rise row 0) (sym is) rise
still_rise true xs ys is rise = rises row number ys (ordered_from ys is.1)

-- values with numbers in place of what they are kept by
abbrev pub numbered_by : (RowValue → ℕ) → RowValue → RowNumber
numbered_by g v = record { row = v.row; number = g v }

abbrev row_of : RowValue → ℕ
row_of v = v.row

pub numbered_rise : (g : RowValue → ℕ) (low : ℕ) (values : List RowValue) → Rise row_of low values
    → Rise row low (map (numbered_by g) values)
numbered_rise g low [] rise = tt
numbered_rise g low (v ∷ values) rise = (rise.0, numbered_rise g v.row values rise.1)

pub numbered_below : (g : RowValue → ℕ) (count : ℕ) (values : List RowValue)
    → AllByRecursion (λ (v : RowValue). v.row < count) values
    → AllByRecursion (λ (v : RowNumber). v.row < count) (map (numbered_by g) values)
numbered_below g count [] below = tt
numbered_below g count (v ∷ values) below = (below.0, numbered_below g count values below.1)

pub arranged_rise : (g : RowValue → ℕ) (sorts : Bool) (values : List RowValue) (given numbers seen : List RowNumber)
    → given ≡ map (numbered_by g) values → IsArranged sorts given numbers → seen ≡ numbers → Rise row_of 0 values
    → Rise row 0 seen
arranged_rise g sorts values given numbers seen is arranged same rise =
    subst (Rise row 0) (sym same)
    (still_rise sorts given numbers arranged (subst (Rise row 0) (sym is) (numbered_rise g 0 values rise)))

-- what holds of all values still does
pub still_all : (P : RowNumber → Type 0) (sorts : Bool) (xs ys : List RowNumber) → IsArranged sorts xs ys
    → AllByRecursion P xs → AllByRecursion P ys
still_all P false xs ys is all = subst (AllByRecursion P) (sym is) all
still_all P true xs ys is all =
    recursion_from_All P ys (All-permutation P xs ys is.0 (All-from_recursion P xs all))

-- and did before
pub all_before : (P : RowNumber → Type 0) (sorts : Bool) (xs ys : List RowNumber) → IsArranged sorts xs ys
    → AllByRecursion P ys → AllByRecursion P xs
all_before P false xs ys is all = subst (AllByRecursion P) is all
all_before P true xs ys is all = recursion_from_All P xs
    (All-permutation P ys xs (IsPermutation-sym xs ys is.0) (All-from_recursion P ys all))

pub still_many : (sorts : Bool) (xs ys : List RowNumber) → IsArranged sorts xs ys → length ys ≡ length xs
still_many false xs ys is = ap length is
still_many true xs ys is = length_permutation xs ys is.0

-- ---- what is seen of a row

abbrev pub arranged_values : Bool → List ColumnValue → List ColumnValue
arranged_values sorts values = cond sorts (in_order values) values

module _ (seen : ℕ → ColumnValue) (P : ℕ → Type 0)
    (rising : (a b : ℕ) → P a → P b → is_gt (value_cmp (seen a) (seen b)) ≡ nat_lt b a) where
  map_seen : (xs : List RowNumber) → map (λ (v : RowNumber). seen v.number) xs ≡ map seen (map number xs)
  map_seen [] = refl
  map_seen (x ∷ xs) = ap (λ (l : List ColumnValue). seen x.number ∷ l) (map_seen xs)

  all_numbers : (xs : List RowNumber) (r : ℕ) → AllByRecursion (λ (v : RowNumber). P v.number) xs
      → AllByRecursion P (map number (of_row row xs r))
  all_numbers [] r all = tt
  all_numbers (x ∷ xs) r all = by (x.row == r) (all_numbers xs r all.1)
    where
      by : (b : Bool) → AllByRecursion P (map number (of_row row xs r))
          → AllByRecursion P (map number (cond b (x ∷ of_row row xs r) (of_row row xs r)))
      by true rest = (all.0, rest)
      by false rest = rest

  pub row_seen : (sorts : Bool) (xs ys : List RowNumber) → IsArranged sorts xs ys
      → AllByRecursion (λ (v : RowNumber). P v.number) xs → (r : ℕ)
      → map (λ (v : RowNumber). seen v.number) (of_row row ys r)
      ≡ arranged_values sorts (map (λ (v : RowNumber). seen v.number) (of_row row xs r))
  row_seen false xs ys is all r = ap (λ (l : List RowNumber). map (λ (v : RowNumber). seen v.number) (of_row row l r)) is
  row_seen true xs ys is all r =
      map_seen (of_row row ys r)
      ∙ ap (map seen) (row_in_order row number r xs ys is.0 (ordered_from ys is.1))
      ∙ seen_in_order seen P rising (map number (of_row row xs r)) (all_numbers xs r all)
      ∙ ap in_order (sym (map_seen (of_row row xs r)))

-- ---- bytes of rows

flat_rows : (encoded : RowNumber → List ℕ) (rows : List (List RowNumber))
    → flat_map encoded (flat_map (λ r. r) rows) ≡ flat_map (flat_map encoded) rows
flat_rows encoded [] = refl
flat_rows encoded (r ∷ rows) =
    flat_map-append encoded r (flat_map (λ r. r) rows)
    ∙ ap (λ (l : List ℕ). flat_map encoded r ++ l) (flat_rows encoded rows)

module _ (count : ℕ) (numbers : List RowNumber) (rise : Rise row 0 numbers)
    (below : AllByRecursion (λ (v : RowNumber). v.row < count) numbers) where
  abbrev all : List (List RowNumber)
  all = rows_from row 0 count numbers

  under : (xs : List RowNumber) → AllByRecursion (λ (v : RowNumber). v.row < count) xs
      → AllByRecursion (λ (v : RowNumber). row v < 0 + count) xs
  under [] each = tt
  under (x ∷ xs) each = (omega (arith, each.0), under xs each.1)

  pub whole : flat_map (λ r. r) all ≡ numbers
  whole = in_a_row row 0 count numbers rise (under numbers below)

  pub bytes_are : (encoded : RowNumber → List ℕ) → end_bytes count numbers ++ flat_map encoded numbers
      ≡ column_bytes encoded all
  unfolding column_bytes
  bytes_are encoded =
      ap (λ (l : List ℕ). end_bytes count numbers ++ l)
      (ap (flat_map encoded) (sym whole) ∙ flat_rows encoded all)

  length_is : (rows : List (List RowNumber)) → length (flat_map (λ r. r) rows) ≡ total rows
  length_is [] = refl
  length_is (r ∷ rows) =
      length-append r (flat_map (λ r. r) rows)
      ∙ ap (λ (n : ℕ). length r + n) (length_is rows)

  pub total_is : total all ≡ length numbers
  total_is = sym (length_is all) ∙ ap length whole

-- what holds of all values holds of those of each row
all_of_row : (P : RowNumber → Type 0) (xs : List RowNumber) (r : ℕ) → AllByRecursion P xs → AllByRecursion P (of_row row xs r)
all_of_row P [] r each = tt
all_of_row P (x ∷ xs) r each = by (x.row == r) (all_of_row P xs r each.1)
  where
    by : (b : Bool) → AllByRecursion P (of_row row xs r) → AllByRecursion P (cond b (x ∷ of_row row xs r) (of_row row xs r))
    by true rest = (each.0, rest)
    by false rest = rest

pub all_of_rows : (P : RowNumber → Type 0) (low count : ℕ) (xs : List RowNumber) → AllByRecursion P xs
    → AllByRecursion (AllByRecursion P) (rows_from row low count xs)
all_of_rows P low zero xs each = tt
all_of_rows P low (suc count) xs each = (all_of_row P xs low each, all_of_rows P (low + 1) count xs each)

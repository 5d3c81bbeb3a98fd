-- What merged columns of numbers read as.
use Rattle.std.proofs.Common.{◌≡◌, ℕ, zero, suc, ◌+◌, ◌<◌, ◌^◌, Bool, true, List, [], ◌∷◌, ◌++◌, length, map, get_or, Option, refl, sym, ap, subst, ◌∙◌}
use Rattle.std.specs.List.{AllByRecursion, flat_map}
use Rattle.std.specs.Int.{w64, to_le_bytes}
use Rattle.std.proofs.lemmas.List.{length-map}
use Rattle.seg_columns.specs.Columns.{IsColumn, rows_of}
use Rattle.seg_columns.specs.ValueImages.{value_of_image}
use Rattle.seg_column_format.specs.ColumnBytes.{IsReadAs, column_bytes, ends_from, number_bytes, total}
use Rattle.seg_column_format.proofs.ColumnRoundTrips.{is_column, rows_read_as}
use Rattle.seg_column_format.proofs.TermColumnRoundTrips.{image_read}
use Rattle.seg_column_file.specs.RowOrders.{Place}
use Rattle.seg_column_merge_parts.specs.SourceRows.{joined, mapped, row_codes}
use Rattle.seg_column_merge_parts.specs.JoinedNumbers.{IsNumeric, joined_numbers, row_numbers}
use Rattle.seg_column_merge_parts.specs.declared.source.Source.{Source}
use Rattle.seg_column_merge_parts.specs.declared.source.Source.TheVariants.{Nothing, Numbers, Addresses}
use Rattle.seg_column_merge_parts.proofs.JoinedBytes.{flat_map-map}

-- ---- bytes that are made before they are put, or while

module _ {X : Type 0} (code : X → List ℕ) where
  codes_same : (rows : List (List X))
      → flat_map (flat_map {X = List ℕ} {A = ℕ} (λ c. c)) (map (map code) rows) ≡ flat_map (flat_map code) rows
  codes_same [] = refl
  codes_same (row ∷ rows) = λ i. flat_map-map {Y = List ℕ} (λ c. c) code row i ++ codes_same rows i

  ends_same : (before : ℕ) (rows : List (List X)) → ends_from before (map (map code) rows) ≡ ends_from before rows
  ends_same before [] = refl
  ends_same before (row ∷ rows) =
      ap (λ n. (before + n) ∷ ends_from (before + n) (map (map code) rows)) (length-map row code)
      ∙ ap (λ l. (before + length row) ∷ l) (ends_same (before + length row) rows)

  total_same : (rows : List (List X)) → total (map (map code) rows) ≡ total rows
  total_same [] = refl
  total_same (row ∷ rows) = λ i. length-map row code i + total_same rows i

  bytes_same : (rows : List (List X))
      → column_bytes {T = List ℕ} (λ c. c) (map (map code) rows) ≡ column_bytes code rows
  unfolding column_bytes
  bytes_same rows = λ i. number_bytes (ends_same 0 rows i) ++ codes_same rows i

-- ---- the codes of rows are those of their numbers

codes_of : (number : ℕ → ℕ) (ns : List ℕ)
    → map (λ n. to_le_bytes w64 (number n)) ns ≡ map (to_le_bytes w64) (map number ns)
codes_of number [] = refl
codes_of number (n ∷ ns) = ap (λ l. to_le_bytes w64 (number n) ∷ l) (codes_of number ns)

row_is : (source : Source) (row : ℕ) → IsNumeric source
    → row_codes source row ≡ map (to_le_bytes w64) (row_numbers source row)
row_is Nothing row is = refl
row_is (Numbers source) row is = codes_of (mapped source.written) (get_or source.numbers row [])
row_is (Addresses rows) row is = absurd is

numeric_at : (sources : List Source) (file : ℕ) → AllByRecursion IsNumeric sources
    → IsNumeric (get_or sources file Nothing)
numeric_at [] file all = tt
numeric_at (s ∷ ss) zero all = all.0
numeric_at (s ∷ ss) (suc file) all = numeric_at ss file all.1

joined_is : (sources : List Source) (places : List Place) → AllByRecursion IsNumeric sources
    → joined sources places ≡ map (map (to_le_bytes w64)) (joined_numbers sources places)
joined_is sources [] all = refl
joined_is sources (p ∷ ps) all =
    λ i. row_is (get_or sources p.0 Nothing) p.1 (numeric_at sources p.0 all) i ∷ joined_is sources ps all i

pub joined_bytes : (sources : List Source) (places : List Place) → AllByRecursion IsNumeric sources
    → column_bytes {T = List ℕ} (λ c. c) (joined sources places)
    ≡ column_bytes (to_le_bytes w64) (joined_numbers sources places)
joined_bytes sources places numeric =
    ap (column_bytes {T = List ℕ} (λ c. c)) (joined_is sources places numeric)
    ∙ bytes_same (to_le_bytes w64) (joined_numbers sources places)

pub joined_total : (sources : List Source) (places : List Place) → AllByRecursion IsNumeric sources
    → total (joined sources places) ≡ total (joined_numbers sources places)
joined_total sources places numeric =
    ap total (joined_is sources places numeric) ∙ total_same (to_le_bytes w64) (joined_numbers sources places)

-- ---- the column

module _ {T : Type 0} (is_image : ℕ → Bool) (value_of : ℕ → T) where
  -- a number that stands for a value
  abbrev pub IsImage : ℕ → Type 0
  IsImage n = (n < 2 ^ 64) × (is_image n ≡ true)

  abbrev decoded : List ℕ → Option T
  decoded = value_of_image is_image value_of

  all_read : (ns : List ℕ) → AllByRecursion IsImage ns
      → AllByRecursion (IsReadAs 8 decoded (to_le_bytes w64) value_of) ns
  all_read [] fit = tt
  all_read (n ∷ ns) fit =
      (record { wide = refl; read = image_read is_image value_of n fit.0.0 fit.0.1 }, all_read ns fit.1)

  rows_fit : (rows : List (List ℕ)) → AllByRecursion (AllByRecursion IsImage) rows
      → AllByRecursion (AllByRecursion (IsReadAs 8 decoded (to_le_bytes w64) value_of)) rows
  rows_fit [] fit = tt
  rows_fit (row ∷ rows) fit = (all_read row fit.0, rows_fit rows fit.1)

  module _ (sources : List Source) (places : List Place) (numeric : AllByRecursion IsNumeric sources)
      (few : total (joined sources places) < 2 ^ 64)
      (fit : AllByRecursion (AllByRecursion IsImage) (joined_numbers sources places)) where
    abbrev numbers : List (List ℕ)
    numbers = joined_numbers sources places

    bytes_are : column_bytes {T = List ℕ} (λ c. c) (joined sources places) ≡ column_bytes (to_le_bytes w64) numbers
    bytes_are = joined_bytes sources places numeric

    few_numbers : total numbers < 2 ^ 64
    few_numbers = subst (λ n. n < 2 ^ 64) (joined_total sources places numeric) few

    as_many : length numbers ≡ length places
    as_many = length-map places (λ (p : Place). row_numbers (get_or sources p.0 Nothing) p.1)

    pub joined_column : IsColumn 8 decoded (length places) (column_bytes {T = List ℕ} (λ c. c) (joined sources places))
    joined_column =
        subst (λ n. IsColumn 8 decoded n (column_bytes {T = List ℕ} (λ c. c) (joined sources places))) as_many
        (subst (IsColumn 8 decoded (length numbers)) (sym bytes_are)
        (is_column 8 decoded (to_le_bytes w64) value_of numbers few_numbers (rows_fit numbers fit)))

    pub joined_rows : rows_of 8 decoded (length places) (column_bytes {T = List ℕ} (λ c. c) (joined sources places))
        ≡ map (map value_of) numbers
    joined_rows =
        (λ i. rows_of 8 decoded (sym as_many i) (bytes_are i))
        ∙ rows_read_as 8 decoded (to_le_bytes w64) value_of numbers few_numbers (rows_fit numbers fit)

-- where each number stands for a value
plain_row : {T : Type 0} (value_of : ℕ → T) (ns : List ℕ) → AllByRecursion (λ n. n < 2 ^ 64) ns
    → AllByRecursion (IsImage (λ _. true) value_of) ns
plain_row value_of [] fit = tt
plain_row value_of (n ∷ ns) fit = ((fit.0, refl), plain_row value_of ns fit.1)

pub plain_numbers : {T : Type 0} (value_of : ℕ → T) (rows : List (List ℕ))
    → AllByRecursion (AllByRecursion (λ n. n < 2 ^ 64)) rows
    → AllByRecursion (AllByRecursion (IsImage (λ _. true) value_of)) rows
plain_numbers value_of [] fit = tt
plain_numbers value_of (row ∷ rows) fit = (plain_row value_of row fit.0, plain_numbers value_of rows fit.1)

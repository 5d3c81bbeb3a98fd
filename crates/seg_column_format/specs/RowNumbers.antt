-- A column in bytes, from numbers with their rows.
use Rattle.std.specs.Prelude.{◌≡◌, ℕ, ◌^◌, ◌<◌, List, [], ◌++◌, length, get_or}
use Rattle.std.specs.Int.{w64, to_le_bytes}
use Rattle.std.specs.List.{AllByRecursion, flat_map}
use Rattle.seg_column_format.specs.ColumnBytes.{ends_from, number_bytes}
use Rattle.seg_column_format.specs.ValuesByRow.{rows_from}
use Rattle.seg_column_format.specs.declared.row_number.RowNumber.{RowNumber}

-- where the rows end
abbrev pub end_bytes : ℕ → List RowNumber → List ℕ
end_bytes count numbers = number_bytes (ends_from 0 (rows_from (λ v. v.row) 0 count numbers))

-- eight bytes for each value
abbrev pub eight_bytes : RowNumber → List ℕ
eight_bytes v = to_le_bytes w64 v.number

-- the term whose ordinal the number is
abbrev pub term_bytes : List (List ℕ) → RowNumber → List ℕ
term_bytes terms v = get_or terms v.number []

-- the ends of rows, and the bytes of values, were added
pub record AddsBytes (encoded : RowNumber → List ℕ) (numbers : List RowNumber) (count : ℕ)
    (old new : List ℕ) : Type 0 where
  pub few : length numbers < 2 ^ 64
  pub fit : AllByRecursion (λ v. v.number < 2 ^ 64) numbers
  pub bytes : new ≡ old ++ (end_bytes count numbers ++ flat_map encoded numbers)

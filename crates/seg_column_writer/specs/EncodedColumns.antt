-- A column in bytes, from what was recorded of it.
use Rattle.std.specs.Prelude.{◌≡◌, ℕ, ◌^◌, ◌<◌, List, ◌++◌, length, map, get_or, Bool, true, false}
use Rattle.std.specs.List.Sorted.{IsPermutation, IsSortedBy}
use Rattle.std.specs.Ordering.{is_lt, nat_cmp, on, then_cmp}
use Rattle.std.specs.declared.cmp.Ordering.{Ordering}
use Rattle.seg_common.specs.MappableValues.{raised}
use Rattle.seg_common.specs.declared.column_type.ColumnType.{ColumnType}
use Rattle.seg_common.specs.declared.column_type.ColumnType.TheVariants as types
use Rattle.seg_columns.specs.DynamicColumns.{IsColumnOf, column_of}
use Rattle.seg_column_format.specs.ColumnBytes.{dictionary_bytes, total}
use Rattle.seg_column_format.specs.ModelColumns.{column_rows}
use Rattle.seg_column_writer.specs.RecordedColumns.{rows_in}
use Rattle.seg_column_writer.specs.ColumnRecords.{Recording}
use Rattle.seg_column_format.specs.RowNumbers.{AddsBytes, eight_bytes, term_bytes}
use Rattle.seg_column_writer.specs.RowValues.{integer_of}
use Rattle.seg_column_format.specs.NumberedTerms.{IsOrder, terms_at}
use Rattle.seg_column_format.specs.declared.row_number.RowNumber.{RowNumber}
use Rattle.seg_column_writer.specs.declared.row_value.RowValue.{RowValue}

-- ---- values by the numbers that are written for them

-- the number that stands for a number of a type
abbrev pub image_of : ColumnType → RowValue → ℕ
image_of types.I64 v = raised (integer_of v.negative v.number)
image_of _ v = v.number

abbrev pub imaged : ColumnType → RowValue → RowNumber
imaged type v = record { row = v.row; number = image_of type v }

-- with the ordinal of its term
abbrev pub ranked : List ℕ → RowValue → RowNumber
ranked ordinals v = record { row = v.row; number = get_or ordinals v.number 0 }

-- by rows, and of one row by numbers
abbrev pub number_cmp : RowNumber → RowNumber → Ordering
number_cmp = then_cmp (on (λ v. v.row) nat_cmp) (on (λ v. v.number) nat_cmp)

-- values as they are, or put in this order
abbrev pub IsArranged : Bool → List RowNumber → List RowNumber → Type 0
IsArranged false old new = new ≡ old
IsArranged true old new = IsPermutation old new × IsSortedBy (λ v w. is_lt (number_cmp v w)) new

-- ---- their bytes

-- the ends of rows, and the bytes of values in order, where that is asked, were added
pub record AddsValues (encoded : RowNumber → List ℕ) (sorts : Bool) (given : List RowNumber) (count : ℕ)
    (old new : List ℕ) : Type 0 where
  pub numbers : List RowNumber
  pub arranged : IsArranged sorts given numbers
  pub added : AddsBytes encoded numbers count old new

-- the ordinals of values, and the dictionary of all terms, were added
pub record AddsTexts (terms : List (List ℕ)) (sorts : Bool) (values : List RowValue) (count : ℕ)
    (old new : List ℕ) : Type 0 where
  pub numbers : List ℕ
  pub ordinals : List ℕ
  pub order : IsOrder terms numbers ordinals
  pub between : List ℕ
  pub ranks : AddsValues eight_bytes sorts (map (ranked ordinals) values) count old between
  pub some : length numbers < 2 ^ 64
  pub few : total (terms_at terms numbers) < 2 ^ 64
  pub dictionary : new ≡ between ++ dictionary_bytes (terms_at terms numbers)

-- the terms of values were added, which are addresses
pub record AddsAddresses (terms : List (List ℕ)) (sorts : Bool) (values : List RowValue) (count : ℕ)
    (old new : List ℕ) : Type 0 where
  pub numbers : List ℕ
  pub ordinals : List ℕ
  pub order : IsOrder terms numbers ordinals
  pub addresses : AddsValues (term_bytes (terms_at terms numbers)) sorts (map (ranked ordinals) values) count old new

-- ---- a whole column

-- bytes are a column of what was recorded
pub record IsColumnBytes (r : Recording) (type : ColumnType) (count : ℕ) (bytes : List ℕ) : Type 0 where
  pub column : IsColumnOf type count bytes
  pub rows : column_rows (column_of type count bytes) ≡ rows_in count r

-- and were added
pub record AddsColumn (r : Recording) (type : ColumnType) (count : ℕ) (old new : List ℕ) : Type 0 where
  pub bytes : List ℕ
  pub are : IsColumnBytes r type count bytes
  pub added : new ≡ old ++ bytes

-- The bytes of a column are those of what was recorded.
use Rattle.std.proofs.Common.{◌≡◌, ℕ, zero, suc, ◌+◌, ◌<◌, ◌^◌, Bool, true, false, cond, List, [], ◌∷◌, length, map, filter, Option, sym, refl, ap, subst, ◌∙◌, arith}
use Rattle.std.specs.Prelude.{◌==◌, nat_lt, pos}
use Rattle.std.specs.List.{AllByRecursion, range_with_len}
use Rattle.std.specs.Ordering.{int_cmp, is_gt, nat_cmp}
use Rattle.std.proofs.lemmas.Bool.{false≢true}
use Rattle.std.proofs.lemmas.Bool.Decides.{nat_tests}
use Rattle.std.proofs.lemmas.List.FromFn.{length-map-range_with_len}
use Rattle.seg_common.specs.MappableValues.{bit, is_bit, is_one, lowered}
use Rattle.seg_common.specs.MappableLaws.{lowered-fits, raised-in_order, raised-lowered}
use Rattle.seg_common.specs.declared.column_type.ColumnType.{ColumnType}
use Rattle.seg_model.specs.Columns.{ColumnValue}
use Rattle.seg_columns.specs.DynamicColumns.{IsColumnOf, column_of}
use Rattle.seg_column_writer.specs.EncodedColumns.{IsArranged, IsColumnBytes}
use Rattle.seg_column_format.specs.ModelColumns.{column_rows}
use Rattle.seg_column_writer.specs.RecordedColumns.{row_values, value_cmp}
use Rattle.seg_column_writer.specs.ColumnRecords.{Recording, RowedValue}
use Rattle.seg_column_format.specs.ValuesByRow.{of_row, rows_from}
use Rattle.seg_column_writer.specs.RowValues.{value_of}
use Rattle.seg_column_writer.specs.SoundColumns.{rowed}
use Rattle.seg_column_format.specs.declared.row_number.RowNumber.{RowNumber}
use Rattle.seg_column_writer.specs.declared.row_value.RowValue.{RowValue}
use Rattle.seg_column_writer.specs.declared.value_kind.ValueKind.{ValueKind}
use Rattle.seg_column_writer.proofs.ArrangedValues.{arranged_values, number, numbered_by, row, row_seen}
use Rattle.seg_column_writer.proofs.EncodedColumns.{Encodes, seen_value}

module _ (kind : ValueKind) (terms : List (List ℕ)) (seen : ℕ → ColumnValue) (g : RowValue → ℕ) where
  abbrev pub IsSeen : RowValue → Type 0
  IsSeen v = seen (g v) ≡ value_of kind terms v

  seen_row : (values : List RowValue) → AllByRecursion IsSeen values → (r : ℕ)
      → map (λ (v : RowNumber). seen v.number) (of_row row (map (numbered_by g) values) r)
      ≡ map (λ (v : RowedValue). v.value) (filter (λ (v : RowedValue). v.row == r) (map (rowed kind terms) values))
  seen_row [] are r = refl
  seen_row (v ∷ values) are r = by (v.row == r) (seen_row values are.1 r)
    where
      by : (b : Bool)
          → map (λ (v : RowNumber). seen v.number) (of_row row (map (numbered_by g) values) r)
          ≡ map (λ (v : RowedValue). v.value) (filter (λ (v : RowedValue). v.row == r) (map (rowed kind terms) values))
          → map (λ (v : RowNumber). seen v.number)
          (cond b (numbered_by g v ∷ of_row row (map (numbered_by g) values) r) (of_row row (map (numbered_by g) values) r))
          ≡ map (λ (v : RowedValue). v.value) (cond b (rowed kind terms v
          ∷ filter (λ (v : RowedValue). v.row == r) (map (rowed kind terms) values))
          (filter (λ (v : RowedValue). v.row == r) (map (rowed kind terms) values)))
      by true rest = λ j. are.0 j ∷ rest j
      by false rest = rest

  module _ (declared : Option ColumnType) (sorts : Bool) (values : List RowValue) (numbers : List RowNumber)
      (arranged : IsArranged sorts (map (numbered_by g) values) numbers) (are : AllByRecursion IsSeen values)
      (P : ℕ → Type 0) (rising : (a b : ℕ) → P a → P b → is_gt (value_cmp (seen a) (seen b)) ≡ nat_lt b a)
      (each : AllByRecursion (λ (v : RowNumber). P v.number) (map (numbered_by g) values)) where
    abbrev recording : Recording
    recording = record { kind = kind; declared = declared; sorts = sorts; values = map (rowed kind terms) values }

    one_row : (r : ℕ) → map (λ (v : RowNumber). seen v.number) (of_row row numbers r) ≡ row_values recording r
    one_row r =
        row_seen seen P rising sorts (map (numbered_by g) values) numbers arranged each r
        ∙ ap (arranged_values sorts) (seen_row values are r)

    rows_seen : (low count : ℕ) → map (map (λ (v : RowNumber). seen v.number)) (rows_from row low count numbers)
        ≡ map (row_values recording) (range_with_len low count)
    rows_seen low zero = refl
    rows_seen low (suc count) = λ j. one_row low j ∷ rows_seen (low + 1) count j

    -- bytes that encode these numbers are the column
    pub column_bytes_are : (type : ColumnType) (sorted : List (List ℕ)) (count : ℕ) (bytes : List ℕ)
        → ((n : ℕ) → seen n ≡ seen_value type sorted n)
        → Encodes number type sorted (rows_from row 0 count numbers) bytes → IsColumnBytes recording type count bytes
    column_bytes_are type sorted count bytes same encodes =
        let many : length (rows_from row 0 count numbers) ≡ count =
        length-map-range_with_len (of_row row numbers) 0 count in
        record {
          column = subst (λ (n : ℕ). IsColumnOf type n bytes) many encodes.column;
          rows =
              ap (λ (n : ℕ). column_rows (column_of type n bytes)) (sym many) ∙ encodes.values
              ∙ sym (ap (λ (f : ℕ → ColumnValue). map (map (λ (v : RowNumber). f v.number)) (rows_from row 0 count numbers))
              (λ j n. same n j))
              ∙ rows_seen 0 count;
        }

-- ---- values rise with their numbers

gt_is : (a b : ℕ) → is_gt (nat_cmp a b) ≡ nat_lt b a
gt_is a b = grind (arith, nat_tests)

pub signed_rising : (a b : ℕ) → a < 2 ^ 64 → b < 2 ^ 64
    → is_gt (int_cmp (lowered a) (lowered b)) ≡ nat_lt b a
signed_rising a b lt below =
    ap is_gt (sym (raised-in_order (lowered a) (lowered b) (lowered-fits a lt) (lowered-fits b below))
    ∙ (λ j. nat_cmp (raised-lowered a j) (raised-lowered b j)))
    ∙ gt_is a b

pub unsigned_rising : (a b : ℕ) → is_gt (int_cmp (pos a) (pos b)) ≡ nat_lt b a
unsigned_rising a b = grind (arith, nat_tests)

bit_again : (n : ℕ) → is_bit n ≡ true → bit (is_one n) ≡ n
bit_again zero is = refl
bit_again (suc zero) is = refl
bit_again (suc (suc n)) is = absurd (false≢true (grind (arith, nat_tests)))

pub truths_rising : (a b : ℕ) → is_bit a ≡ true → is_bit b ≡ true
    → is_gt (nat_cmp (bit (is_one a)) (bit (is_one b))) ≡ nat_lt b a
truths_rising a b is are = (λ j. is_gt (nat_cmp (bit_again a is j) (bit_again b are j))) ∙ gt_is a b

-- What the rows of a column tell of its values.
use Rattle.std.proofs.Common.{◌≡◌, ℕ, zero, suc, ◌+◌, ◌<◌, Bool, true, false, cond, List, [], ◌∷◌, ◌++◌, map, Some, None, sym, refl, ap, ◌∙◌, arith}
use Rattle.std.specs.Prelude.{◌&&◌, ◌||◌, is_some}
use Rattle.std.specs.Ordering.{is_gt}
use Rattle.std.specs.List.{AllByRecursion, flat_map, list_all, list_any, range_with_len}
use Rattle.std.proofs.lemmas.Bool.Decides.{Decides-eqb}
use Rattle.std.proofs.lemmas.List.{length-map}
use Rattle.std.proofs.lemmas.List.FromFn.{get_or-map-range_with_len, length-range_with_len}
use Rattle.std.proofs.lemmas.List.Folds.{list_any_at}
use Rattle.std.proofs.Math.Bool.{and_assoc}
use Rattle.seg_column_format.specs.SchemaColumns.{has_values}
use Rattle.seg_model.specs.Columns.{ColumnValue, fits_i64, free_number_type, is_filled, is_not_negative}
use Rattle.seg_column_writer.specs.ColumnRecords.{ColumnRecord, Recording, RowedValue}
use Rattle.seg_column_writer.specs.RecordedColumns.{IsOfKind, column_type_of, in_order, put_in_order, row_values, rows_in, type_of_values, value_cmp}
use Rattle.seg_column_format.specs.ValuesByRow.{Rise, of_row, rows_from}
use Rattle.seg_column_writer.specs.declared.value_kind.ValueKind.{ValueKind}
use Rattle.seg_column_writer.specs.declared.value_kind.ValueKind.TheVariants.{Number, Bytes, Str, Bool as Boolean, IpAddr, DateTime}
use Rattle.seg_column_writer.proofs.RecordedKeys.{IsGood, type_of_rows}
use Rattle.seg_column_format.proofs.RowValues.{in_a_row}

abbrev row : RowedValue → ℕ
row v = v.row

abbrev values_of : List RowedValue → List ColumnValue
values_of vs = map (λ v. v.value) vs

-- ---- tests of all values

module _ (test : ColumnValue → Bool) where
  swapped : (a b c : Bool) → (a && (b && c)) ≡ (b && (a && c))
  swapped true b c = refl
  swapped false true c = refl
  swapped false false c = refl

  all_put : (v : ColumnValue) (vs : List ColumnValue) → list_all test (put_in_order v vs) ≡ (test v && list_all test vs)
  all_put v [] = refl
  all_put v (w ∷ ws) = by (is_gt (value_cmp v w)) (all_put v ws)
    where
      by : (b : Bool) → list_all test (put_in_order v ws) ≡ (test v && list_all test ws)
          → list_all test (cond b (w ∷ put_in_order v ws) (v ∷ w ∷ ws)) ≡ (test v && (test w && list_all test ws))
      by true e = ap (λ (b : Bool). test w && b) e ∙ swapped (test w) (test v) (list_all test ws)
      by false e = refl

  all_ordered : (vs : List ColumnValue) → list_all test (in_order vs) ≡ list_all test vs
  all_ordered [] = refl
  all_ordered (v ∷ vs) = all_put v (in_order vs) ∙ ap (λ (b : Bool). test v && b) (all_ordered vs)

  all_append : (vs : List RowedValue) (ws : List RowedValue)
      → list_all test (values_of (vs ++ ws)) ≡ (list_all test (values_of vs) && list_all test (values_of ws))
  all_append [] ws = refl
  all_append (v ∷ vs) ws =
      ap (λ (b : Bool). test v.value && b) (all_append vs ws)
      ∙ sym (and_assoc (test v.value) (list_all test (values_of vs)) (list_all test (values_of ws)))

  all_flat : (rows : List (List RowedValue)) → list_all test (values_of (flat_map (λ r. r) rows))
      ≡ list_all (list_all test) (map values_of rows)
  all_flat [] = refl
  all_flat (r ∷ rows) =
      all_append r (flat_map (λ r. r) rows) ∙ ap (λ (b : Bool). list_all test (values_of r) && b) (all_flat rows)

  all_rows : (recording : Recording) (low count : ℕ)
      → list_all (list_all test) (map (row_values recording) (range_with_len low count))
      ≡ list_all (list_all test) (map values_of (rows_from row low count recording.values))
  all_rows recording low zero = refl
  all_rows recording low (suc count) = λ j. one recording.sorts j && all_rows recording (low + 1) count j
    where
      one : (b : Bool) → list_all test (cond b (in_order (values_of (of_row row recording.values low)))
          (values_of (of_row row recording.values low)))
          ≡ list_all test (values_of (of_row row recording.values low))
      one true = all_ordered (values_of (of_row row recording.values low))
      one false = refl

  -- all values pass where those of all rows do
  pub all_values : (recording : Recording) (count : ℕ) → Rise row 0 recording.values
      → AllByRecursion (λ v. v.row < count) recording.values
      → list_all test (values_of recording.values) ≡ list_all (list_all test) (rows_in count recording)
  all_values recording count rise all =
      sym (ap (λ (vs : List RowedValue). list_all test (values_of vs))
      (in_a_row row 0 count recording.values rise (under recording.values all)))
      ∙ all_flat (rows_from row 0 count recording.values) ∙ sym (all_rows recording 0 count)
    where
      under : (vs : List RowedValue) → AllByRecursion (λ v. v.row < count) vs
          → AllByRecursion (λ v. row v < 0 + count) vs
      under [] below = tt
      under (v ∷ vs) below = (omega (arith, below.0), under vs below.1)

-- ---- rows with a value

filled_order : (vs : List ColumnValue) → is_filled vs ≡ true → is_filled (in_order vs) ≡ true
filled_order [] e = e
filled_order (v ∷ vs) e = by (in_order vs)
  where
    by : (ws : List ColumnValue) → is_filled (put_in_order v ws) ≡ true
    by [] = refl
    by (w ∷ ws) = either (is_gt (value_cmp v w))
      where
        either : (b : Bool) → is_filled (cond b (w ∷ put_in_order v ws) (v ∷ w ∷ ws)) ≡ true
        either true = refl
        either false = refl

filled_here : (recording : Recording) (v : RowedValue) (vs : List RowedValue) → recording.values ≡ v ∷ vs
    → is_filled (row_values recording v.row) ≡ true
filled_here recording v vs is = by recording.sorts (ap (λ (l : List RowedValue). is_filled (values_of (of_row row l v.row))) is ∙ first)
  where
    first : is_filled (values_of (of_row row (v ∷ vs) v.row)) ≡ true
    first = ap (λ (b : Bool). is_filled (values_of (cond b (v ∷ of_row row vs v.row) (of_row row vs v.row))))
        ((Decides-eqb v.row v.row).1 refl)

    by : (b : Bool) → is_filled (values_of (of_row row recording.values v.row)) ≡ true
        → is_filled (cond b (in_order (values_of (of_row row recording.values v.row)))
        (values_of (of_row row recording.values v.row))) ≡ true
    by true e = filled_order (values_of (of_row row recording.values v.row)) e
    by false e = e

none_filled : (recording : Recording) (low count : ℕ) → recording.values ≡ []
    → list_any is_filled (map (row_values recording) (range_with_len low count)) ≡ false
none_filled recording low zero none = refl
none_filled recording low (suc count) none = λ j. empty recording.sorts j || none_filled recording (low + 1) count none j
  where
    empty : (b : Bool) → is_filled (cond b (in_order (values_of (of_row row recording.values low)))
        (values_of (of_row row recording.values low))) ≡ false
    empty true = ap (λ (l : List RowedValue). is_filled (in_order (values_of (of_row row l low)))) none
    empty false = ap (λ (l : List RowedValue). is_filled (values_of (of_row row l low))) none

pub filled_is : (recording : Recording) (count : ℕ) → AllByRecursion (λ v. v.row < count) recording.values
    → list_any is_filled (rows_in count recording) ≡ has_values recording.values
filled_is recording count all = by recording.values refl all
  where
    by : (vs : List RowedValue) → recording.values ≡ vs → AllByRecursion (λ v. v.row < count) vs
        → list_any is_filled (rows_in count recording) ≡ has_values vs
    by [] is below = none_filled recording 0 count is
    by (v ∷ vs) is below =
        list_any_at is_filled (rows_in count recording) v.row []
        (omega (arith, below.0, length-map (range_with_len 0 count) (row_values recording), length-range_with_len 0 count))
        (ap is_filled (get_or-map-range_with_len (row_values recording) 0 count v.row v.row [] below.0 (omega arith))
        ∙ filled_here recording v vs is)

-- ---- a good column

pub type_is : (recording : Recording) (count : ℕ) → Rise row 0 recording.values
    → AllByRecursion (λ v. v.row < count) recording.values
    → type_of_values recording.kind (values_of recording.values) ≡ type_of_rows recording.kind (rows_in count recording)
type_is recording count rise all = by recording.kind
  where
    last : (b : Bool) → (b && true) ≡ b
    last true = refl
    last false = refl

    numbers : free_number_type (values_of recording.values ∷ []) ≡ free_number_type (rows_in count recording)
    numbers = λ j. cond ((last (list_all fits_i64 (values_of recording.values)) ∙ all_values fits_i64 recording count rise all) j)
        (Some Rattle.seg_common.specs.declared.column_type.ColumnType.TheVariants.I64)
        (cond ((last (list_all is_not_negative (values_of recording.values))
        ∙ all_values is_not_negative recording count rise all) j)
        (Some Rattle.seg_common.specs.declared.column_type.ColumnType.TheVariants.U64) None)

    by : (k : ValueKind) → type_of_values k (values_of recording.values) ≡ type_of_rows k (rows_in count recording)
    by Number = numbers
    by Bytes = refl
    by Str = refl
    by Boolean = refl
    by IpAddr = refl
    by DateTime = refl

pub is_good : (count : ℕ) (c : ColumnRecord) → IsOfKind c.recording.kind c.recording.declared
    → Rise row 0 c.recording.values → AllByRecursion (λ v. v.row < count) c.recording.values
    → is_some (column_type_of c.recording) ≡ true → IsGood count c
is_good count c kind rise all typed = record {
  kind = kind;
  filled = filled_is c.recording count all;
  free = type_is c.recording count rise all;
  typed = typed;
}

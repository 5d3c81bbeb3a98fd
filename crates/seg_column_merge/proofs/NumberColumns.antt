-- The numbers that are written for a row of a column, and what they stand for.
use Rattle.std.proofs.Common.{◌≡◌, ℕ, ℤ, pos, negsuc, ◌+◌, ◌-◌, ◌<◌, ◌^◌, Bool, true, false, List, [], ◌∷◌, length, map, get_or, Some, refl, sym, ap, subst, arith}
use mathlib.Core.Bool.{true≢false}
use Rattle.std.specs.Prelude.{FitsSigned}
use Rattle.std.specs.Int.{w64, is_negative}
use Rattle.std.specs.List.{AllByRecursion}
use Rattle.std.proofs.lemmas.Int.{ints}
use Rattle.std.proofs.lemmas.List.{length-map}
use Rattle.seg_common.specs.MappableValues.{bit, is_bit, raised}
use Rattle.seg_common.specs.MappableLaws.{lowered-raised, lowered-sum, raised-fits}
use Rattle.seg_common.specs.declared.column_type.ColumnType.{ColumnType}
use Rattle.seg_common.specs.declared.column_type.ColumnType.TheVariants.{I64, U64, Bool as Boolean, DateTime}
use Rattle.seg_common.proofs.Lists.{get_or-map_map}
use Rattle.seg_model.specs.Columns.{ColumnValue, boolean_value, date_value, number}
use Rattle.seg_columns.specs.DynamicColumns.{numbers_of, type_of}
use Rattle.seg_columns.specs.declared.dynamic_column.DynamicColumn.{DynamicColumn}
use Rattle.seg_columns.specs.declared.dynamic_column.DynamicColumn.TheVariants as columns
use Rattle.seg_column_format.specs.ModelColumns.{column_rows}
use Rattle.seg_column_merge_parts.specs.ColumnSources.{number_map}
use Rattle.seg_column_merge_parts.specs.ImageValues.{value_in}
use Rattle.seg_column_merge_parts.specs.KeptColumns.{row_count_of}
use Rattle.seg_column_merge_parts.specs.SourceRows.{CanMap, mapped}
use Rattle.seg_column_merge_parts.specs.declared.number_map.NumberMap.{NumberMap}

-- ---- one number

-- a number that a column of a type may have
abbrev pub is_image_of : ColumnType → ℕ → Bool
is_image_of Boolean n = is_bit n
is_image_of _ n = true

-- what is written for a number, and that it stands for a value
pub record StandsFor (to : ColumnType) (m : NumberMap) (n : ℕ) (value : ColumnValue) : Type 0 where
  pub can : CanMap m n
  pub fits : mapped m n < 2 ^ 64
  pub image : is_image_of to (mapped m n) ≡ true
  pub read : value_in to (mapped m n) ≡ value

signed_same : (z : ℤ) → FitsSigned w64 z → StandsFor I64 (number_map I64 I64) (raised z) (number z)
signed_same z fits = record {
  can = tt;
  fits = raised-fits z fits;
  image = refl;
  read = ap number (lowered-raised z fits);
}

date_same : (z : ℤ) → FitsSigned w64 z → StandsFor DateTime (number_map DateTime DateTime) (raised z) (date_value z)
date_same z fits = record {
  can = tt;
  fits = raised-fits z fits;
  image = refl;
  read = ap date_value (lowered-raised z fits);
}

unsigned_same : (n : ℕ) → n < 2 ^ 64 → StandsFor U64 (number_map U64 U64) n (number (pos n))
unsigned_same n fits = record { can = tt; fits = fits; image = refl; read = refl }

lowered_back : (n : ℕ) → 2 ^ 63 + n - 2 ^ 63 ≡ n
lowered_back n = omega arith

signed_lowered : (z : ℤ) → FitsSigned w64 z × (is_negative z ≡ false)
    → StandsFor U64 (number_map I64 U64) (raised z) (number z)
signed_lowered (pos n) fits = record {
  can = omega arith;
  fits = omega (arith, ints, fits.0);
  image = refl;
  read = ap (λ (m : ℕ). number (pos m)) (lowered_back n);
}
signed_lowered (negsuc n) fits = absurd (true≢false fits.1)

unsigned_raised : (n : ℕ) → n < 2 ^ 63 → StandsFor I64 (number_map U64 I64) n (number (pos n))
unsigned_raised n fits = record {
  can = fits;
  fits = omega (arith, fits);
  image = refl;
  read = ap number (lowered-sum n);
}

truth_same : (b : Bool) → Unit {0} → StandsFor Boolean (number_map Boolean Boolean) (bit b) (boolean_value b)
truth_same true u = record { can = tt; fits = omega arith; image = refl; read = refl }
truth_same false u = record { can = tt; fits = omega arith; image = refl; read = refl }

-- ---- a row

-- what is written for the numbers of a row, and that they stand for values
pub record AreWritten (to : ColumnType) (m : NumberMap) (numbers : List ℕ) (values : List ColumnValue) : Type 0 where
  pub can : AllByRecursion (CanMap m) numbers
  pub images : AllByRecursion (λ n. (n < 2 ^ 64) × (is_image_of to n ≡ true)) (map (mapped m) numbers)
  pub read : map (value_in to) (map (mapped m) numbers) ≡ values

module _ (to : ColumnType) (m : NumberMap) {T : Type 0} (P : T → Type 0) (image : T → ℕ) (value : T → ColumnValue)
    (each : (x : T) → P x → StandsFor to m (image x) (value x)) where
  written : (xs : List T) → AllByRecursion P xs → AreWritten to m (map image xs) (map value xs)
  written [] all = record { can = tt; images = tt; read = refl }
  written (x ∷ xs) all =
      let here = each x all.0 in
      let rest = written xs all.1 in
      record {
        can = (here.can, rest.can);
        images = ((here.fits, here.image), rest.images);
        read = λ j. here.read j ∷ rest.read j;
      }

-- the numbers of a column, and what is written for those of a row
pub record IsNumberRow (to : ColumnType) (column : DynamicColumn) (row : ℕ) : Type 0 where
  pub numbers : List (List ℕ)
  pub is : numbers_of column ≡ Some numbers
  pub long : row_count_of column ≡ length numbers
  pub are : AreWritten to (number_map (type_of column) to) (get_or numbers row []) (get_or (column_rows column) row [])

-- the values of a row can be in a column of a type
abbrev pub RowSuits : ColumnType → DynamicColumn → ℕ → Type 0
RowSuits I64 (columns.I64 rows) row = AllByRecursion (FitsSigned w64) (get_or rows row [])
RowSuits U64 (columns.I64 rows) row = AllByRecursion (λ z. FitsSigned w64 z
    × (is_negative z ≡ false)) (get_or rows row [])
RowSuits U64 (columns.U64 rows) row = AllByRecursion (λ n. n < 2 ^ 64) (get_or rows row [])
RowSuits I64 (columns.U64 rows) row = AllByRecursion (λ n. n < 2 ^ 63) (get_or rows row [])
RowSuits Boolean (columns.Bool rows) row = AllByRecursion (λ b. Unit {0}) (get_or rows row [])
RowSuits DateTime (columns.DateTime rows) row = AllByRecursion (FitsSigned w64) (get_or rows row [])
RowSuits _ _ row = ⊥

by_rows : (to : ColumnType) (m : NumberMap) (numbers : List (List ℕ)) (values : List (List ColumnValue)) (row : ℕ)
    (ns : List ℕ) (vs : List ColumnValue) → get_or numbers row [] ≡ ns → get_or values row [] ≡ vs
    → AreWritten to m ns vs
    → AreWritten to m (get_or numbers row []) (get_or values row [])
by_rows to m numbers values row ns vs is are written =
    subst (λ (l : List ℕ). AreWritten to m l (get_or values row [])) (sym is)
    (subst (AreWritten to m ns) (sym are) written)

itself : (ns : List ℕ) → map (λ n. n) ns ≡ ns
itself [] = refl
itself (n ∷ ns) = ap (λ (l : List ℕ). n ∷ l) (itself ns)

pub number_row : (to : ColumnType) (column : DynamicColumn) (row : ℕ) → RowSuits to column row
    → IsNumberRow to column row
number_row I64 (columns.I64 rows) row suits = record {
  numbers = map (map raised) rows;
  is = refl;
  long = sym (length-map rows (map raised));
  are = by_rows I64 (number_map I64 I64) (map (map raised) rows) (map (map number) rows) row
      (map raised (get_or rows row [])) (map number (get_or rows row [])) (get_or-map_map raised rows row)
      (get_or-map_map number rows row)
      (written I64 (number_map I64 I64) (FitsSigned w64) raised number signed_same (get_or rows row []) suits);
}
number_row U64 (columns.I64 rows) row suits = record {
  numbers = map (map raised) rows;
  is = refl;
  long = sym (length-map rows (map raised));
  are = by_rows U64 (number_map I64 U64) (map (map raised) rows) (map (map number) rows) row
      (map raised (get_or rows row [])) (map number (get_or rows row [])) (get_or-map_map raised rows row)
      (get_or-map_map number rows row)
      (written U64 (number_map I64 U64) (λ z. FitsSigned w64 z × (is_negative z ≡ false)) raised number signed_lowered
      (get_or rows row []) suits);
}
number_row U64 (columns.U64 rows) row suits = record {
  numbers = rows;
  is = refl;
  long = refl;
  are = by_rows U64 (number_map U64 U64) rows (map (map (λ (n : ℕ). number (pos n))) rows) row
      (map (λ (n : ℕ). n) (get_or rows row [])) (map (λ (n : ℕ). number (pos n)) (get_or rows row []))
      (sym (itself (get_or rows row []))) (get_or-map_map (λ (n : ℕ). number (pos n)) rows row)
      (written U64 (number_map U64 U64) (λ n. n < 2 ^ 64) (λ n. n) (λ n. number (pos n)) unsigned_same
      (get_or rows row []) suits);
}
number_row I64 (columns.U64 rows) row suits = record {
  numbers = rows;
  is = refl;
  long = refl;
  are = by_rows I64 (number_map U64 I64) rows (map (map (λ (n : ℕ). number (pos n))) rows) row
      (map (λ (n : ℕ). n) (get_or rows row [])) (map (λ (n : ℕ). number (pos n)) (get_or rows row []))
      (sym (itself (get_or rows row []))) (get_or-map_map (λ (n : ℕ). number (pos n)) rows row)
      (written I64 (number_map U64 I64) (λ n. n < 2 ^ 63) (λ n. n) (λ n. number (pos n)) unsigned_raised
      (get_or rows row []) suits);
}
number_row Boolean (columns.Bool rows) row suits = record {
  numbers = map (map bit) rows;
  is = refl;
  long = sym (length-map rows (map bit));
  are = by_rows Boolean (number_map Boolean Boolean) (map (map bit) rows) (map (map boolean_value) rows) row
      (map bit (get_or rows row [])) (map boolean_value (get_or rows row [])) (get_or-map_map bit rows row)
      (get_or-map_map boolean_value rows row)
      (written Boolean (number_map Boolean Boolean) (λ b. Unit {0}) bit boolean_value truth_same
      (get_or rows row []) suits);
}
number_row DateTime (columns.DateTime rows) row suits = record {
  numbers = map (map raised) rows;
  is = refl;
  long = sym (length-map rows (map raised));
  are = by_rows DateTime (number_map DateTime DateTime) (map (map raised) rows) (map (map date_value) rows) row
      (map raised (get_or rows row [])) (map date_value (get_or rows row [])) (get_or-map_map raised rows row)
      (get_or-map_map date_value rows row)
      (written DateTime (number_map DateTime DateTime) (FitsSigned w64) raised date_value date_same (get_or rows row [])
      suits);
}
number_row _ _ row suits = absurd suits

-- A column of numbers, truth values or moments is what was recorded.
use Rattle.std.proofs.Common.{◌≡◌, ℕ, ◌<◌, ◌^◌, Bool, true, false, List, [], ◌∷◌, length, map, Option, Some, refl, sym, ap, subst, arith}
use Rattle.std.specs.Prelude.{FitsSigned, nat_lt, negsuc, pos}
use Rattle.std.specs.Int.{w64}
use Rattle.std.specs.List.{AllByRecursion}
use Rattle.std.specs.Ordering.{is_gt}
use Rattle.std.proofs.lemmas.Bool.{false≢true}
use Rattle.std.proofs.lemmas.Bool.Decides.{nat_tests}
use Rattle.std.specs.Option.{option_or}
use Rattle.seg_common.specs.MappableValues.{is_bit, lowered, raised}
use Rattle.seg_common.specs.MappableLaws.{lowered-raised}
use Rattle.seg_common.specs.declared.column_type.ColumnType.{ColumnType}
use Rattle.seg_common.specs.declared.column_type.ColumnType.TheVariants as types
use Rattle.seg_model.specs.Columns.{number as number_value}
use Rattle.seg_column_format.specs.ColumnBytes.{column_bytes, total}
use Rattle.seg_column_writer.specs.EncodedColumns.{AddsColumn, AddsValues, IsColumnBytes, image_of, imaged}
use Rattle.seg_column_format.specs.RowNumbers.{eight_bytes}
use Rattle.seg_column_writer.specs.ValueKinds.{kind_of}
use Rattle.seg_column_writer.specs.ColumnRecords.{Recording, RowedValue}
use Rattle.seg_column_writer.specs.RecordedColumns.{type_of_values, value_cmp}
use Rattle.seg_column_format.specs.ValuesByRow.{Rise, rows_from}
use Rattle.seg_column_writer.specs.RowValues.{integer_of, value_of}
use Rattle.seg_column_writer.specs.SoundColumns.{AreSound, Fits, has_terms, rowed}
use Rattle.seg_column_format.specs.declared.row_number.RowNumber.{RowNumber}
use Rattle.seg_column_writer.specs.declared.row_value.RowValue.{RowValue}
use Rattle.seg_column_writer.specs.declared.value_kind.ValueKind.{ValueKind}
use Rattle.seg_column_writer.specs.declared.value_kind.ValueKind.TheVariants.{Number, Bool as Boolean, DateTime}
use Rattle.seg_column_writer.proofs.AddedRows.{bytes_added, few, fit}
use Rattle.seg_column_writer.proofs.ArrangedValues.{all_before, all_of_rows, number, row, still_all}
use Rattle.seg_column_writer.proofs.ColumnParts.{column_bytes_are, signed_rising, truths_rising, unsigned_rising}
use Rattle.seg_column_writer.proofs.EncodedColumns.{Encodes, dates_encoded, seen_value, signed_encoded, truths_encoded, unsigned_encoded}
use Rattle.seg_column_writer.proofs.TypedValues.{IsOfType, each_of_type, kind_is}

-- ---- of each value

signed_seen : (b : Bool) (n : ℕ) → n < 2 ^ 63 → lowered (raised (integer_of b n)) ≡ integer_of b n
signed_seen false n lt =
    let fits : FitsSigned w64 (pos n) = omega (arith, lt) in lowered-raised (pos n) fits
signed_seen true n lt =
    let fits : FitsSigned w64 (negsuc n) = omega (arith, lt) in lowered-raised (negsuc n) fits

abbrev pub recorded : ValueKind → Option ColumnType → Bool → List (List ℕ) → List RowValue → Recording
recorded kind declared sorts terms values = record {
  kind = kind;
  declared = declared;
  sorts = sorts;
  values = map (rowed kind terms) values;
}

-- a column of the kind of its type
pub of_kind : (kind : ValueKind) (declared : Option ColumnType) (sorts : Bool) (terms : List (List ℕ))
    (values : List RowValue) (count : ℕ) (old new : List ℕ) (type : ColumnType) → kind ≡ kind_of type
    → AddsColumn (recorded (kind_of type) declared sorts terms values) type count old new
    → AddsColumn (recorded kind declared sorts terms values) type count old new
of_kind kind declared sorts terms values count old new type is adds =
    subst (λ (k : ValueKind). AddsColumn (recorded k declared sorts terms values) type count old new) (sym is) adds

module _ (declared : Option ColumnType) (terms : List (List ℕ)) (sorts : Bool) (values : List RowValue)
    (rise : Rise (λ (v : RowValue). v.row) 0 values) (count : ℕ)
    (below : AllByRecursion (λ (v : RowValue). v.row < count) values) (old new : List ℕ) where
  abbrev Adds : ColumnType → Type 0
  Adds type = AddsValues eight_bytes sorts (map (imaged type) values) count old new

  abbrev IsRecorded : ValueKind → ColumnType → Type 0
  IsRecorded kind type = AddsColumn (recorded kind declared sorts terms values) type count old new

  module _ (type : ColumnType) (a : AddsValues eight_bytes sorts (map (imaged type) values) count old new) where
    abbrev given : List RowNumber
    given = map (imaged type) values

    abbrev rows : List (List RowNumber)
    rows = rows_from row 0 count a.numbers

    abbrev bytes : List ℕ
    bytes = column_bytes eight_bytes rows

    enough : total rows < 2 ^ 64
    enough = few (image_of type) eight_bytes sorts values rise count below old new a

    all_fit : AllByRecursion (AllByRecursion (λ (v : RowNumber). number v < 2 ^ 64)) rows
    all_fit = fit (image_of type) eight_bytes sorts values rise count below old new a

    given_fit : AllByRecursion (λ (v : RowNumber). v.number < 2 ^ 64) given
    given_fit = all_before (λ (v : RowNumber). v.number < 2 ^ 64) sorts given a.numbers a.arranged a.added.fit

    added : (kind : ValueKind) → IsColumnBytes (recorded kind declared sorts terms values) type count bytes
        → IsRecorded kind type
    added kind are = record {
      bytes = bytes;
      are = are;
      added = bytes_added (image_of type) eight_bytes sorts values rise count below old new a;
    }

    -- what the numbers stand for is what was recorded
    seen_column : (kind : ValueKind)
        → AllByRecursion (λ (v : RowValue). seen_value type [] (image_of type v) ≡ value_of kind terms v) values
        → (P : ℕ → Type 0)
        → ((m n : ℕ) → P m → P n → is_gt (value_cmp (seen_value type [] m) (seen_value type [] n)) ≡ nat_lt n m)
        → AllByRecursion (λ (v : RowNumber). P v.number) given
        → Encodes number type [] rows bytes → IsRecorded kind type
    seen_column kind seen P rising each encodes = added kind
        (column_bytes_are kind terms (seen_value type []) (image_of type) declared sorts values a.numbers a.arranged
        seen P rising each type [] count bytes (λ n. refl) encodes)

  signed_column : Adds types.I64 → AllByRecursion (IsOfType types.I64) values → IsRecorded Number types.I64
  signed_column a each = seen_column types.I64 a Number (seen values each) (λ n. n < 2 ^ 64) signed_rising
      (given_fit types.I64 a) (signed_encoded number [] (rows types.I64 a) (enough types.I64 a) (all_fit types.I64 a))
    where
      seen : (vs : List RowValue) → AllByRecursion (IsOfType types.I64) vs
          → AllByRecursion (λ (v : RowValue). seen_value types.I64 [] (image_of types.I64 v) ≡ value_of Number terms v) vs
      seen [] each = tt
      seen (v ∷ vs) each = (ap number_value (signed_seen v.negative v.number each.0), seen vs each.1)

  unsigned_column : Adds types.U64 → AllByRecursion (IsOfType types.U64) values → IsRecorded Number types.U64
  unsigned_column a each = seen_column types.U64 a Number (seen values each) (λ n. n < 2 ^ 64)
      (λ m n lt under. unsigned_rising m n)
      (given_fit types.U64 a) (unsigned_encoded number [] (rows types.U64 a) (enough types.U64 a) (all_fit types.U64 a))
    where
      seen : (vs : List RowValue) → AllByRecursion (IsOfType types.U64) vs
          → AllByRecursion (λ (v : RowValue). seen_value types.U64 [] (image_of types.U64 v) ≡ value_of Number terms v) vs
      seen [] each = tt
      seen (v ∷ vs) each =
          (ap (λ (b : Bool). number_value (integer_of b v.number)) (sym each.0), seen vs each.1)

  dates_column : Adds types.DateTime → IsRecorded DateTime types.DateTime
  dates_column a = seen_column types.DateTime a DateTime (seen values) (λ n. n < 2 ^ 64) signed_rising
      (given_fit types.DateTime a)
      (dates_encoded number [] (rows types.DateTime a) (enough types.DateTime a) (all_fit types.DateTime a))
    where
      seen : (vs : List RowValue) → AllByRecursion
          (λ (v : RowValue). seen_value types.DateTime [] (image_of types.DateTime v) ≡ value_of DateTime terms v) vs
      seen [] = tt
      seen (v ∷ vs) = (refl, seen vs)

  truths_column : Adds types.Bool → AllByRecursion (Fits Boolean (length terms)) values → IsRecorded Boolean types.Bool
  truths_column a fits = seen_column types.Bool a Boolean (seen values) (λ n. is_bit n ≡ true) truths_rising
      (bits values fits)
      (truths_encoded number [] (rows types.Bool a) (enough types.Bool a) (all_fit types.Bool a)
      (all_of_rows (λ (v : RowNumber). is_bit v.number ≡ true) 0 count a.numbers
      (still_all (λ (v : RowNumber). is_bit v.number ≡ true) sorts (given types.Bool a) a.numbers a.arranged
      (bits values fits))))
    where
      seen : (vs : List RowValue) → AllByRecursion
          (λ (v : RowValue). seen_value types.Bool [] (image_of types.Bool v) ≡ value_of Boolean terms v) vs
      seen [] = tt
      seen (v ∷ vs) = (refl, seen vs)

      is_bit_below : (n : ℕ) → n < 2 → is_bit n ≡ true
      is_bit_below n lt = grind (arith, nat_tests, lt)

      bits : (vs : List RowValue) → AllByRecursion (Fits Boolean (length terms)) vs
          → AllByRecursion (λ (v : RowNumber). is_bit v.number ≡ true) (map (imaged types.Bool) vs)
      bits [] fits = tt
      bits (v ∷ vs) fits = (is_bit_below v.number fits.0, bits vs fits.1)

-- ---- all types without terms

module _ (kind : ValueKind) (declared : Option ColumnType) (signed unsigned : Bool) (values : List RowValue)
    (terms : List (List ℕ)) (sound : AreSound kind declared signed unsigned values terms) (sorts : Bool) (count : ℕ)
    (below : AllByRecursion (λ (v : RowValue). v.row < count) values) (old new : List ℕ) where
  pub images_column : (type : ColumnType)
      → option_or declared (type_of_values kind (map (λ (v : RowedValue). v.value) (map (rowed kind terms) values)))
      ≡ Some type → has_terms (kind_of type) ≡ false
      → AddsValues eight_bytes sorts (map (imaged type) values) count old new
      → AddsColumn (recorded kind declared sorts terms values) type count old new
  images_column types.I64 typed others a =
      of_kind kind declared sorts terms values count old new types.I64 (kind_is kind declared signed unsigned values terms sound types.I64 typed)
      (signed_column declared terms sorts values sound.rise count below old new a
      (each_of_type kind declared signed unsigned values terms sound types.I64 typed))
  images_column types.U64 typed others a =
      of_kind kind declared sorts terms values count old new types.U64 (kind_is kind declared signed unsigned values terms sound types.U64 typed)
      (unsigned_column declared terms sorts values sound.rise count below old new a
      (each_of_type kind declared signed unsigned values terms sound types.U64 typed))
  images_column types.Bytes typed others a = absurd (false≢true (sym others))
  images_column types.Str typed others a = absurd (false≢true (sym others))
  images_column types.Bool typed others a =
      let is : kind ≡ Boolean = kind_is kind declared signed unsigned values terms sound types.Bool typed in
      of_kind kind declared sorts terms values count old new types.Bool is
      (truths_column declared terms sorts values sound.rise count below old new a
      (subst (λ (k : ValueKind). AllByRecursion (Fits k (length terms)) values) is sound.fit))
  images_column types.IpAddr typed others a = absurd (false≢true (sym others))
  images_column types.DateTime typed others a =
      of_kind kind declared sorts terms values count old new types.DateTime (kind_is kind declared signed unsigned values terms sound types.DateTime typed)
      (dates_column declared terms sorts values sound.rise count below old new a)

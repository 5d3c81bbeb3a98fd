-- Values of a column by their numbers.
use Rattle.std.specs.Prelude.{ℕ, ℤ, pos, negsuc, ◌^◌, List, [], Bool, true, false, get_or, nat_lt, not}
use Rattle.seg_common.specs.MappableValues.{lowered, is_one}
use Rattle.seg_model.specs.Columns.{ColumnValue, number, bytes_value, text_value, boolean_value, ip_value, date_value}
use Rattle.seg_column_writer.specs.declared.numerical_value.NumericalValue.{NumericalValue}
use Rattle.seg_column_writer.specs.declared.numerical_value.NumericalValue.TheVariants as numbers
use Rattle.seg_column_writer.specs.declared.row_value.RowValue.{RowValue}
use Rattle.seg_column_writer.specs.declared.value_kind.ValueKind.{ValueKind}
use Rattle.seg_column_writer.specs.declared.value_kind.ValueKind.TheVariants.{Number, Bytes, Str, Bool as Boolean, IpAddr, DateTime}

-- the whole number that a caller records
abbrev pub number_in : NumericalValue → ℤ
number_in (numbers.I64 z) = z
number_in (numbers.U64 n) = pos n

-- a number from 0 on, or one that is as far below -1
abbrev pub integer_of : Bool → ℕ → ℤ
integer_of false n = pos n
integer_of true n = negsuc n

-- whether the whole number of a value is from -2^63 to 2^63 - 1
abbrev pub fits_signed : RowValue → Bool
fits_signed v = nat_lt v.number (2 ^ 63)

-- whether it is 0 or more
abbrev pub fits_unsigned : RowValue → Bool
fits_unsigned v = not v.negative

-- the value of a kind that a number stands for; texts, bytes and addresses by their terms
abbrev pub value_of : ValueKind → List (List ℕ) → RowValue → ColumnValue
value_of Number terms v = number (integer_of v.negative v.number)
value_of Bytes terms v = bytes_value (get_or terms v.number [])
value_of Str terms v = text_value (get_or terms v.number [])
value_of Boolean terms v = boolean_value (is_one v.number)
value_of IpAddr terms v = ip_value (get_or terms v.number [])
value_of DateTime terms v = date_value (lowered v.number)

-- the value of a kind that a term is
abbrev pub term_value : ValueKind → List ℕ → ColumnValue
term_value Str term = text_value term
term_value IpAddr term = ip_value term
term_value _ term = bytes_value term

-- The values that numbers stand for in the columns of a type.
use Rattle.std.specs.Prelude.{ℕ, pos}
use Rattle.seg_common.specs.MappableValues.{lowered, is_one}
use Rattle.seg_common.specs.declared.column_type.ColumnType.{ColumnType}
use Rattle.seg_common.specs.declared.column_type.ColumnType.TheVariants.{I64, Bool as Boolean, DateTime}
use Rattle.seg_model.specs.Columns.{ColumnValue, number, boolean_value, date_value}

-- in a column of bytes, texts or addresses none does
abbrev pub value_in : ColumnType → ℕ → ColumnValue
value_in I64 n = number (lowered n)
value_in Boolean n = boolean_value (is_one n)
value_in DateTime n = date_value (lowered n)
value_in _ n = number (pos n)

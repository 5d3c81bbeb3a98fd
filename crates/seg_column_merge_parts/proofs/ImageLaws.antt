-- A number that is written for another one stands for the same value.
use Rattle.std.proofs.Common.{◌≡◌, ℕ, refl, ap}
use Rattle.seg_common.specs.MappableLaws.{lowered-sum, lowered-large}
use Rattle.seg_common.specs.declared.column_type.ColumnType.{ColumnType}
use Rattle.seg_common.specs.declared.column_type.ColumnType.TheVariants.{I64, U64}
use Rattle.seg_model.specs.Columns.{number}
use Rattle.seg_column_merge_parts.specs.ColumnSources.{number_map}
use Rattle.seg_column_merge_parts.specs.ImageValues.{value_in}
use Rattle.seg_column_merge_parts.specs.SourceRows.{CanMap, mapped}

-- an unsigned number in a column of signed ones
pub raised_value : (n : ℕ) → CanMap (number_map U64 I64) n
    → value_in I64 (mapped (number_map U64 I64) n) ≡ value_in U64 n
raised_value n can = ap number (lowered-sum n)

-- a signed number that isn't negative in a column of unsigned ones
pub lowered_value : (n : ℕ) → CanMap (number_map I64 U64) n
    → value_in U64 (mapped (number_map I64 U64) n) ≡ value_in I64 n
lowered_value n can = ap number (lowered-large n can)

-- any number in a column of its own type
pub same_value : (type : ColumnType) (n : ℕ) → value_in type (mapped (number_map type type) n) ≡ value_in type n
same_value I64 n = refl
same_value U64 n = refl
same_value _ n = refl

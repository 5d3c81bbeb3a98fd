-- Which types hold some numbers.
use Rattle.std.specs.Prelude.{ℕ, ◌^◌, ℤ, Bool, true, false, not, ◌||◌, nat_lt, List, [], ◌∷◌, Option, Some, None, if◌then◌else◌}
use Rattle.std.specs.Int.{is_negative}
use Rattle.seg_common.specs.declared.column_type.ColumnType.{ColumnType}
use Rattle.seg_common.specs.declared.column_type.ColumnType.TheVariants.{I64, U64}
use Rattle.seg_column_merge_parts.specs.declared.number_range.NumberRange.{NumberRange}

-- no number so far
abbrev pub no_numbers : NumberRange
no_numbers = record { some = false; negative = false; large = false }

-- a number that no i64 is
abbrev pub is_large : ℕ → Bool
is_large n = not (nat_lt n (2 ^ 63))

-- with one more signed number
abbrev pub with_signed : NumberRange → ℤ → NumberRange
with_signed range z = record { some = true; negative = range.negative || is_negative z; large = range.large }

-- with one more unsigned number
abbrev pub with_unsigned : NumberRange → ℕ → NumberRange
with_unsigned range n = record { some = true; negative = range.negative; large = range.large || is_large n }

abbrev pub with_all : {T : Type 0} → (NumberRange → T → NumberRange) → NumberRange → List T → NumberRange
with_all next range [] = range
with_all next range (x ∷ xs) = with_all next (next range x) xs

-- the type of such numbers, where one holds them
abbrev pub type_of_range : NumberRange → Option ColumnType
type_of_range range = if range.large then (if range.negative then None else Some U64) else Some I64

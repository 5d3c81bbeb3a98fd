-- Moments cut to a unit.
use Rattle.std.specs.Prelude.{ℕ, ℤ, pos, ◌*ℤ◌, int_div}
use Rattle.seg_common.specs.declared.precision.DateTimePrecision.{DateTimePrecision}
use Rattle.seg_common.specs.declared.precision.DateTimePrecision.TheVariants.{Seconds, Milliseconds, Microseconds, Nanoseconds}

-- nanoseconds cut to a multiple of a unit, toward zero
abbrev pub cut_to : ℕ → ℤ → ℤ
cut_to unit nanos = int_div nanos (pos unit) *ℤ pos unit

abbrev pub nanos_in_second : ℕ
nanos_in_second = 1000000000

-- the nanoseconds in a precision's unit
abbrev pub precision_unit : DateTimePrecision → ℕ
precision_unit Seconds = nanos_in_second
precision_unit Milliseconds = 1000000
precision_unit Microseconds = 1000
precision_unit Nanoseconds = 1

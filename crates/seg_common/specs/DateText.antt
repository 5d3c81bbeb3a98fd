-- The text of a moment: RFC 3339 in UTC.
use Rattle.std.specs.Prelude.{ℕ, ◌*◌, ◌/◌, ◌%◌, ◌^◌, ℤ, pos, unsigned_abs, List, [], ◌∷◌, ◌++◌, ◌==◌, if◌then◌else◌, codes}
use Rattle.std.specs.Int.{int_div_euclid, int_rem_euclid}
use Rattle.seg_common.specs.CivilCalendar.{year_of, month_of, day_of_month}
use Rattle.seg_common.specs.DateDigits.{digits_text, without_last_zeros}

-- the nanoseconds of a day
abbrev pub day_nanos : ℕ
day_nanos = 86400 * 10 ^ 9

-- `yyyy-mm-dd`
abbrev pub civil_text : ℕ → ℕ → ℕ → List ℕ
civil_text year month day = digits_text 4 year
    ++ (codes "-" ++ (digits_text 2 month ++ (codes "-" ++ digits_text 2 day)))

-- the date of a day number
abbrev pub day_text : ℤ → List ℕ
day_text day = civil_text (year_of day) (month_of day) (day_of_month day)

-- nothing for no nanoseconds, else a point and their digits
abbrev pub fraction_text : ℕ → List ℕ
fraction_text nanos = if nanos == 0 then [] else 46 ∷ without_last_zeros (digits_text 9 nanos)

-- `hh:mm:ss`, of the seconds since midnight
abbrev pub clock_text : ℕ → List ℕ
clock_text seconds = digits_text 2 (seconds / 3600)
    ++ (codes ":" ++ (digits_text 2 (seconds / 60 % 60) ++ (codes ":" ++ digits_text 2 (seconds % 60))))

-- the time of day and its fraction, of the nanoseconds since midnight
abbrev pub time_text : ℕ → List ℕ
time_text nanos = clock_text (nanos / 10 ^ 9) ++ fraction_text (nanos % 10 ^ 9)

-- the date, `T`, the time, `Z`, of the nanoseconds since 1970-01-01T00:00:00Z
unfoldable pub date_text : ℤ → List ℕ
date_text moment =
    day_text (int_div_euclid moment (pos day_nanos))
    ++ (codes "T" ++ (time_text (unsigned_abs (int_rem_euclid moment (pos day_nanos))) ++ codes "Z"))

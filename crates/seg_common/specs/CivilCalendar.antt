-- Year, month and day of a day number, by the civil calendar of jiff. Day 0 is 1970-01-01.
use Rattle.std.specs.Prelude.{ℕ, zero, suc, ◌+◌, Bool, ◌&&◌, if◌then◌else◌, ℤ, pos, ◌-ℤ◌, int_le, unsigned_abs}
use Rattle.std.specs.Int.{is_in_range}
use Rattle.jiff_core.specs.Calendar.{days_from_civil, days_in_month}

-- the calendar has this date
abbrev pub is_civil_date : ℕ → ℕ → ℕ → Bool
is_civil_date year month day = is_in_range 1 12 month && is_in_range 1 (days_in_month (pos year) month) day

-- a date has come by a day
abbrev pub has_come : ℕ → ℕ → ℕ → ℤ → Bool
has_come year month day today = int_le (days_from_civil (pos year) month day) today

-- the greatest number up to a bound that passes a test; 0 where none from 1 on does
unfoldable pub last_to : ℕ → (ℕ → Bool) → ℕ
last_to zero test = 0
last_to (suc n) test = if test (suc n) then suc n else last_to n test

-- the last year whose first day has come
abbrev pub year_of : ℤ → ℕ
year_of day = last_to 9999 (λ year. has_come year 1 1 day)

-- the last month of that year whose first day has come
abbrev pub month_of : ℤ → ℕ
month_of day = last_to 12 (λ month. has_come (year_of day) month 1 day)

-- the place in that month, from 1
abbrev pub day_of_month : ℤ → ℕ
day_of_month day = unsigned_abs (day -ℤ days_from_civil (pos (year_of day)) (month_of day) 1) + 1

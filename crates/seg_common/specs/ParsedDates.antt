-- The moment of a text of RFC 3339, as the nanoseconds since 1970-01-01T00:00:00Z that 64 bits hold. Its first 19 bytes
-- are `yyyy-mm-ddThh:mm:ss`; after these come a fraction, or none, and the offset from UTC.
use Rattle.std.specs.Prelude.{ℕ, ◌+◌, ◌*◌, ◌^◌, ℤ, pos, neg_ℤ, ◌+ℤ◌, ◌-ℤ◌, ◌*ℤ◌, int_le, int_lt, List, [], ◌∷◌, length, take, drop, ◌==◌, nat_lt, nat_le, ◌&&◌, Option, Some, None, if◌then◌else◌, slice_index, slice_range}
use Rattle.std.specs.Char.{is_ascii_digit, eq_ignore_ascii_case}
use Rattle.std.specs.List.{prefix_len}
use Rattle.jiff_core.specs.Calendar.{days_from_civil}
use Rattle.seg_common.specs.CivilCalendar.{is_civil_date}
use Rattle.seg_common.specs.DateDigits.{number_of, parts_of}

-- the day number of a year, a month and a day that were read
abbrev pub civil_day : Option ℕ → Option ℕ → Option ℕ → Option ℤ
civil_day (Some year) (Some month) (Some day) = if is_civil_date year month day
    then Some (days_from_civil (pos year) month day) else None
civil_day _ _ _ = None

-- `yyyy-mm-dd`: its day number
abbrev pub day_read : List ℕ → Option ℤ
day_read text =
    if (slice_index text 4 == 45) && (slice_index text 7 == 45)
    then civil_day (number_of (slice_range text 0 4)) (number_of (slice_range text 5 7))
    (number_of (slice_range text 8 10))
    else None

-- the seconds since midnight of an hour, a minute and a second that were read
abbrev pub clock_seconds : Option ℕ → Option ℕ → Option ℕ → Option ℕ
clock_seconds (Some hour) (Some minute) (Some second) = if nat_lt hour 24 && nat_lt minute 60 && nat_lt second 60
    then Some (hour * 3600 + minute * 60 + second) else None
clock_seconds _ _ _ = None

-- `hh:mm:ss`: its seconds since midnight
abbrev pub clock_read : List ℕ → Option ℕ
clock_read text =
    if (slice_index text 2 == 58) && (slice_index text 5 == 58)
    then clock_seconds (number_of (slice_range text 0 2)) (number_of (slice_range text 3 5))
    (number_of (slice_range text 6 8))
    else None

-- how many bytes a fraction takes that stands first: a point and digits
abbrev pub fraction_len : List ℕ → ℕ
fraction_len [] = 0
fraction_len (point ∷ rest) = if point == 46 then 1 + prefix_len is_ascii_digit rest else 0

-- its nanoseconds, of which it tells nine digits; a point needs a digit after it
abbrev pub fraction_read : List ℕ → Option ℕ
fraction_read [] = Some 0
fraction_read (point ∷ []) = None
fraction_read (point ∷ digit ∷ digits) = Some (parts_of (10 ^ 9) (digit ∷ digits))

-- minutes east of UTC with `+`, west of it with `-`
abbrev pub signed_minutes : ℕ → ℕ → Option ℤ
signed_minutes sign minutes = if sign == 43 then Some (pos minutes)
    else (if sign == 45 then Some (neg_ℤ (pos minutes)) else None)

abbrev pub offset_minutes : ℕ → Option ℕ → Option ℕ → Option ℤ
offset_minutes sign (Some hours) (Some minutes) = if nat_lt hours 24 && nat_lt minutes 60
    then signed_minutes sign (hours * 60 + minutes) else None
offset_minutes sign _ _ = None

-- `Z` in either case, or `+hh:mm` or `-hh:mm`: the minutes by which the clock is ahead of UTC
abbrev pub offset_read : List ℕ → Option ℤ
offset_read text =
    if length text == 1 then (if eq_ignore_ascii_case (slice_index text 0) 90 then Some (pos 0) else None)
    else (if (length text == 6) && (slice_index text 3 == 58)
    then offset_minutes (slice_index text 0) (number_of (slice_range text 1 3)) (number_of (slice_range text 4 6))
    else None)

-- a moment that 64 bits hold
abbrev pub held : ℤ → Option ℤ
held moment = if int_le (neg_ℤ (pos (2 ^ 63))) moment && int_lt moment (pos (2 ^ 63)) then Some moment else None

-- the nanoseconds in UTC at which a clock that is this many minutes ahead shows this
abbrev pub utc_nanos : ℤ → ℕ → ℕ → ℤ → ℤ
utc_nanos day seconds nanos offset = (day *ℤ pos 86400 +ℤ pos seconds -ℤ offset *ℤ pos 60) *ℤ pos (10 ^ 9) +ℤ pos nanos

-- the moment of a day, a time, a fraction and an offset that were read
abbrev pub moment_of : Option ℤ → Option ℕ → Option ℕ → Option ℤ → Option ℤ
moment_of (Some day) (Some seconds) (Some nanos) (Some offset) = held (utc_nanos day seconds nanos offset)
moment_of _ _ _ _ = None

-- what stands after the first 19 bytes
abbrev pub rest_of : List ℕ → List ℕ
rest_of text = drop 19 text

-- the moment that a text tells
unfoldable pub date_of : List ℕ → Option ℤ
date_of text =
    if nat_le 19 (length text) && eq_ignore_ascii_case (slice_index text 10) 84
    then moment_of (day_read (slice_range text 0 10)) (clock_read (slice_range text 11 19))
    (fraction_read (take (fraction_len (rest_of text)) (rest_of text)))
    (offset_read (drop (fraction_len (rest_of text)) (rest_of text)))
    else None

-- What is read of each part of a text.
use Rattle.std.proofs.Common.{◌≡◌, ℕ, ◌+◌, ◌-◌, ◌*◌, ◌^◌, ◌<◌, ◌≤◌, ◌==◌, ◌&&◌, ℤ, pos, negsuc, neg_ℤ, Bool, true, false, List, Option, Some, None, length, if◌then◌else◌, nat_le, nat_lt, slice_index, slice_range, refl, sym, ap, subst, ◌∙◌, arith, rules}
use Rattle.std.specs.Int.{IsInRange, is_in_range}
use Rattle.std.proofs.lemmas.Bool.{false≢true}
use Rattle.std.proofs.lemmas.Bool.Decides.{nat_tests}
use Rattle.std.proofs.lemmas.Int.{to_z-of_z}
use Rattle.jiff_core.specs.declared.civil.date.Date.{Date}
use Rattle.jiff_core.specs.Calendar.{IsDate, days_from_civil, days_in_month}
use Rattle.jiff_core.specs.Date.{epoch_day, IsYmd}
use Rattle.jiff_core.proofs.SignedLemmas.{signed_arith}
use Rattle.seg_common.specs.CivilCalendar.{is_civil_date}
use Rattle.seg_common.specs.ParsedDates.{civil_day, day_read, held, offset_minutes, offset_read}
use Rattle.seg_common.specs.DateDigits.{number_of}
use mir.Syntax.{w64}
use mir.Val.{to_z, of_z, SFits}

by_marks : (a b : ℕ) (year month day : Option ℕ) (y m d : ℕ) → a ≡ 45 → b ≡ 45 → Some y ≡ year → Some m ≡ month → Some d ≡ day → (if (a == 45) && (b == 45) then civil_day year month day else None) ≡ civil_day (Some y) (Some m) (Some d)
by_marks a b year month day y m d first second is_year is_month is_day = rw (first, second, ← is_year, ← is_month, ← is_day)

pub day_read_is : (text : List ℕ) (y m d : ℕ) → slice_index text 4 ≡ 45 → slice_index text 7 ≡ 45 → Some y ≡ number_of (slice_range text 0 4) → Some m ≡ number_of (slice_range text 5 7) → Some d ≡ number_of (slice_range text 8 10) → day_read text ≡ civil_day (Some y) (Some m) (Some d)
day_read_is text y m d = by_marks (slice_index text 4) (slice_index text 7) (number_of (slice_range text 0 4)) (number_of (slice_range text 5 7)) (number_of (slice_range text 8 10)) y m d

is_civil : (y m d : ℕ) → IsInRange 1 12 m → IsInRange 1 (days_in_month (pos y) m) d → is_civil_date y m d ≡ true
is_civil y m d month day = within (days_in_month (pos y) m) day
  where
    within : (n : ℕ) → IsInRange 1 n d → (is_in_range 1 12 m && is_in_range 1 n d) ≡ true
    within n h = grind (arith, nat_tests)

civil_parts : (y m d : ℕ) → is_civil_date y m d ≡ true → IsInRange 1 12 m × IsInRange 1 (days_in_month (pos y) m) d
civil_parts y m d h = within (days_in_month (pos y) m) h
  where
    within : (n : ℕ) → (is_in_range 1 12 m && is_in_range 1 n d) ≡ true → IsInRange 1 12 m × IsInRange 1 n d
    within n k = grind (arith, nat_tests)

-- where the calendar has no such date, none is read
pub no_date : (y m d : ℕ) → y < 10 ^ 4 → (IsDate (pos y) (pos m) (pos d) → false ≡ true) → civil_day (Some y) (Some m) (Some d) ≡ None
no_date y m d small none = by_test (is_civil_date y m d) (days_from_civil (pos y) m d) refl
  where
    by_test : (b : Bool) (day : ℤ) → is_civil_date y m d ≡ b → (if b then Some day else None) ≡ None
    by_test true day e =
        let parts = civil_parts y m d e in
        absurd (false≢true (none ((omega (arith, signed_arith), omega (arith, signed_arith)), (omega (arith, signed_arith, parts.0), omega (arith, signed_arith, parts.0)), (omega (arith, signed_arith, parts.1), omega (arith, signed_arith, parts.1)))))
    by_test false day e = refl

-- else its day number
pub the_date : (y m d : ℕ) (date : Date) → IsYmd (pos y) (pos m) (pos d) date → civil_day (Some y) (Some m) (Some d) ≡ Some (epoch_day date)
the_date y m d date is =
    let month : date.month ≡ m = omega (arith, signed_arith, is.1) in
    let day : date.day ≡ d = omega (arith, signed_arith, is.2) in
    let day_in = subst (λ z. IsInRange 1 (days_in_month z m) d) is.0 (subst (λ n. IsInRange 1 (days_in_month date.year n) d) month (subst (λ n. IsInRange 1 (days_in_month date.year date.month) n) day date.day_in)) in
    let has : is_civil_date y m d ≡ true = is_civil y m d (subst (IsInRange 1 12) month date.month_in) day_in in
    by_test (is_civil_date y m d) has (ap (λ z. days_from_civil z m d) (sym is.0) ∙ ap (λ n. days_from_civil date.year n d) (sym month) ∙ ap (λ n. days_from_civil date.year date.month n) (sym day))
  where
    by_test : (b : Bool) {found wanted : ℤ} → b ≡ true → found ≡ wanted → (if b then Some found else None) ≡ Some wanted
    by_test true e same = ap Some same
    by_test false e same = absurd (false≢true e)

pub civil_read : (y m d : ℕ) → IsInRange 1 12 m → IsInRange 1 (days_in_month (pos y) m) d → civil_day (Some y) (Some m) (Some d) ≡ Some (days_from_civil (pos y) m d)
civil_read y m d month day = by_test (is_civil_date y m d) (days_from_civil (pos y) m d) (is_civil y m d month day)
  where
    by_test : (b : Bool) (found : ℤ) → b ≡ true → (if b then Some found else None) ≡ Some found
    by_test true found e = refl
    by_test false found e = absurd (false≢true e)

-- the same of the signed numbers that the code hands on
pub no_date_read : (text : List ℕ) (y m d : ℕ) (year month day : ℤ) → slice_index text 4 ≡ 45 → slice_index text 7 ≡ 45 → Some y ≡ number_of (slice_range text 0 4) → Some m ≡ number_of (slice_range text 5 7) → Some d ≡ number_of (slice_range text 8 10) → year ≡ pos y → month ≡ pos m → day ≡ pos d → y < 10 ^ 4 → (IsDate year month day → false ≡ true) → None ≡ day_read text
no_date_read text y m d year month day first second is_year is_month is_day same_year same_month same_day small none =
    sym (day_read_is text y m d first second is_year is_month is_day ∙ no_date y m d small (λ h. none (along h)))
  where
    along : IsDate (pos y) (pos m) (pos d) → IsDate year month day
    along h = rw (same_year, same_month, same_day) h

pub date_read : (text : List ℕ) (y m d : ℕ) (year month day : ℤ) (date : Date) (found : ℤ) → slice_index text 4 ≡ 45 → slice_index text 7 ≡ 45 → Some y ≡ number_of (slice_range text 0 4) → Some m ≡ number_of (slice_range text 5 7) → Some d ≡ number_of (slice_range text 8 10) → year ≡ pos y → month ≡ pos m → day ≡ pos d → IsYmd year month day date → found ≡ epoch_day date → Some found ≡ day_read text
date_read text y m d year month day date found first second is_year is_month is_day same_year same_month same_day ymd same =
    ap Some same ∙ sym (day_read_is text y m d first second is_year is_month is_day ∙ the_date y m d date (ymd.0 ∙ same_year, ymd.1 ∙ same_month, ymd.2 ∙ same_day))

by_zone : (len a sign : ℕ) (hours minutes : Option ℕ) (h m : ℕ) (zulu : Option ℤ) → len ≡ 6 → a ≡ 58 → sign ≡ 45 → Some h ≡ hours → Some m ≡ minutes → h ≤ 23 → m ≤ 59 → (if len == 1 then zulu else (if (len == 6) && (a == 58) then offset_minutes sign hours minutes else None)) ≡ Some (neg_ℤ (pos (h * 60 + m)))
by_zone len a sign hours minutes h m zulu six colon west is_hours is_minutes low high =
    let first : nat_lt h 24 ≡ true = grind (arith, nat_tests) in
    let second : nat_lt m 60 ≡ true = grind (arith, nat_tests) in
    rw (six, colon, west, ← is_hours, ← is_minutes, first, second)

-- an offset to the west
pub west_read : (text : List ℕ) (h m : ℕ) → length text ≡ 6 → slice_index text 3 ≡ 58 → slice_index text 0 ≡ 45 → Some h ≡ number_of (slice_range text 1 3) → Some m ≡ number_of (slice_range text 4 6) → h ≤ 23 → m ≤ 59 → offset_read text ≡ Some (neg_ℤ (pos (h * 60 + m)))
west_read text h m = by_zone (length text) (slice_index text 3) (slice_index text 0) (number_of (slice_range text 1 3)) (number_of (slice_range text 4 6)) h m _

pub held_fits : (z : ℤ) → SFits w64 z → held z ≡ Some z
held_fits (pos n) h = grind (arith, nat_tests)
held_fits (negsuc n) h = grind (arith, nat_tests)

pub not_held : (z : ℤ) → (SFits w64 z → ⊥) → held z ≡ None
not_held (pos n) h = past n (2 ^ 63) (λ lt. h (search rules))
  where
    past : (a b : ℕ) → (a < b → ⊥) → (if nat_lt a b then Some (pos n) else None) ≡ None
    past a b k = grind (arith, nat_tests, k)
not_held (negsuc n) h = past n (2 ^ 63 - 1) (λ le. h (fits (omega arith)))
  where
    fits : n < 2 ^ 63 → SFits w64 (negsuc n)
    fits lt = search rules

    past : (a b : ℕ) → (a ≤ b → ⊥) → (if nat_le a b && true then Some (negsuc n) else None) ≡ None
    past a b k = grind (arith, nat_tests, k)

-- a moment that was tried as 64 bits
pub moment_told : (r n tried utc : ℤ) → r ≡ to_z w64 (of_z w64 n) → SFits w64 tried × (n ≡ tried) → tried ≡ utc → Some r ≡ held utc
moment_told r n tried utc is fits same =
    let e : to_z w64 (of_z w64 n) ≡ utc = ap (λ z. to_z w64 (of_z w64 z)) fits.1 ∙ to_z-of_z w64 tried fits.0 ∙ same in
    ap Some (is ∙ e) ∙ sym (held_fits utc (subst (SFits w64) same fits.0))

pub moment_lost : (tried utc : ℤ) → (SFits w64 tried → ⊥) → tried ≡ utc → None ≡ held utc
moment_lost tried utc out same = sym (not_held utc (subst (λ z. SFits w64 z → ⊥) same out))

-- A day number has the year, the month and the day that are searched for it.
use Rattle.std.proofs.Common.{◌≡◌, ℕ, zero, suc, ◌+◌, ◌<◌, ◌≤◌, ◌⊎◌, inl, inr, Bool, true, false, if◌then◌else◌, ℤ, pos, neg_ℤ, ◌+ℤ◌, ◌-ℤ◌, ◌<ℤ◌, ◌≤ℤ◌, unsigned_abs, refl, sym, ap, ◌∙◌, arith}
use Rattle.std.specs.Int.{IsInRange}
use Rattle.std.proofs.lemmas.Bool.{cases_lt}
use Rattle.jiff_core.specs.declared.civil.date.Date.{Date}
use Rattle.jiff_core.specs.Calendar.{days_from_civil, days_in_month, IsYear, IsCivilDate}
use Rattle.jiff_core.specs.Date.{epoch_day}
use Rattle.jiff_core.proofs.CalendarLemmas.{days_from_civil-day_count, day_count-day, day_count-end, day_count-next_month, day_count-next_year, day_count-last_of_year}
use Rattle.jiff_core.proofs.DateLemmas.{epoch_day_injective}
use Rattle.jiff_core.proofs.MarchLemmas.{day_count-early}
use Rattle.jiff_core.proofs.SignedLemmas.{one_part, signed_arith}
use Rattle.seg_common.specs.CivilCalendar.{has_come, last_to, year_of, month_of, day_of_month}

last_to-le : (n : ℕ) (test : ℕ → Bool) → last_to n test ≤ n
unfolding last_to
last_to-le zero test = omega arith
last_to-le (suc n) test = by_test (test (suc n)) (last_to-le n test)
  where
    by_test : (b : Bool) {last : ℕ} → last ≤ n → (if b then suc n else last) ≤ suc n
    by_test true h = omega arith
    by_test false h = omega arith

last_to-passes : (n : ℕ) (test : ℕ → Bool) → (last_to n test ≡ 0) ⊎ (test (last_to n test) ≡ true)
unfolding last_to
last_to-passes zero test = inl refl
last_to-passes (suc n) test = by_test (test (suc n)) refl (last_to-passes n test)
  where
    by_test : (b : Bool) {last : ℕ} → test (suc n) ≡ b → (last ≡ 0) ⊎ (test last ≡ true) → ((if b then suc n else last) ≡ 0) ⊎ (test (if b then suc n else last) ≡ true)
    by_test true e h = inr e
    by_test false e h = h

last_to-next : (n : ℕ) (test : ℕ → Bool) → last_to n test < n → test (suc (last_to n test)) ≡ false
unfolding last_to
last_to-next zero test h = absurd (omega arith)
last_to-next (suc n) test h = by_test (test (suc n)) (last_to n test) refl (last_to-le n test) (last_to-next n test) h
  where
    by_test : (b : Bool) (last : ℕ) → test (suc n) ≡ b → last ≤ n → (last < n → test (suc last) ≡ false) → (if b then suc n else last) < suc n → test (suc (if b then suc n else last)) ≡ false
    by_test true last e le before lt = absurd (omega arith)
    by_test false last e le before lt =
        elim (cases_lt last n) [
          | inl below ↦ before below
          | inr above ↦ let same : last ≡ n = omega arith in rw same e
        ]

-- 1 January of the year 0
first_day : days_from_civil (pos 0) 1 1 ≡ neg_ℤ (pos 719528)
first_day = omega (arith, signed_arith, days_from_civil-day_count, day_count-early (pos 0) 9999 1 1 refl (omega arith) (omega arith) (omega arith))

-- the year has begun, and the next one has not
year_frame : (day : ℤ) → neg_ℤ (pos 719528) ≤ℤ day → day ≤ℤ pos 2932896 → (days_from_civil (pos (year_of day)) 1 1 ≤ℤ day) × (day <ℤ days_from_civil (pos (suc (year_of day))) 1 1)
year_frame day low high = (begun (last_to-passes 9999 test), ended (cases_lt (last_to 9999 test) 9999))
  where
    test : ℕ → Bool
    test year = has_come year 1 1 day

    begun : (last_to 9999 (λ year. has_come year 1 1 day) ≡ 0) ⊎ (has_come (year_of day) 1 1 day ≡ true) → days_from_civil (pos (year_of day)) 1 1 ≤ℤ day
    begun (inl zero_year) = rw zero_year (omega (arith, signed_arith, first_day))
    begun (inr passes) = omega (arith, signed_arith, passes)

    ended : (year_of day < 9999) ⊎ (9999 ≤ year_of day) → day <ℤ days_from_civil (pos (suc (year_of day))) 1 1
    ended (inl below) = omega (arith, signed_arith, last_to-next 9999 (λ year. has_come year 1 1 day) below)
    ended (inr above) =
        let last : year_of day ≡ 9999 = omega (arith, last_to-le 9999 (λ year. has_come year 1 1 day)) in
        rw last (omega (arith, signed_arith, days_from_civil-day_count, day_count-end))

abbrev month_in : ℕ → ℤ → ℕ
month_in year day = last_to 12 (λ month. has_come year month 1 day)

-- a month of the year has begun, and its days have not gone by
month_frame : (year : ℕ) (day : ℤ) → days_from_civil (pos year) 1 1 ≤ℤ day → day <ℤ days_from_civil (pos (suc year)) 1 1 → IsInRange 1 12 (month_in year day) × (days_from_civil (pos year) (month_in year day) 1 ≤ℤ day) × (day <ℤ (days_from_civil (pos year) (month_in year day) 1 +ℤ pos (days_in_month (pos year) (month_in year day))))
month_frame year day low high = ((some, last_to-le 12 (λ month. has_come year month 1 day)), begun (last_to-passes 12 (λ month. has_come year month 1 day)), ended (cases_lt (month_in year day) 12))
  where
    some : 1 ≤ month_in year day
    some = elim (cases_lt 0 (month_in year day)) [
      | inl above ↦ omega arith
      | inr none ↦
          let zero_month : month_in year day ≡ 0 = omega arith in
          let before : month_in year day < 12 = omega arith in
          absurd (omega (arith, signed_arith, rw zero_month at (last_to-next 12 (λ month. has_come year month 1 day) before)))
    ]

    begun : (month_in year day ≡ 0) ⊎ (has_come year (month_in year day) 1 day ≡ true) → days_from_civil (pos year) (month_in year day) 1 ≤ℤ day
    begun (inl zero_month) = absurd (omega (arith, some))
    begun (inr passes) = omega (arith, signed_arith, passes)

    ended : (month_in year day < 12) ⊎ (12 ≤ month_in year day) → day <ℤ (days_from_civil (pos year) (month_in year day) 1 +ℤ pos (days_in_month (pos year) (month_in year day)))
    ended (inl below) =
        let one_on : month_in year day + 1 ≡ suc (month_in year day) = omega arith in
        omega (arith, signed_arith, days_from_civil-day_count, last_to-next 12 (λ month. has_come year month 1 day) below, rw one_on at (day_count-next_month (pos year) (month_in year day) some))
    ended (inr above) =
        let last : month_in year day ≡ 12 = omega (arith, last_to-le 12 (λ month. has_come year month 1 day)) in
        let next : pos year +ℤ pos 1 ≡ pos (suc year) = omega (arith, signed_arith) in
        rw last (omega (arith, signed_arith, days_from_civil-day_count, day_count-next_year (pos year) (pos (suc year)) (omega (arith, signed_arith)) (sym next), day_count-last_of_year (pos year), day_count-day (pos year) 12 31 1 (omega arith) (omega arith)))

-- the day is in its month
pub record Found (day : ℤ) : Type 0 where
  pub civil : IsCivilDate (pos (year_of day)) (month_of day) (day_of_month day)
  pub year : year_of day < 10000
  pub same : days_from_civil (pos (year_of day)) (month_of day) (day_of_month day) ≡ day

pub found : (day : ℤ) → neg_ℤ (pos 719528) ≤ℤ day → day ≤ℤ pos 2932896 → Found day
found day low high =
    let frame = year_frame day low high in
    let in_year = month_frame (year_of day) day frame.0 frame.1 in
    let top : year_of day ≤ 9999 = last_to-le 9999 (λ year. has_come year 1 1 day) in
    let year_in : IsYear (pos (year_of day)) = (omega (arith, signed_arith), omega (arith, signed_arith)) in
    let first = days_from_civil (pos (year_of day)) (month_of day) 1 in
    let from : first ≤ℤ day = in_year.1 in
    let till : day <ℤ (first +ℤ pos (days_in_month (pos (year_of day)) (month_of day))) = in_year.2 in
    let within : day_of_month day ≤ days_in_month (pos (year_of day)) (month_of day) = omega (arith, signed_arith, one_part (day -ℤ first)) in
    record {
      civil = (year_in, in_year.0, (omega arith, within));
      year = omega arith;
      same = omega (arith, signed_arith, days_from_civil-day_count, one_part (day -ℤ first), day_count-day (pos (year_of day)) (month_of day) (day_of_month day) 1 (omega arith) (omega arith));
    }

-- the one date that has this day number
pub found_is : (d : Date) (day : ℤ) → epoch_day d ≡ day → neg_ℤ (pos 719528) ≤ℤ day → day ≤ℤ pos 2932896 → (year_of day ≡ unsigned_abs d.year) × (month_of day ≡ d.month) × (day_of_month day ≡ d.day)
found_is d day is low high =
    let f = found day low high in
    let e : Date = record { year = pos (year_of day); month = month_of day; day = day_of_month day; year_in = f.civil.0; month_in = f.civil.1; day_in = f.civil.2 } in
    let same = epoch_day_injective d e (is ∙ sym f.same) in
    (ap unsigned_abs (sym same.0), sym same.1, sym same.2)

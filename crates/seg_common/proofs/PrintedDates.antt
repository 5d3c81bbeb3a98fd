-- What is printed of a moment is read as that moment.
use Rattle.std.proofs.Common.{◌≡◌, ℕ, suc, ◌+◌, ◌-◌, ◌*◌, ◌/◌, ◌%◌, ◌^◌, ◌<◌, ◌==◌, ◌&&◌, ℤ, pos, neg_ℤ, ◌≤ℤ◌, ◌<ℤ◌, int_le, int_lt, unsigned_abs, Bool, true, false, List, [], ◌∷◌, ◌++◌, Option, Some, None, length, take, drop, cond, if◌then◌else◌, nat_lt, refl, sym, ap, subst, ◌∙◌, arith}
use Rattle.std.specs.Char.{is_ascii_digit}
use Rattle.std.specs.Int.{IsInRange, int_div_euclid, int_rem_euclid}
use Rattle.std.specs.List.{list_all, prefix_len}
use Rattle.std.proofs.Math.Seq.{drop-append_seam, take-append_seam}
use Rattle.std.proofs.lemmas.Bool.{false≢true}
use Rattle.std.proofs.lemmas.Bool.Decides.{nat_tests}
use Rattle.jiff_core.specs.Calendar.{days_from_civil, days_in_month}
use Rattle.jiff_core.proofs.CalendarLemmas.{days_in_month_bounds}
use Rattle.jiff_core.proofs.SignedLemmas.{signed_arith}
use Rattle.seg_common.proofs.Bools.{true_of}
use Rattle.seg_common.specs.CivilCalendar.{year_of, month_of, day_of_month}
use Rattle.seg_common.specs.ParsedDates.{clock_read, clock_seconds, day_read, fraction_len, fraction_read, held, moment_of, offset_read, utc_nanos}
use Rattle.seg_common.specs.DateText.{civil_text, clock_text, date_text, day_nanos, day_text, fraction_text}
use Rattle.seg_common.specs.DateDigits.{digits_text, number_of, parts_of, without_last_zeros}
use Rattle.seg_common.specs.DateLaws.{PrintedMomentsAreRead}
use Rattle.seg_common.proofs.Calendar.{found}
use Rattle.seg_common.proofs.DateNumerals.{all_digits_text, number_back}
use Rattle.seg_common.proofs.PlainDates.{all_without_last}
use Rattle.seg_common.proofs.ParsedDates.{civil_read, day_read_is}
use Rattle.seg_common.proofs.WholeTexts.{parts_whole}

-- a date
day_back : (y m d : ℕ) → y < 10000 → IsInRange 1 12 m → IsInRange 1 (days_in_month (pos y) m) d → day_read (civil_text y m d) ≡ Some (days_from_civil (pos y) m d)
day_back y m d small month day =
    let short : m < 10 ^ 2 = omega arith in
    let few : d < 10 ^ 2 = omega (arith, days_in_month_bounds (pos y) m) in
    day_read_is (civil_text y m d) y m d refl refl (sym (number_back 4 y small)) (sym (number_back 2 m short)) (sym (number_back 2 d few)) ∙ civil_read y m d month day

-- a time of day
by_colons : (a b : ℕ) (hour minute second : Option ℕ) (h m s : ℕ) → a ≡ 58 → b ≡ 58 → hour ≡ Some h → minute ≡ Some m → second ≡ Some s → h < 24 → m < 60 → s < 60 → (if (a == 58) && (b == 58) then clock_seconds hour minute second else None) ≡ Some (h * 3600 + m * 60 + s)
by_colons a b hour minute second h m s first last is_hour is_minute is_second low mid high =
    let x : nat_lt h 24 ≡ true = grind (arith, nat_tests) in
    let y : nat_lt m 60 ≡ true = grind (arith, nat_tests) in
    let z : nat_lt s 60 ≡ true = grind (arith, nat_tests) in
    rw (first, last, is_hour, is_minute, is_second, x, y, z)

clock_back : (seconds : ℕ) → seconds < 86400 → clock_read (clock_text seconds) ≡ Some seconds
clock_back seconds small =
    let hour : seconds / 3600 < 24 = omega arith in
    let e : seconds / 3600 * 3600 + seconds / 60 % 60 * 60 + seconds % 60 ≡ seconds = omega arith in
    by_colons 58 58 (number_of (digits_text 2 (seconds / 3600))) (number_of (digits_text 2 (seconds / 60 % 60))) (number_of (digits_text 2 (seconds % 60))) (seconds / 3600) (seconds / 60 % 60) (seconds % 60) refl refl
    (number_back 2 (seconds / 3600) (omega arith)) (number_back 2 (seconds / 60 % 60) (omega arith)) (number_back 2 (seconds % 60) (omega arith)) hour (omega arith) (omega arith)
    ∙ ap Some e

-- digits without their last zeros are worth as much
parts_zeros : (whole : ℕ) (xs : List ℕ) → list_all (λ c. c == 48) xs ≡ true → parts_of whole xs ≡ 0
parts_zeros whole [] h = refl
parts_zeros whole (x ∷ xs) h = by_first (x == 48) refl h (parts_zeros (whole / 10) xs)
  where
    is_zero : (x == 48) ≡ true → x ≡ 48
    is_zero e = grind (arith, nat_tests)

    by_first : (b : Bool) → (x == 48) ≡ b → (b && list_all (λ c. c == 48) xs) ≡ true → (list_all (λ c. c == 48) xs ≡ true → parts_of (whole / 10) xs ≡ 0) → (x - 48) * (whole / 10) + parts_of (whole / 10) xs ≡ 0
    by_first true e k rest = let same : x ≡ 48 = is_zero e in rw (same, rest k) (omega arith)
    by_first false e k rest = absurd (false≢true k)

parts_kept : (whole : ℕ) (xs : List ℕ) → parts_of whole (without_last_zeros xs) ≡ parts_of whole xs
parts_kept whole [] = refl
parts_kept whole (x ∷ xs) = by_zeros (list_all (λ c. c == 48) (x ∷ xs)) refl (parts_zeros whole (x ∷ xs)) (parts_kept (whole / 10) xs)
  where
    by_zeros : (b : Bool) → list_all (λ c. c == 48) (x ∷ xs) ≡ b → (list_all (λ c. c == 48) (x ∷ xs) ≡ true → parts_of whole (x ∷ xs) ≡ 0) → parts_of (whole / 10) (without_last_zeros xs) ≡ parts_of (whole / 10) xs → parts_of whole (if b then [] else x ∷ without_last_zeros xs) ≡ parts_of whole (x ∷ xs)
    by_zeros true e none rest = sym (none e)
    by_zeros false e none rest = ap (λ n. (x - 48) * (whole / 10) + n) rest

digit_parts : (whole d : ℕ) (ds : List ℕ) → parts_of whole ((48 + d) ∷ ds) ≡ d * (whole / 10) + parts_of (whole / 10) ds
digit_parts whole d ds = let e : 48 + d - 48 ≡ d = omega arith in rw e

-- the digits a to i of a number of nine
nine_digits : (a b c d e f g h i : ℕ) → parts_of (10 ^ 9) ((48 + a) ∷ (48 + b) ∷ (48 + c) ∷ (48 + d) ∷ (48 + e) ∷ (48 + f) ∷ (48 + g) ∷ (48 + h) ∷ (48 + i) ∷ []) ≡ a * 100000000 + (b * 10000000 + (c * 1000000 + (d * 100000 + (e * 10000 + (f * 1000 + (g * 100 + (h * 10 + i * 1)))))))
nine_digits a b c d e f g h i =
    let last = (48 + i) ∷ [] in
    let two = (48 + h) ∷ last in
    let three = (48 + g) ∷ two in
    let four = (48 + f) ∷ three in
    let five = (48 + e) ∷ four in
    let six = (48 + d) ∷ five in
    let seven = (48 + c) ∷ six in
    let eight = (48 + b) ∷ seven in
    digit_parts 1000000000 a eight ∙ ap (λ n. a * 100000000 + n)
    (digit_parts 100000000 b seven ∙ ap (λ n. b * 10000000 + n)
    (digit_parts 10000000 c six ∙ ap (λ n. c * 1000000 + n)
    (digit_parts 1000000 d five ∙ ap (λ n. d * 100000 + n)
    (digit_parts 100000 e four ∙ ap (λ n. e * 10000 + n)
    (digit_parts 10000 f three ∙ ap (λ n. f * 1000 + n)
    (digit_parts 1000 g two ∙ ap (λ n. g * 100 + n)
    (digit_parts 100 h last ∙ ap (λ n. h * 10 + n)
    (digit_parts 10 i [] ∙ only))))))))
  where
    only : i * (10 / 10) + 0 ≡ i * 1
    only = omega arith

nine_parts : (n : ℕ) → n < 10 ^ 9 → parts_of (10 ^ 9) (digits_text 9 n) ≡ n
nine_parts n small =
    let q = n / 10 in
    let r = q / 10 in
    let s = r / 10 in
    let t = s / 10 in
    let u = t / 10 in
    let v = u / 10 in
    let w = v / 10 in
    let x = w / 10 in
    nine_digits (x % 10) (w % 10) (v % 10) (u % 10) (t % 10) (s % 10) (r % 10) (q % 10) (n % 10) ∙ summed n q r s t u v w x small (omega arith) (omega arith) (omega arith) (omega arith) (omega arith) (omega arith) (omega arith) (omega arith)
  where
    summed : (n q r s t u v w x : ℕ) → n < 10 ^ 9 → n ≡ 10 * q + n % 10 → q ≡ 10 * r + q % 10 → r ≡ 10 * s + r % 10 → s ≡ 10 * t + s % 10 → t ≡ 10 * u + t % 10 → u ≡ 10 * v + u % 10 → v ≡ 10 * w + v % 10 → w ≡ 10 * x + w % 10 → x % 10 * 100000000 + (w % 10 * 10000000 + (v % 10 * 1000000 + (u % 10 * 100000 + (t % 10 * 10000 + (s % 10 * 1000 + (r % 10 * 100 + (q % 10 * 10 + n % 10 * 1))))))) ≡ n
    summed n q r s t u v w x small e1 e2 e3 e4 e5 e6 e7 e8 =
        let top : x < 10 = omega arith in
        let last : x % 10 ≡ x = omega arith in
        omega arith

-- a fraction and `Z` after it
leading : (ds : List ℕ) → list_all is_ascii_digit ds ≡ true → prefix_len is_ascii_digit (ds ++ 90 ∷ []) ≡ length ds
leading [] h = refl
leading (d ∷ ds) h = by_digit (is_ascii_digit d) h (leading ds)
  where
    by_digit : (b : Bool) → (b && list_all is_ascii_digit ds) ≡ true → (list_all is_ascii_digit ds ≡ true → prefix_len is_ascii_digit (ds ++ 90 ∷ []) ≡ length ds) → cond b (1 + prefix_len is_ascii_digit (ds ++ 90 ∷ [])) 0 ≡ suc (length ds)
    by_digit true e rest = omega (arith, rest e)
    by_digit false e rest = absurd (false≢true e)

digits_read : (ds : List ℕ) (n : ℕ) → parts_of (10 ^ 9) ds ≡ n → (n ≡ 0 → ⊥) → fraction_read (46 ∷ ds) ≡ Some n
digits_read [] n is some = absurd (some (sym is))
digits_read (d ∷ ds) n is some = ap Some is

pub record FractionRead (rest : List ℕ) (nanos : ℕ) : Type 0 where
  pub nanos_read : fraction_read (take (fraction_len rest) rest) ≡ Some nanos
  pub zone_read : offset_read (drop (fraction_len rest) rest) ≡ Some (pos 0)

fraction_back : (nanos : ℕ) → nanos < 10 ^ 9 → FractionRead (fraction_text nanos ++ 90 ∷ []) nanos
fraction_back nanos small = by_zero (nanos == 0) refl
  where
    ds : List ℕ
    ds = without_last_zeros (digits_text 9 nanos)

    some : (nanos == 0) ≡ false → nanos ≡ 0 → ⊥
    some e h = absurd (grind (arith, nat_tests))

    none : (nanos == 0) ≡ true → 0 ≡ nanos
    none e = grind (arith, nat_tests)

    by_zero : (b : Bool) → (nanos == 0) ≡ b → FractionRead ((if b then [] else 46 ∷ without_last_zeros (digits_text 9 nanos)) ++ 90 ∷ []) nanos
    by_zero true e = record { nanos_read = ap Some (none e); zone_read = refl }
    by_zero false e = behind (without_last_zeros (digits_text 9 nanos)) (all_without_last is_ascii_digit (digits_text 9 nanos) (all_digits_text 9 nanos)) (parts_kept (10 ^ 9) (digits_text 9 nanos) ∙ nine_parts nanos small) (some e)
      where
        behind : (xs : List ℕ) → list_all is_ascii_digit xs ≡ true → parts_of (10 ^ 9) xs ≡ nanos → (nanos ≡ 0 → ⊥) → FractionRead (46 ∷ (xs ++ 90 ∷ [])) nanos
        behind xs digits worth not_none =
            let len : 1 + prefix_len is_ascii_digit (xs ++ 90 ∷ []) ≡ suc (length xs) = omega (arith, leading xs digits) in
            record {
              nanos_read = subst (λ n. fraction_read (take n (46 ∷ (xs ++ 90 ∷ []))) ≡ Some nanos) (sym len) (ap (λ ys. fraction_read (46 ∷ ys)) (take-append_seam xs (90 ∷ [])) ∙ digits_read xs nanos worth not_none);
              zone_read = subst (λ n. offset_read (drop n (46 ∷ (xs ++ 90 ∷ []))) ≡ Some (pos 0)) (sym len) (ap offset_read (drop-append_seam xs (90 ∷ [])));
            }

-- a moment
same_parts : (a b : Option ℤ) (c d e f : Option ℕ) (g h : Option ℤ) → a ≡ b → c ≡ d → e ≡ f → g ≡ h → moment_of a c e g ≡ moment_of b d f h
same_parts a b c d e f g h p q r s = rw (p, q, r, s)

held_in : (moment : ℤ) → neg_ℤ (pos (2 ^ 63)) ≤ℤ moment → moment <ℤ pos (2 ^ 63) → held moment ≡ Some moment
held_in moment low high = by_tests (int_le (neg_ℤ (pos (2 ^ 63))) moment) (int_lt moment (pos (2 ^ 63))) (true_of _ low.le) (true_of _ high.lt)
  where
    by_tests : (a b : Bool) → a ≡ true → b ≡ true → (if a && b then Some moment else None) ≡ Some moment
    by_tests a b p q = rw (p, q)

-- the day and the time of a moment tell it
utc_back : (moment : ℤ) → let nanos = unsigned_abs (int_rem_euclid moment (pos day_nanos)) in utc_nanos (int_div_euclid moment (pos day_nanos)) (nanos / 10 ^ 9) (nanos % 10 ^ 9) (pos 0) ≡ moment
utc_back moment = omega (arith, signed_arith)

pub printed_moments_are_read : PrintedMomentsAreRead
unfolding date_text
printed_moments_are_read moment low high =
    let day = int_div_euclid moment (pos day_nanos) in
    let nanos = unsigned_abs (int_rem_euclid moment (pos day_nanos)) in
    let early : neg_ℤ (pos 719528) ≤ℤ day = omega (arith, signed_arith) in
    let late : day ≤ℤ pos 2932896 = omega (arith, signed_arith) in
    let within : nanos < 86400 * 10 ^ 9 = omega (arith, signed_arith) in
    let seconds : nanos / 10 ^ 9 < 86400 = omega arith in
    let f = found day early late in
    let fraction = fraction_back (nanos % 10 ^ 9) (omega arith) in
    parts_whole (day_text day) (clock_text (nanos / 10 ^ 9)) (fraction_text (nanos % 10 ^ 9) ++ 90 ∷ []) refl refl
    ∙ same_parts _ _ _ _ _ _ _ _ (day_back (year_of day) (month_of day) (day_of_month day) f.year f.civil.1 f.civil.2 ∙ ap Some f.same) (clock_back (nanos / 10 ^ 9) seconds) fraction.nanos_read fraction.zone_read
    ∙ ap held (utc_back moment) ∙ held_in moment low high

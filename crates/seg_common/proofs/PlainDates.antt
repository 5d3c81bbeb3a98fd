-- Each byte of a moment's text lies between `+` and `Z`.
use Rattle.std.proofs.Common.{◌≡◌, ℕ, zero, suc, ◌+◌, ◌/◌, ◌%◌, ◌^◌, ◌<◌, ◌==◌, ◌&&◌, ℤ, pos, unsigned_abs, Bool, true, false, List, [], ◌∷◌, ◌++◌, if◌then◌else◌, refl, ◌∙◌, arith}
use Rattle.std.specs.Int.{int_div_euclid, int_rem_euclid, is_in_range}
use Rattle.std.specs.List.{list_all}
use Rattle.std.specs.Str.{IsAscii, IsUtf8}
use Rattle.std.proofs.lemmas.Bool.{false≢true}
use Rattle.std.proofs.lemmas.Bool.Decides.{nat_tests}
use Rattle.std.proofs.lemmas.List.Folds.{list_all-append}
use Rattle.std.proofs.lemmas.Str.{IsUtf8-from_ascii}
use Rattle.std.proofs.lemmas.Str.Ascii.{IsAscii-nil, IsAscii-cons}
use Rattle.seg_common.specs.CivilCalendar.{year_of, month_of, day_of_month}
use Rattle.seg_common.specs.DateText.{clock_text, date_text, day_nanos, day_text, fraction_text, time_text}
use Rattle.seg_common.specs.DateDigits.{digits_text, without_last_zeros}

pub all_append : (test : ℕ → Bool) (xs ys : List ℕ) → list_all test xs ≡ true → list_all test ys ≡ true → list_all test (xs ++ ys) ≡ true
all_append test xs ys first second = list_all-append test xs ys ∙ rw (first, second)

-- what holds of all digits holds of those that stay
pub all_without_last : (test : ℕ → Bool) (xs : List ℕ) → list_all test xs ≡ true → list_all test (without_last_zeros xs) ≡ true
all_without_last test [] h = refl
all_without_last test (x ∷ xs) h = by_zeros (list_all (λ c. c == 48) (x ∷ xs)) (both (test x) (list_all test xs) h) (all_without_last test xs)
  where
    both : (head tail : Bool) → (head && tail) ≡ true → (head ≡ true) × (tail ≡ true)
    both true tail e = (refl, e)
    both false tail e = absurd (false≢true e)

    by_zeros : (zeros : Bool) → (test x ≡ true) × (list_all test xs ≡ true) → (list_all test xs ≡ true → list_all test (without_last_zeros xs) ≡ true) → list_all test (if zeros then [] else x ∷ without_last_zeros xs) ≡ true
    by_zeros true e rest = refl
    by_zeros false e rest = rw (e.0, rest e.1)

abbrev pub is_plain : ℕ → Bool
is_plain c = is_in_range 43 90 c

plain_digit : (n : ℕ) → is_plain (48 + n % 10) ≡ true
plain_digit n = grind (arith, nat_tests)

plain_digits : (k n : ℕ) → list_all is_plain (digits_text k n) ≡ true
plain_digits zero n = refl
plain_digits (suc k) n =
    let last : list_all is_plain ((48 + n % 10) ∷ []) ≡ true = rw (plain_digit n) in
    all_append is_plain (digits_text k (n / 10)) ((48 + n % 10) ∷ []) (plain_digits k (n / 10)) last

-- three numbers with a byte between them
plain_parts : (i j k s a b c : ℕ) → is_plain s ≡ true → list_all is_plain (digits_text i a ++ s ∷ (digits_text j b ++ s ∷ digits_text k c)) ≡ true
plain_parts i j k s a b c h =
    let second : list_all is_plain (s ∷ digits_text k c) ≡ true = rw (h, plain_digits k c) in
    let first : list_all is_plain (s ∷ (digits_text j b ++ s ∷ digits_text k c)) ≡ true = rw (h, all_append is_plain (digits_text j b) (s ∷ digits_text k c) (plain_digits j b) second) in
    all_append is_plain (digits_text i a) (s ∷ (digits_text j b ++ s ∷ digits_text k c)) (plain_digits i a) first

plain_fraction : (nanos : ℕ) → list_all is_plain (fraction_text nanos) ≡ true
plain_fraction nanos = by_zero (nanos == 0)
  where
    by_zero : (b : Bool) → list_all is_plain (if b then [] else 46 ∷ without_last_zeros (digits_text 9 nanos)) ≡ true
    by_zero true = refl
    by_zero false = all_without_last is_plain (digits_text 9 nanos) (plain_digits 9 nanos)

plain_time : (nanos : ℕ) → list_all is_plain (time_text nanos) ≡ true
plain_time nanos =
    let seconds = nanos / 10 ^ 9 in
    all_append is_plain (clock_text seconds) (fraction_text (nanos % 10 ^ 9)) (plain_parts 2 2 2 58 (seconds / 3600) (seconds / 60 % 60) (seconds % 60) refl) (plain_fraction (nanos % 10 ^ 9))

pub plain_date : (moment : ℤ) → list_all is_plain (date_text moment) ≡ true
unfolding date_text
plain_date moment =
    let day = int_div_euclid moment (pos day_nanos) in
    let nanos = unsigned_abs (int_rem_euclid moment (pos day_nanos)) in
    all_append is_plain (day_text day) (84 ∷ (time_text nanos ++ 90 ∷ [])) (plain_parts 4 2 2 45 (year_of day) (month_of day) (day_of_month day) refl)
    (all_append is_plain (time_text nanos) (90 ∷ []) (plain_time nanos) refl)

ascii : (xs : List ℕ) → list_all is_plain xs ≡ true → IsAscii xs
ascii [] h = IsAscii-nil
ascii (x ∷ xs) h = by_parts (is_plain x) (list_all is_plain xs) refl h (ascii xs)
  where
    by_parts : (head tail : Bool) → is_plain x ≡ head → (head && tail) ≡ true → (tail ≡ true → IsAscii xs) → IsAscii (x ∷ xs)
    by_parts true tail is e rest = IsAscii-cons x xs (small x is) (rest e)
      where
        small : (c : ℕ) → is_plain c ≡ true → c < 128
        small c k = grind (arith, nat_tests)
    by_parts false tail is e rest = absurd (false≢true e)

pub utf8_date : (moment : ℤ) → IsUtf8 (date_text moment)
utf8_date moment = IsUtf8-from_ascii (date_text moment) (ascii (date_text moment) (plain_date moment))

-- A text that is read begins with a digit.
use Rattle.std.proofs.Common.{◌≡◌, ℕ, ◌==◌, ◌&&◌, ℤ, Bool, true, false, List, [], ◌∷◌, Option, None, take, drop, length, if◌then◌else◌, nat_le, slice_index, slice_range, IsSome, IsTrue, refl, rules}
use Rattle.std.specs.Char.{is_ascii_digit, eq_ignore_ascii_case}
use Rattle.std.specs.List.{list_all}
use Rattle.seg_common.specs.ParsedDates.{civil_day, clock_read, date_of, day_read, fraction_len, fraction_read, moment_of, offset_read, rest_of}
use Rattle.seg_common.specs.DateDigits.{number_of}
use Rattle.seg_common.specs.DateLaws.{ReadTextsBeginWithADigit}
use Rattle.seg_common.proofs.DateNumerals.{other_byte}

no_year : (marks : Bool) (year month day : Option ℕ) → year ≡ None → (if marks then civil_day year month day else None) ≡ None
no_year true year month day h = rw h
no_year false year month day h = refl

no_day : (front : Bool) (day : Option ℤ) (seconds nanos : Option ℕ) (offset : Option ℤ) → day ≡ None → (if front then moment_of day seconds nanos offset else None) ≡ None
no_day true day seconds nanos offset h = rw h
no_day false day seconds nanos offset h = refl

-- a text without a digit at its beginning tells no moment
other_first : (text : List ℕ) → is_ascii_digit (slice_index text 0) ≡ false → date_of text ≡ None
unfolding date_of
other_first [] h = refl
other_first (c ∷ cs) h =
    let text = c ∷ cs in
    let first = slice_range text 0 10 in
    let bytes : list_all is_ascii_digit (slice_range first 0 4) ≡ false = rw h in
    no_day (nat_le 19 (length text) && eq_ignore_ascii_case (slice_index text 10) 84) (day_read first) (clock_read (slice_range text 11 19)) (fraction_read (take (fraction_len (rest_of text)) (rest_of text))) (offset_read (drop (fraction_len (rest_of text)) (rest_of text)))
    (no_year ((slice_index first 4 == 45) && (slice_index first 7 == 45)) (number_of (slice_range first 0 4)) (number_of (slice_range first 5 7)) (number_of (slice_range first 8 10)) (other_byte (slice_range first 0 4) bytes))

pub read_texts_begin_with_a_digit : ReadTextsBeginWithADigit
read_texts_begin_with_a_digit text told = by_first (is_ascii_digit (slice_index text 0)) refl
  where
    by_first : (b : Bool) → is_ascii_digit (slice_index text 0) ≡ b → IsTrue (is_ascii_digit (slice_index text 0))
    by_first true e = rw e (search rules)
    by_first false e = absurd (not_told (date_of text) told (other_first text e))
      where
        not_told : (o : Option ℤ) → IsSome o → o ≡ None → ⊥
        not_told o some none = cc

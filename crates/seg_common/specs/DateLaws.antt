-- What holds of the texts of moments.
use Rattle.std.specs.Prelude.{◌≡◌, ◌^◌, ℕ, ℤ, pos, neg_ℤ, ◌≤ℤ◌, ◌<ℤ◌, List, Some, IsSome, IsTrue, slice_index}
use Rattle.std.specs.Char.{is_ascii_digit}
use Rattle.seg_common.specs.ParsedDates.{date_of}
use Rattle.seg_common.specs.DateText.{date_text}

-- each moment that 64 bits hold is read from its text
abbrev pub PrintedMomentsAreRead : Type 0
PrintedMomentsAreRead = (moment : ℤ) → neg_ℤ (pos (2 ^ 63)) ≤ℤ moment → moment <ℤ pos (2 ^ 63)
    → date_of (date_text moment) ≡ Some moment

-- a text that tells a moment begins with a digit
abbrev pub ReadTextsBeginWithADigit : Type 0
ReadTextsBeginWithADigit = (text : List ℕ) → IsSome (date_of text) → IsTrue (is_ascii_digit (slice_index text 0))

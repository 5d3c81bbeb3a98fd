-- Digits as numbers.
use Rattle.std.proofs.Common.{◌≡◌, ℕ, zero, suc, ◌+◌, ◌-◌, ◌*◌, ◌/◌, ◌%◌, ◌^◌, ◌<◌, ◌≤◌, List, [], ◌∷◌, true, false, Some, None, length, take, drop, get_or, refl, ap, subst, ◌∙◌, arith}
use Rattle.std.specs.Char.{digit_value, is_ascii_digit}
use Rattle.std.specs.List.{list_all}
use Rattle.std.specs.Str.Parse.{digits_value}
use Rattle.std.proofs.Math.Nat.{pow-suc, pow-le-pow_right}
use Rattle.std.proofs.lemmas.Bool.Decides.{nat_tests}
use Rattle.std.proofs.lemmas.Int.Digits.{digits_value_push, digits_value_more}
use Rattle.std.proofs.lemmas.List.{at_drop_more, length-append}
use Rattle.std.proofs.lemmas.List.Folds.{list_all-append, list_all_more}
use Rattle.seg_common.specs.DateDigits.{digits_text, number_of, parts_of}

pub digit_is : (c : ℕ) → is_ascii_digit c ≡ true → digit_value c ≡ c - 48
digit_is c h = grind (arith, nat_tests)

pub digit_bounds : (c : ℕ) → is_ascii_digit c ≡ true → (48 ≤ c) × (c < 58)
digit_bounds c h = grind (arith, nat_tests)

pub digit_of : (n : ℕ) → is_ascii_digit (48 + n % 10) ≡ true
digit_of n = grind (arith, nat_tests)

pub all_digits : (bytes : List ℕ) → list_all is_ascii_digit bytes ≡ true → number_of bytes ≡ Some (digits_value 10 bytes)
all_digits bytes h = rw h

pub other_byte : (bytes : List ℕ) → list_all is_ascii_digit bytes ≡ false → number_of bytes ≡ None
other_byte bytes h = rw h

-- one more digit
pub digits_more : (bytes : List ℕ) (i : ℕ) → i < length bytes → list_all is_ascii_digit (take i bytes) ≡ true → is_ascii_digit (get_or bytes i 0) ≡ true → list_all is_ascii_digit (take (i + 1) bytes) ≡ true
digits_more bytes i h before here = list_all_more is_ascii_digit bytes i 0 h ∙ rw (before, here)

pub value_more : (bytes : List ℕ) (i n : ℕ) → i < length bytes → is_ascii_digit (get_or bytes i 0) ≡ true → n ≡ digits_value 10 (take i bytes) → n * 10 + (get_or bytes i 0 - 48) ≡ digits_value 10 (take (i + 1) bytes)
value_more bytes i n h here is =
    let value : digit_value (get_or bytes i 0) ≡ get_or bytes i 0 - 48 = digit_is (get_or bytes i 0) here in
    rw (digits_value_more 10 bytes i h, is, value)

pub bound_more : (i n d : ℕ) → n < 10 ^ i → d < 10 → n * 10 + d < 10 ^ (i + 1)
bound_more i n d h small =
    let e : i + 1 ≡ suc i = omega arith in
    rw e (omega (arith, pow-suc 10 i))

pub nine_digits : (i n : ℕ) → n < 10 ^ i → i < 9 → n < 10 ^ 8
nine_digits i n h few =
    let low : i ≤ 8 = omega arith in
    let some : 0 < 10 = omega arith in
    omega (arith, pow-le-pow_right some low)

pub bound_at : (k j n : ℕ) → n < 10 ^ k → k ≡ j → n < 10 ^ j
bound_at k j n h e = subst (λ i. n < 10 ^ i) e h

-- one more digit after the point
pub parts_more : (whole : ℕ) (digits : List ℕ) (i : ℕ) → i < length digits → parts_of whole (drop i digits) ≡ (get_or digits i 0 - 48) * (whole / 10) + parts_of (whole / 10) (drop (i + 1) digits)
parts_more whole digits i h = at_drop_more (parts_of whole) digits i 0 h

-- the digits that are printed of a number
pub all_digits_text : (k n : ℕ) → list_all is_ascii_digit (digits_text k n) ≡ true
all_digits_text zero n = refl
all_digits_text (suc k) n = list_all-append is_ascii_digit (digits_text k (n / 10)) ((48 + n % 10) ∷ []) ∙ rw (all_digits_text k (n / 10), digit_of n)

pub length-digits_text : (k n : ℕ) → length (digits_text k n) ≡ k
length-digits_text zero n = refl
length-digits_text (suc k) n = length-append (digits_text k (n / 10)) ((48 + n % 10) ∷ []) ∙ omega (arith, length-digits_text k (n / 10))

digit_back : (n : ℕ) → digit_value (48 + n % 10) ≡ n % 10
digit_back n = digit_is (48 + n % 10) (digit_of n) ∙ omega arith

value_back : (k n : ℕ) → n < 10 ^ k → digits_value 10 (digits_text k n) ≡ n
value_back zero n h = omega arith
value_back (suc k) n h =
    let small : n / 10 < 10 ^ k = omega (arith, pow-suc 10 k) in
    digits_value_push 10 (digits_text k (n / 10)) (48 + n % 10) ∙ omega (arith, value_back k (n / 10) small, digit_back n)

-- are read as that number
pub number_back : (k n : ℕ) → n < 10 ^ k → number_of (digits_text k n) ≡ Some n
number_back k n h = all_digits (digits_text k n) (all_digits_text k n) ∙ ap Some (value_back k n h)

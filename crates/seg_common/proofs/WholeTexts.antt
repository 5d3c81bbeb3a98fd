-- A text as a whole: its four parts, each read.
use Rattle.std.proofs.Common.{◌≡◌, ℕ, suc, ◌+◌, ◌-◌, ◌≤◌, ◌==◌, ◌&&◌, ℤ, Bool, true, false, List, [], ◌∷◌, ◌++◌, Option, None, length, take, drop, cond, if◌then◌else◌, nat_le, slice_index, slice_range, IsTrue, refl, sym, ap, subst, ◌∙◌, arith}
use Rattle.std.specs.Char.{is_ascii_digit, eq_ignore_ascii_case}
use Rattle.std.specs.List.{list_all, prefix_len}
use Rattle.std.proofs.Math.Seq.{drop-append-add, take-append_seam}
use Rattle.std.proofs.lemmas.Bool.Decides.{nat_tests}
use Rattle.std.proofs.lemmas.List.{get_or_at, length-append, length-drop, take_all}
use Rattle.std.proofs.lemmas.List.Sums.{prefix_len-le-length}
use Rattle.std.proofs.lemmas.Bool.{and_right}
use Rattle.seg_common.specs.ParsedDates.{clock_read, date_of, day_read, fraction_len, fraction_read, moment_of, offset_read, rest_of}

by_front : (long sign : Bool) (a day : Option ℤ) (b seconds c nanos : Option ℕ) (d offset : Option ℤ) → long ≡ true → sign ≡ true → day ≡ a → seconds ≡ b → nanos ≡ c → offset ≡ d → (if long && sign then moment_of a b c d else None) ≡ moment_of day seconds nanos offset
by_front long sign a day b seconds c nanos d offset is_long is_sign is_day is_seconds is_nanos is_offset =
    rw (is_long, is_sign, is_day, is_seconds, is_nanos, is_offset)

is_long : (n : ℕ) → 19 ≤ n → nat_le 19 n ≡ true
is_long n h = grind (arith, nat_tests)

-- the parts of a text
pub whole_read : (text : List ℕ) (day : Option ℤ) (seconds nanos : Option ℕ) (offset : Option ℤ) → 19 ≤ length text → eq_ignore_ascii_case (slice_index text 10) 84 ≡ true → day ≡ day_read (slice_range text 0 10) → seconds ≡ clock_read (slice_range text 11 19) → nanos ≡ fraction_read (take (fraction_len (rest_of text)) (rest_of text)) → offset ≡ offset_read (drop (fraction_len (rest_of text)) (rest_of text)) → date_of text ≡ moment_of day seconds nanos offset
unfolding date_of
whole_read text day seconds nanos offset long sign =
    by_front (nat_le 19 (length text)) (eq_ignore_ascii_case (slice_index text 10) 84) (day_read (slice_range text 0 10)) day (clock_read (slice_range text 11 19)) seconds (fraction_read (take (fraction_len (rest_of text)) (rest_of text))) nanos (offset_read (drop (fraction_len (rest_of text)) (rest_of text))) offset (is_long (length text) long) sign

by_no_front : (long sign : Bool) (moment : Option ℤ) → (long && sign) ≡ false → (if long && sign then moment else None) ≡ None
by_no_front long sign moment h = rw h

is_short : (n : ℕ) (sign : Bool) → n ≤ 18 → (nat_le 19 n && sign) ≡ false
is_short n sign h = let e : nat_le 19 n ≡ false = grind (arith, nat_tests) in rw e

abbrev parts_read : List ℕ → Option ℤ
parts_read text = moment_of (day_read (slice_range text 0 10)) (clock_read (slice_range text 11 19)) (fraction_read (take (fraction_len (rest_of text)) (rest_of text))) (offset_read (drop (fraction_len (rest_of text)) (rest_of text)))

-- a text that is too short, and one without `T` at its place
pub short_read : (text : List ℕ) → length text ≤ 18 → date_of text ≡ None
unfolding date_of
short_read text short = by_no_front (nat_le 19 (length text)) (eq_ignore_ascii_case (slice_index text 10) 84) (parts_read text) (is_short (length text) (eq_ignore_ascii_case (slice_index text 10) 84) short)

pub no_sign_read : (text : List ℕ) → eq_ignore_ascii_case (slice_index text 10) 84 ≡ false → date_of text ≡ None
unfolding date_of
no_sign_read text none = by_no_front (nat_le 19 (length text)) (eq_ignore_ascii_case (slice_index text 10) 84) (parts_read text) (and_right (nat_le 19 (length text)) (eq_ignore_ascii_case (slice_index text 10) 84) none)

-- a fraction lies within its text, and its digits are digits
pub fraction_len-le : (text : List ℕ) → fraction_len text ≤ length text
fraction_len-le [] = omega arith
fraction_len-le (point ∷ rest) = by_point (point == 46) (prefix_len-le-length is_ascii_digit rest)
  where
    by_point : (b : Bool) → prefix_len is_ascii_digit rest ≤ length rest → (if b then 1 + prefix_len is_ascii_digit rest else 0) ≤ suc (length rest)
    by_point true h = omega arith
    by_point false h = omega arith

first_digits : (text : List ℕ) → list_all is_ascii_digit (take (prefix_len is_ascii_digit text) text) ≡ true
first_digits [] = refl
first_digits (c ∷ cs) = by_digit (is_ascii_digit c) refl (first_digits cs)
  where
    by_digit : (b : Bool) → is_ascii_digit c ≡ b → list_all is_ascii_digit (take (prefix_len is_ascii_digit cs) cs) ≡ true → list_all is_ascii_digit (take (cond b (1 + prefix_len is_ascii_digit cs) 0) (c ∷ cs)) ≡ true
    by_digit true e h =
        let one_on : 1 + prefix_len is_ascii_digit cs ≡ suc (prefix_len is_ascii_digit cs) = omega arith in
        rw one_on (rw (e, h))
    by_digit false e h = refl

pub fraction_digits : (text : List ℕ) → list_all is_ascii_digit (drop 1 (take (fraction_len text) text)) ≡ true
fraction_digits [] = refl
fraction_digits (point ∷ rest) = by_point (point == 46)
  where
    by_point : (b : Bool) → list_all is_ascii_digit (drop 1 (take (if b then 1 + prefix_len is_ascii_digit rest else 0) (point ∷ rest))) ≡ true
    by_point true =
        let one_on : 1 + prefix_len is_ascii_digit rest ≡ suc (prefix_len is_ascii_digit rest) = omega arith in
        rw one_on (first_digits rest)
    by_point false = refl

-- a date, `T`, a time, and what follows
pub parts_whole : (ds ts rest : List ℕ) → length ds ≡ 10 → length ts ≡ 8 → date_of (ds ++ 84 ∷ (ts ++ rest)) ≡ moment_of (day_read ds) (clock_read ts) (fraction_read (take (fraction_len rest) rest)) (offset_read (drop (fraction_len rest) rest))
parts_whole ds ts rest ten eight =
    whole_read (ds ++ 84 ∷ (ts ++ rest)) (day_read ds) (clock_read ts) (fraction_read (take (fraction_len rest) rest)) (offset_read (drop (fraction_len rest) rest))
    (omega (arith, length-append ds (84 ∷ (ts ++ rest)), length-append ts rest)) sign
    (ap day_read (sym day)) (ap clock_read (sym clock)) (ap (λ r. fraction_read (take (fraction_len r) r)) (sym behind)) (ap (λ r. offset_read (drop (fraction_len r) r)) (sym behind))
  where
    from : (n : ℕ) → drop (10 + n) (ds ++ 84 ∷ (ts ++ rest)) ≡ drop n (84 ∷ (ts ++ rest))
    from n = subst (λ k. drop (k + n) (ds ++ 84 ∷ (ts ++ rest)) ≡ drop n (84 ∷ (ts ++ rest))) ten (drop-append-add ds (84 ∷ (ts ++ rest)) n)

    sign : eq_ignore_ascii_case (slice_index (ds ++ 84 ∷ (ts ++ rest)) 10) 84 ≡ true
    sign =
        let e : slice_index (ds ++ 84 ∷ (ts ++ rest)) 10 ≡ 84 = get_or_at ds 84 (ts ++ rest) 0 10 ten in
        ap (λ c. eq_ignore_ascii_case c 84) e

    day : slice_range (ds ++ 84 ∷ (ts ++ rest)) 0 10 ≡ ds
    day = subst (λ k. take k (ds ++ 84 ∷ (ts ++ rest)) ≡ ds) ten (take-append_seam ds (84 ∷ (ts ++ rest)))

    clock : slice_range (ds ++ 84 ∷ (ts ++ rest)) 11 19 ≡ ts
    clock = ap (take 8) (from 1) ∙ subst (λ k. take k (ts ++ rest) ≡ ts) eight (take-append_seam ts rest)

    behind : rest_of (ds ++ 84 ∷ (ts ++ rest)) ≡ rest
    behind = from 9 ∙ subst (λ k. drop (k + 0) (ts ++ rest) ≡ rest) eight (drop-append-add ts rest 0)

-- the parts that the code cuts, of the bytes of a text
abbrev behind : List ℕ → List ℕ
behind bytes = take (length bytes - 19) (drop 19 bytes)

behind_is : (bytes : List ℕ) → behind bytes ≡ rest_of bytes
behind_is bytes = take_all (length bytes - 19) (drop 19 bytes) (omega (arith, length-drop 19 bytes))

pub parsed : (text bytes front back : List ℕ) (n : ℕ) (day : Option ℤ) (seconds nanos : Option ℕ) (offset : Option ℤ) → bytes ≡ text → 19 ≤ length bytes → eq_ignore_ascii_case (slice_index bytes 10) 84 ≡ true → n ≡ fraction_len (behind bytes) → front ≡ take n (behind bytes) → back ≡ drop n (behind bytes) → day ≡ day_read (take 10 bytes) → seconds ≡ clock_read (slice_range bytes 11 19) → nanos ≡ fraction_read front → offset ≡ offset_read back → moment_of day seconds nanos offset ≡ date_of text
parsed text bytes front back n day seconds nanos offset same long sign is_len is_front is_back is_day is_seconds is_nanos is_offset =
    subst (λ t. moment_of day seconds nanos offset ≡ date_of t) same
    (sym (whole_read bytes day seconds nanos offset long sign is_day is_seconds
    (is_nanos ∙ ap fraction_read (is_front ∙ ap (λ k. take k (behind bytes)) is_len ∙ ap (λ r. take (fraction_len r) r) (behind_is bytes)))
    (is_offset ∙ ap offset_read (is_back ∙ ap (λ k. drop k (behind bytes)) is_len ∙ ap (λ r. drop (fraction_len r) r) (behind_is bytes)))))

pub short_parsed : (text bytes : List ℕ) → bytes ≡ text → length bytes ≤ 18 → None ≡ date_of text
short_parsed text bytes same short = sym (subst (λ t. date_of t ≡ None) same (short_read bytes short))

pub no_sign_parsed : (text bytes : List ℕ) → bytes ≡ text → eq_ignore_ascii_case (slice_index bytes 10) 84 ≡ false → None ≡ date_of text
no_sign_parsed text bytes same none = sym (subst (λ t. date_of t ≡ None) same (no_sign_read bytes none))

pub front_digits : (rest front : List ℕ) (n : ℕ) → n ≡ fraction_len rest → front ≡ take n rest → IsTrue (list_all is_ascii_digit (drop 1 front))
front_digits rest front n is_len is_front =
    ap (λ xs. list_all is_ascii_digit (drop 1 xs)) (is_front ∙ ap (λ k. take k rest) is_len) ∙ fraction_digits rest

-- What a word names, by what it is parsed as.
use Rattle.std.proofs.Common.{◌≡◌, ℕ, ◌^◌, ◌<◌, List, Bool, true, false, Some, None, Result, Ok, Err, refl, sym, ap, ◌∙◌, arith}
use Rattle.std.specs.Prelude.{nat_lt, if◌then◌else◌, decimal}
use Rattle.std.specs.Str.{bytes_eq}
use Rattle.std.specs.Str.Parse.{ParsesUnsigned, digits_value}
use Rattle.std.proofs.lemmas.Bool.{false≢true, ltb-true, lt-ltb}
use Rattle.std.proofs.lemmas.Fmt.{decimal_is_IsNumeral, parse-decimal}
use Rattle.seg_common.proofs.Bytes.{same_bytes, bytes_are}
use Rattle.seg_generate.specs.Seeds.{seed_named}

-- none, where it is the decimal text of no number that it was parsed as
pub unnamed : {E : Type 0} (word : List ℕ) (r : Result ℕ E) → ParsesUnsigned 32 10 word r
    → ((n : ℕ) → r ≡ Ok n → word ≡ decimal n → ⊥) → seed_named word ≡ None
unnamed word r parses not = by (nat_lt (digits_value 10 word) (2 ^ 32)) refl (bytes_eq word (decimal (digits_value 10 word))) refl
  where
    by : (small : Bool) → nat_lt (digits_value 10 word) (2 ^ 32) ≡ small → (same : Bool) → bytes_eq word (decimal (digits_value 10 word)) ≡ same
        → (if small then (if same then Some (digits_value 10 word) else None) else None) ≡ None
    by false small same is = refl
    by true small false is = refl
    by true small true is =
        let n = digits_value 10 word in
        let lt : n < 2 ^ 32 = ltb-true _ _ small in
        let text = same_bytes word (decimal n) is in
        absurd (not n (parse-decimal 32 n word r lt (omega (arith, lt)) text parses) text)

-- the number of which it is the decimal text
pub named : (word : List ℕ) (n : ℕ) → n < 2 ^ 32 → word ≡ decimal n → seed_named word ≡ Some n
named word n small is = by (digits_value 10 word) value
  where
    value : digits_value 10 word ≡ n
    value = ap (digits_value 10) is ∙ (decimal_is_IsNumeral n (omega (arith, small))).1

    by : (m : ℕ) → m ≡ n → (if nat_lt m (2 ^ 32) then (if bytes_eq word (decimal m) then Some m else None) else None) ≡ Some n
    by m same = rw (same, lt-ltb n (2 ^ 32) small, bytes_are word (decimal n) is) refl

-- what was parsed
abbrev value_of : {E : Type 0} → Result ℕ E → ℕ
value_of (Ok n) = n
value_of (Err e) = 0

never : {E : Type 0} (e : E) (n : ℕ) → Err e ≡ Ok n → ⊥
never e n is = cc is

-- none, where nothing was parsed
pub unparsed : {E : Type 0} (word : List ℕ) (r : Result ℕ E) (e : E) → r ≡ Err e → ParsesUnsigned 32 10 word r → seed_named word ≡ None
unparsed word r e failed parses = unnamed word r parses (λ n is text. never e n (sym failed ∙ is))

-- the number that it was parsed as, if it is the decimal text of that
pub parsed : {E : Type 0} (word : List ℕ) (r : Result ℕ E) (n : ℕ) → r ≡ Ok n → n < 2 ^ 32 → ParsesUnsigned 32 10 word r
    → (if bytes_eq word (decimal n) then Some n else None) ≡ seed_named word
parsed word r n gave small parses = by (bytes_eq word (decimal n)) refl
  where
    other : bytes_eq word (decimal n) ≡ false → (m : ℕ) → r ≡ Ok m → word ≡ decimal m → ⊥
    other is m as_m text =
        let same : n ≡ m = ap value_of (sym gave ∙ as_m) in
        false≢true (sym is ∙ bytes_are word (decimal n) (text ∙ ap decimal (sym same)))

    by : (same : Bool) → bytes_eq word (decimal n) ≡ same → (if same then Some n else None) ≡ seed_named word
    by true is = sym (named word n small (same_bytes word (decimal n) is))
    by false is = sym (unnamed word r parses (other is))

-- An id is read from its digits.
use Rattle.std.proofs.Common.{◌≡◌, ℕ, zero, suc, ◌+◌, ◌*◌, ◌/◌, ◌%◌, ◌^◌, ◌<◌, List, [], ◌∷◌, ◌++◌, Bool, true, false, ◌&&◌, if◌then◌else◌, Option, Some, None, nat_lt, refl, sym, ap, ◌∙◌, arith, pow-suc}
use Rattle.std.specs.Prelude.{IfSome, IsSome}
use Rattle.std.specs.Char.{digit_char}
use Rattle.std.specs.Str.{bytes_eq}
use Rattle.std.proofs.lemmas.Bool.Decides.{nat_tests}
use Rattle.std.proofs.lemmas.Slice.Eq.{bytes_eq-Decides}
use Rattle.seg_common.specs.SegmentIds.{hex_text, id_text}
use Rattle.seg_meta.specs.ParsedMetaParts.{digit_value, digits_value, id_from}

digit-back : (d : ℕ) → d < 16 → digit_value (digit_char d) ≡ d
digit-back d h = grind (arith, nat_tests)

digits_value-push : (before : ℕ) (cs : List ℕ) (c : ℕ) → digits_value before (cs ++ c ∷ []) ≡ digits_value before cs * 16 + digit_value c
unfolding digits_value
digits_value-push before [] c = refl
digits_value-push before (x ∷ cs) c = digits_value-push (before * 16 + digit_value x) cs c

-- digits give their number back
pub digits_value-hex : (k n : ℕ) → n < 16 ^ k → digits_value 0 (hex_text k n) ≡ n
unfolding hex_text digits_value
digits_value-hex zero n h = let e : 0 ≡ n = omega (arith, h) in e
digits_value-hex (suc k) n h =
    let small : n / 16 < 16 ^ k = omega (arith, h, pow-suc 16 k) in
    let whole : n / 16 * 16 + n % 16 ≡ n = omega arith in
    digits_value-push 0 (hex_text k (n / 16)) (digit_char (n % 16)) ∙ rw (digits_value-hex k (n / 16) small, digit-back (n % 16) (omega arith)) whole

-- the id of a text of digits
pub id_from-id_text : (id : ℕ) → id < 2 ^ 128 → id_from (id_text id) ≡ Some id
id_from-id_text id h =
    let small : nat_lt id (2 ^ 128) ≡ true = grind (arith, nat_tests) in
    rw (digits_value-hex 32 id h, small, (bytes_eq-Decides (id_text id) (id_text id)).1 refl)

refused : (a b : Bool) (n : ℕ) → (a ≡ true → b ≡ true → ⊥) → (if a && b then Some n else None) ≡ None
refused true true n h = absurd (h refl refl)
refused true false n h = refl
refused false b n h = refl

id_from-none : (text : List ℕ) → ((id : ℕ) → id < 2 ^ 128 → text ≡ id_text id → ⊥) → id_from text ≡ None
id_from-none text h =
    let id = digits_value 0 text in
    refused (nat_lt id (2 ^ 128)) (bytes_eq text (id_text id)) id (λ a b. let small : id < 2 ^ 128 = grind (arith, nat_tests, a) in h id small ((bytes_eq-Decides text (id_text id)).0 b))

-- what gives the id of each text of digits, and else nothing, reads ids
pub is_id_from : (text : List ℕ) (r : Option ℕ) → IfSome r (λ id. id < 2 ^ 128) → IfSome r (λ id. text ≡ id_text id) → ((id : ℕ) → id < 2 ^ 128 → text ≡ id_text id → IsSome r) → r ≡ id_from text
is_id_from text None small some all = sym (id_from-none text (λ id b e. let no : IsSome {T = ℕ} None = all id b e in cc))
is_id_from text (Some id) small some all = sym (ap id_from some ∙ id_from-id_text id small)

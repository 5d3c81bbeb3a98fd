-- Texts with one ASCII byte in the place of another.
use Rattle.std.proofs.Common.{◌≡◌, ◌≢◌, ℕ, ◌+◌, ◌/◌, ◌<◌, ◌≤◌, Bool, true, false, cond, List, [], ◌∷◌, ◌++◌, map, length, sym, refl, ap, ◌∙◌, arith, append_assoc, length-append}
use lib.Dec.{ltb}
use lib.Utf8.{encode, next}
use Rattle.std.specs.List.{AllByRecursion}
use Rattle.std.proofs.lemmas.Str.{encode_ascii}
use Rattle.std.proofs.lemmas.Bool.Decides.{nat_tests}
use Rattle.std.proofs.lemmas.List.{map-append, length-map}
use Rattle.seg_common.specs.Replacements.{replacement}

abbrev pub AreHigh : List ℕ → Type 0
AreHigh bs = AllByRecursion (λ b. 128 ≤ b) bs

-- a character past ASCII has high bytes alone
pub encode_high : (c : ℕ) → 128 ≤ c → AreHigh (encode c)
unfolding encode
encode_high c le = by (ltb c 128) (ltb c 2048) (ltb c 65536) refl
  where
    by : (x y z : Bool) → ltb c 128 ≡ x → AreHigh (cond x (c ∷ []) (cond y ((192 + c / 64) ∷ next c ∷ []) (cond z ((224 + c / 4096) ∷ next (c / 64) ∷ next c ∷ []) ((240 + c / 262144) ∷ next (c / 4096) ∷ next (c / 64) ∷ next c ∷ []))))
    by true y z e = (le, tt)
    by false true z e = (omega arith, (omega arith, tt))
    by false false true e = (omega arith, (omega arith, (omega arith, tt)))
    by false false false e = (omega arith, (omega arith, (omega arith, (omega arith, tt))))

pub replacement_same : (replaced by byte : ℕ) → byte ≡ replaced → by ≡ replacement replaced by byte
replacement_same replaced by byte e = grind (arith, nat_tests)

pub replacement_other : (replaced by byte : ℕ) → byte ≢ replaced → byte ≡ replacement replaced by byte
replacement_other replaced by byte ne = grind (arith, nat_tests)

replacement_high : (replaced by byte : ℕ) → replaced < 128 → 128 ≤ byte → replacement replaced by byte ≡ byte
replacement_high replaced by byte lt le = grind (arith, nat_tests)

replacement_low : (replaced by byte : ℕ) → by < 128 → byte < 128 → replacement replaced by byte < 128
replacement_low replaced by byte lt le = grind (arith, nat_tests)

high_stay : (replaced by : ℕ) (bs : List ℕ) → replaced < 128 → AreHigh bs → map (replacement replaced by) bs ≡ bs
high_stay replaced by [] lt h = refl
high_stay replaced by (b ∷ bs) lt h = λ i. replacement_high replaced by b lt h.0 i ∷ high_stay replaced by bs lt h.1 i

-- the bytes of a character, replaced, are those of the character that takes its place
map-encode : (replaced by c : ℕ) → replaced < 128 → by < 128 → map (replacement replaced by) (encode c) ≡ encode (replacement replaced by c)
map-encode replaced by c lt less = each (ltb c 128) refl
  where
    each : (b : Bool) → ltb c 128 ≡ b → map (replacement replaced by) (encode c) ≡ encode (replacement replaced by c)
    each true e =
        let low : c < 128 = grind (arith, nat_tests) in
        ap (map (replacement replaced by)) (encode_ascii c low) ∙ sym (encode_ascii (replacement replaced by c) (replacement_low replaced by c less low))
    each false e =
        let high : 128 ≤ c = grind (arith, nat_tests) in
        high_stay replaced by (encode c) lt (encode_high c high) ∙ ap encode (sym (replacement_high replaced by c lt high))

-- one character more
pub replaced_more : (replaced by c : ℕ) (out next text rest : List ℕ) → replaced < 128 → by < 128 → text ≡ encode c ++ rest → next ≡ out ++ encode (replacement replaced by c) →
    next ++ map (replacement replaced by) rest ≡ out ++ map (replacement replaced by) text
replaced_more replaced by c out next text rest lt less is written =
    ap (λ l. l ++ map (replacement replaced by) rest) written
    ∙ append_assoc out (encode (replacement replaced by c)) (map (replacement replaced by) rest)
    ∙ ap (λ l. out ++ l) (ap (λ l. l ++ map (replacement replaced by) rest) (sym (map-encode replaced by c lt less)) ∙ sym (map-append (replacement replaced by) (encode c) rest) ∙ ap (map (replacement replaced by)) (sym is))

length-replaced : (replaced by c : ℕ) → replaced < 128 → by < 128 → length (encode (replacement replaced by c)) ≡ length (encode c)
length-replaced replaced by c lt less = sym (ap length (map-encode replaced by c lt less)) ∙ length-map (encode c) (replacement replaced by)

-- one more character takes as much room as the one whose place it has
pub room_more : (replaced by c len next total : ℕ) (text rest : List ℕ) → replaced < 128 → by < 128 → text ≡ encode c ++ rest → next ≡ len + length (encode (replacement replaced by c)) → len + length text ≡ total →
    next + length rest ≡ total
room_more replaced by c len next total text rest lt less is longer all =
    omega (arith, ap length is, length-append (encode c) rest, length-replaced replaced by c lt less)

-- where there is no room for a character, there is none for the text
pub no_room : (replaced by c len room before total : ℕ) (text rest : List ℕ) → replaced < 128 → by < 128 → text ≡ encode c ++ rest → len + length text ≡ total → before ≤ room → room < len + length (encode (replacement replaced by c)) →
    before < total
no_room replaced by c len room before total text rest lt less is all kept full =
    omega (arith, ap length is, length-append (encode c) rest, length-replaced replaced by c lt less)

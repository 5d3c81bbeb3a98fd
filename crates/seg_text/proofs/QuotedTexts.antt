-- Texts of which no byte is escaped.
use Rattle.std.proofs.Common.{◌≡◌, ℕ, true, List, [], ◌∷◌, ◌++◌, append_assoc, refl, arith}
use Rattle.std.specs.List.{list_all}
use Rattle.std.proofs.lemmas.Bool.{and_parts}
use Rattle.std.proofs.lemmas.Bool.Decides.{nat_tests}
use Rattle.json.specs.Print.{escape_byte, escape, quoted}
use Rattle.seg_text.specs.QuotedText.{is_unescaped}

escaped_plain : (c : ℕ) → is_unescaped c ≡ true → escape_byte c ≡ c ∷ []
unfolding escape_byte
escaped_plain c plain = grind (arith, nat_tests)

plain_stay : (xs : List ℕ) → list_all is_unescaped xs ≡ true → escape xs ≡ xs
plain_stay [] h = refl
plain_stay (x ∷ xs) h =
    let parts = and_parts (is_unescaped x) (list_all is_unescaped xs) h in
    rw (escaped_plain x parts.0, plain_stay xs parts.1)

-- a quote, such a text and a quote, put one after another
pub quoted_plain : (out a b c text : List ℕ) → list_all is_unescaped text ≡ true → a ≡ out ++ 34 ∷ [] → b ≡ a ++ text → c ≡ b ++ 34 ∷ [] → c ≡ out ++ quoted text
quoted_plain out a b c text plain first middle last = between (escape text) (plain_stay text plain)
  where
    between : (es : List ℕ) → es ≡ text → c ≡ out ++ 34 ∷ (es ++ 34 ∷ [])
    between es same = rw (last, middle, first, same) (simp append_assoc)

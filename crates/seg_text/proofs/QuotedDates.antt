-- A moment between quotes: no byte of its text is escaped.
use Rattle.std.proofs.Common.{◌≡◌, ℕ, ℤ, true, List, [], ◌∷◌, ◌++◌, refl, arith}
use Rattle.std.specs.List.{list_all}
use Rattle.std.proofs.lemmas.Bool.{and_parts}
use Rattle.std.proofs.lemmas.Bool.Decides.{nat_tests}
use Rattle.json.specs.Print.{quoted}
use Rattle.seg_common.specs.DateText.{date_text}
use Rattle.seg_common.proofs.Exports.{is_plain, plain_date}
use Rattle.seg_text.specs.QuotedText.{is_unescaped}
use Rattle.seg_text.proofs.QuotedTexts.{quoted_plain}

unescaped : (c : ℕ) → is_plain c ≡ true → is_unescaped c ≡ true
unescaped c plain = grind (arith, nat_tests)

all_unescaped : (xs : List ℕ) → list_all is_plain xs ≡ true → list_all is_unescaped xs ≡ true
all_unescaped [] h = refl
all_unescaped (x ∷ xs) h =
    let parts = and_parts (is_plain x) (list_all is_plain xs) h in
    rw (unescaped x parts.0, all_unescaped xs parts.1)

pub quoted_date : (out a b c : List ℕ) (moment : ℤ) → a ≡ out ++ 34 ∷ [] → b ≡ a ++ date_text moment → c ≡ b ++ 34 ∷ [] → c ≡ out ++ quoted (date_text moment)
quoted_date out a b c moment = quoted_plain out a b c (date_text moment) (all_unescaped (date_text moment) (plain_date moment))

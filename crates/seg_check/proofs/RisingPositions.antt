-- Tokens whose positions do not fall, one after another.
use Rattle.std.proofs.Common.{◌≡◌, ℕ, Bool, true, List, [], ◌∷◌, refl, ap, ◌∙◌, arith}
use Rattle.std.specs.Prelude.{◌&&◌, nat_le}
use Rattle.std.proofs.lemmas.Bool.Decides.{nat_tests}
use Rattle.seg_tokens.specs.declared.token.Token.{Token}
use Rattle.seg_model.specs.DocumentCheck.{is_rising}

-- the positions do not fall, and the first is no less than `last`
abbrev pub rises : ℕ → List Token → Bool
rises last [] = true
rises last (t ∷ ts) = nat_le last t.position && rises t.position ts

rises-is_rising : (t : Token) (ts : List Token) → rises t.position ts ≡ is_rising (t ∷ ts)
rises-is_rising t [] = refl
rises-is_rising t (u ∷ ts) = ap (λ b. nat_le t.position u.position && b) (rises-is_rising u ts)

pub rises_first : (ts : List Token) → rises 0 ts ≡ is_rising ts
rises_first [] = refl
rises_first (t ∷ ts) = ap (λ b. b && rises t.position ts) (let e : nat_le 0 t.position ≡ true = grind (arith, nat_tests) in e) ∙ rises-is_rising t ts

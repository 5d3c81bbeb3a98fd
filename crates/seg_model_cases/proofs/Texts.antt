-- Cases of texts and lengths, and of terms of other kinds.
use Rattle.std.proofs.Common.{◌≡◌, ℕ, ◌+◌, List, [], ◌∷◌, ◌++◌, map, length, refl, ap, ◌∙◌}
use Rattle.std.specs.Prelude.{codes}
use Rattle.seg_tokens.specs.declared.token.Token.{Token}
use Rattle.seg_model.specs.Occurrences.{counted, placed_from, reach}
use Rattle.seg_model.specs.Norms.{length_id}
use Rattle.seg_model_cases.specs.CaseData.{token, at}
use Rattle.seg_model_cases.specs.Texts.{AreLongest, LongTokens, TextCases}

abbrev c : Token
c = token 2 (codes "c")

kept_token : (t : Token) (ts : List Token) → length t.text ≡ 65530 → counted (t ∷ ts) ≡ t ∷ counted ts
kept_token t ts e = rw e refl

token_left_out : (t : Token) (ts : List Token) → length t.text ≡ 65531 → counted (t ∷ ts) ≡ counted ts
token_left_out t ts e = rw e refl

two_counted : (kept left_out : List ℕ) → AreLongest kept left_out → counted (token 0 kept ∷ token 1 left_out ∷ c ∷ []) ≡ token 0 kept ∷ c ∷ []
two_counted kept left_out are = kept_token (token 0 kept) (token 1 left_out ∷ c ∷ []) are.kept_length ∙ ap (λ ts. token 0 kept ∷ ts) (token_left_out (token 1 left_out) (c ∷ []) are.left_out_length)

long_tokens : LongTokens
long_tokens = record {
  terms = λ kept left_out are. ap (λ (ts : List Token). map (λ (t : Token). at ([] ++ t.text) (0 + t.position)) ts ++ []) (two_counted kept left_out are);
  count = λ kept left_out are. ap (λ (ts : List Token). length ts + 0) (two_counted kept left_out are);
  second_text = λ kept left_out are. ap (λ (ts : List Token). map (λ (t : Token). at ([] ++ t.text) (0 + t.position)) ts ++ (placed_from (1 + reach 0 ts) [] (token 0 (codes "d") ∷ []) ++ [])) (token_left_out (token 0 left_out) [] are.left_out_length);
}

pub text_cases : TextCases
unfolding length_id
text_cases = record { long_tokens = long_tokens; by_option = refl; lengths = refl; next_length = refl; last_length = refl; last_id = refl; bytes = refl; truth = refl }

-- Codes of texts and of tokens, by which a proof tells them apart.
use Rattle.std.specs.Prelude.{ℕ, List, refl}
use base.Stored.{Coded, coded_ℕ, coded_list, coded×}
use Rattle.std.specs.Coded.{code_by}
use Rattle.seg_tokens.specs.declared.token.Token.{Token}
use Rattle.seg_tokens.specs.declared.token.PreTokenizedString.{PreTokenizedString}

abbrev pub token_code : Coded Token
token_code =
    code_by (ℕ × (ℕ × (ℕ × (ℕ × List ℕ))))
    (coded× coded_ℕ (coded× coded_ℕ (coded× coded_ℕ (coded× coded_ℕ (coded_list coded_ℕ)))))
    (λ t. (t.offset_from, (t.offset_to, (t.position, (t.position_length, t.text)))))
    (λ p. record {
      offset_from = p.0;
      offset_to = p.1.0;
      position = p.1.1.0;
      position_length = p.1.1.1.0;
      text = p.1.1.1.1;
    })
    (λ _. refl)

abbrev pub pre_tokenized_code : Coded PreTokenizedString
pre_tokenized_code = code_by (List ℕ × List Token) (coded× (coded_list coded_ℕ) (coded_list token_code))
    (λ p. (p.text, p.tokens)) (λ p. record { text = p.0; tokens = p.1 }) (λ _. refl)

abbrev pub key_code : Coded (List ℕ)
key_code = coded_list coded_ℕ

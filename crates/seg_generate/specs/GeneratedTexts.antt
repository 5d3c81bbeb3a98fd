-- What the generated input asks of the analyzers.
use Rattle.std.specs.Prelude.{ℕ, ◌≡◌, List, [], ◌∷◌, true, codes}
use Rattle.seg_tokens.specs.Tokenizers.{default_tokens}
use Rattle.seg_tokens.specs.declared.token.Token.{Token}
use Rattle.seg_model.specs.DocumentCheck.{is_rising, texts_fit}
use Rattle.seg_model.specs.Fields.{Analyzer}
use Rattle.seg_model.specs.Occurrences.{counted}
use Rattle.seg_model.specs.ValidInputs.{IsValid, Known}
use Rattle.seg_generate.specs.Documents.{body_text}
use Rattle.seg_generate.specs.GeneratedInput.{generated}

-- positions never fall, and the tokens are few enough for a text of its own
pub record AreFit (tokens : List Token) : Type 0 where
  pub rise : is_rising (counted tokens) ≡ true
  pub few : texts_fit (tokens ∷ []) ≡ true

-- the name `default` is known, and the tokens under it of each generated text are fit
pub record TakesTexts (known : Known) (analyzer : Analyzer) : Type 0 where
  pub is_known : known (codes "default") ≡ true
  pub takes : (number : ℕ) → AreFit (analyzer (codes "default") (body_text number))

-- then each generated input is valid
abbrev pub GeneratedInputsAreValid : Type 0
GeneratedInputsAreValid =
    (known : Known) (analyzer : Analyzer) (seed : ℕ) → TakesTexts known analyzer
    → IsValid known analyzer (generated seed)

-- the default tokenizer takes them, where it has the name `default`
abbrev pub DefaultTakesTexts : Type 0
DefaultTakesTexts =
    (known : Known) (analyzer : Analyzer) → known (codes "default") ≡ true
    → ((text : List ℕ) → analyzer (codes "default") text ≡ default_tokens text) → TakesTexts known analyzer

-- The tokens of a text, which is cut or comes with its own.
use Rattle.std.specs.Prelude.{◌≡◌, List, [], Option, Some, None}
use Rattle.seg_values.specs.declared.schema.FieldEntry.{FieldEntry}
use Rattle.seg_values.specs.declared.schema.FieldKind.TheVariants.{Text}
use Rattle.seg_tokens.specs.declared.token.Token.{Token}
use Rattle.seg_values.specs.Tree.{Tree}
use Rattle.seg_model.specs.Fields.{Analyzer, indexing_tokenizer}
use Rattle.seg_model.specs.Occurrences.{value_tokens}

-- the tokens that a value was cut into; where it was not cut, those that it comes with
abbrev pub cut_or_given : Option (List Token) → Tree → List Token
cut_or_given (Some tokens) value = tokens
cut_or_given None value = value_tokens (λ _. []) value

-- a value of a text field has its tokens
abbrev pub IsCut : Analyzer → FieldEntry → Option (List Token) → Tree → Type 0
IsCut analyzer entry cut value = entry.kind ≡ Text
    → cut_or_given cut value ≡ value_tokens (analyzer (indexing_tokenizer entry)) value

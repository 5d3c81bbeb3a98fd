-- The text with its tokens that a JSON value is.
use Rattle.std.specs.Prelude.{ℕ, ◌^◌, List, [], ◌∷◌, ◌&&◌, Option, Some, None, codes}
use Rattle.std.specs.Str.{bytes_eq}
use Rattle.serde_json.specs.Data.{Data, object, Members, no_members, member}
use Rattle.serde_json.specs.Find.{as_str}
use Rattle.seg_tokens.specs.declared.token.PreTokenizedString.{PreTokenizedString}
use Rattle.seg_tokens.specs.declared.token.Token.{Token}
use Rattle.seg_meta.specs.JsonReaders.{given, provided, required, natural, below, list_of, has_only}

-- the members of a token
abbrev pub token_members : List (List ℕ)
token_members = codes "offset_from" ∷ codes "offset_to" ∷ codes "position" ∷ codes "position_length" ∷ codes "text" ∷ []

-- a token, of which each member must be there
abbrev pub token_from : Data → Option Token
token_from d =
    provided (has_only token_members d)
    (given (required natural (codes "offset_from") d) (λ offset_from.
    given (required natural (codes "offset_to") d) (λ offset_to.
    given (required (below (2 ^ 32)) (codes "position") d) (λ position.
    given (required (below (2 ^ 32)) (codes "position_length") d) (λ position_length.
    given (required as_str (codes "text") d) (λ text.
    Some (record {
      offset_from = offset_from;
      offset_to = offset_to;
      position = position;
      position_length = position_length;
      text = text;
    })))))))

-- the values of the members `text` and `tokens`, where there are just these
abbrev pub text_and_tokens : Members → Option (Data × Data)
text_and_tokens (member first text (member second tokens no_members)) =
    provided (bytes_eq first (codes "text") && bytes_eq second (codes "tokens")) (Some (text, tokens))
text_and_tokens _ = None

-- `{"text": text, "tokens": [tokens]}`
abbrev pub tokenized_from : Data → Option PreTokenizedString
tokenized_from (object ms) =
    given (text_and_tokens ms) (λ p.
    given (as_str p.0) (λ text.
    given (list_of token_from p.1) (λ tokens.
    Some (record { text = text; tokens = tokens }))))
tokenized_from _ = None

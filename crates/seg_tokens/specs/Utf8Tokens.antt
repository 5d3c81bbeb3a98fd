-- Tokens whose texts are UTF-8.
use Rattle.std.specs.Prelude.{List, IsUtf8}
use Rattle.std.specs.List.{AllByRecursion}
use Rattle.seg_tokens.specs.declared.token.Token.{Token}

-- each token's own text is
abbrev pub AreUtf8Tokens : List Token → Type 0
AreUtf8Tokens tokens = AllByRecursion (λ t. IsUtf8 t.text) tokens

use Rattle.std.proofs.Common.{◌≡◌, ◌<◌, ℕ, get_or, IsUtf8}
use Rattle.seg_tokens.specs.declared.token.Token.{Token}
use Rattle.seg_tokens.proofs.token.Tokens.texts_are_utf8.Given as goal

-- the texts that were passed
abbrev pub invariant-loop-token : goal.invariant-loop-token
invariant-loop-token l = (l.token-items ≡ l.self) × ((k : ℕ) (d : Token) → k < l.token-index → IsUtf8 (get_or l.token-items k d).text)

-- The tokens that each tokenizer finds.
use Rattle.std.specs.Prelude.{ℕ, List, Bool, ◌&&◌, ◌||◌, ◌==◌, ◌≡◌, ◌<◌, not, nat_lt, true, false}
use Rattle.std.proofs.Common.{arith}
use Rattle.std.proofs.lemmas.Bool.Decides.{nat_tests}
use Rattle.std.specs.Char.{is_ascii_alphanumeric, to_ascii_lowercase}
use Rattle.seg_tokens.specs.declared.token.Token.{Token}
use Rattle.seg_tokens.specs.Words.{tokens_cut}

-- an ASCII byte that is no letter and no digit
abbrev pub separates_words : ℕ → Bool
separates_words byte = nat_lt byte 128 && not (is_ascii_alphanumeric byte)

-- a space, a tab, a line feed or a carriage return
abbrev pub is_blank : ℕ → Bool
is_blank byte = byte == 32 || byte == 9 || byte == 10 || byte == 13

-- words of letters and digits, in lower case
abbrev pub default_tokens : List ℕ → List Token
default_tokens = tokens_cut separates_words to_ascii_lowercase

-- what is between blanks, as it is
abbrev pub whitespace_tokens : List ℕ → List Token
whitespace_tokens = tokens_cut is_blank (λ byte. byte)

-- the whole text, unless it is empty
abbrev pub raw_tokens : List ℕ → List Token
raw_tokens = tokens_cut (λ _. false) (λ byte. byte)

-- texts are cut at ASCII bytes alone
pub separates_words-ascii : (byte : ℕ) → separates_words byte ≡ true → byte < 128
separates_words-ascii byte h = grind (arith, nat_tests)

pub is_blank-ascii : (byte : ℕ) → is_blank byte ≡ true → byte < 128
is_blank-ascii byte h = grind (arith, nat_tests)

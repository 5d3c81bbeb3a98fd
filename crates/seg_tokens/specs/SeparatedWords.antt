-- Texts that read as words with separators between them.
use Rattle.std.specs.Prelude.{ℕ, ◌≡◌, ◌+◌, ◌<◌, Bool, true, false, List, [], ◌∷◌, ◌++◌, length, slice_index}
use Rattle.std.specs.Char.{to_ascii_lowercase}
use Rattle.std.specs.List.{All}
use Rattle.seg_tokens.specs.declared.token.Token.{Token}
use Rattle.seg_tokens.specs.Words.{token_of}
use Rattle.seg_tokens.specs.Tokenizers.{separates_words, is_blank, default_tokens, raw_tokens, whitespace_tokens}

-- a text that is at an offset has these tokens, of which the first has this index: it is separators alone, or
-- separators, then a word up to the next separator or the end, which is the first token, and then a text that has the
-- others
pub data InWords (separates : ℕ → Bool) (kept : ℕ → ℕ) : ℕ → ℕ → List ℕ → List Token → Type 0 where
  no_word : (at index : ℕ) (text : List ℕ) → All (λ byte. separates byte ≡ true) text
      → InWords separates kept at index text []
  a_word : (at index : ℕ) (gap word rest : List ℕ) (tokens : List Token) → All (λ byte. separates byte ≡ true) gap
      → 0 < length word → All (λ byte. separates byte ≡ false) word
      → (0 < length rest → separates (slice_index rest 0) ≡ true)
      → InWords separates kept (at + length gap + length word) (index + 1) rest tokens
      → InWords separates kept at index (gap ++ (word ++ rest)) (token_of kept index (at + length gap, word) ∷ tokens)

-- each tokenizer's tokens are the words of the text
pub record TokensAreWords : Type 0 where
  pub default_words : (text : List ℕ) → InWords separates_words to_ascii_lowercase 0 0 text (default_tokens text)
  pub whitespace_words : (text : List ℕ) → InWords is_blank (λ byte. byte) 0 0 text (whitespace_tokens text)
  pub raw_words : (text : List ℕ) → InWords (λ _. false) (λ byte. byte) 0 0 text (raw_tokens text)

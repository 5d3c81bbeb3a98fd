-- The words of a text, and the tokens that they make.
use Rattle.std.specs.Prelude.{ℕ, ◌+◌, ◌-◌, ◌^◌, ◌==◌, min, Bool, not, List, [], ◌∷◌, length, filter, map}
use Rattle.std.specs.List.{slice_split, enumerate_from}
use Rattle.seg_tokens.specs.declared.token.Token.{Token}

-- pieces with one separator between each two, each with its offset, where the first begins at `at`
abbrev pub placed : ℕ → List (List ℕ) → List (ℕ × List ℕ)
placed at [] = []
placed at (piece ∷ pieces) = (at, piece) ∷ placed (at + length piece + 1) pieces

-- the pieces that aren't empty
abbrev pub words : List (ℕ × List ℕ) → List (ℕ × List ℕ)
words pieces = filter (λ piece. not (length piece.1 == 0)) pieces

-- the token of a word by its index among the words, where `kept` is what is kept of a byte
abbrev pub token_of : (ℕ → ℕ) → ℕ → ℕ × List ℕ → Token
token_of kept index word = record {
  offset_from = word.0;
  offset_to = word.0 + length word.1;
  position = min index (2 ^ 32 - 1);
  position_length = 1;
  text = map kept word.1;
}

-- the tokens of words, of which the first has this index
abbrev pub numbered : (ℕ → ℕ) → ℕ → List (ℕ × List ℕ) → List Token
numbered kept index pieces = map (λ word. token_of kept word.0 word.1) (enumerate_from index pieces)

-- the tokens of a text that is cut at the bytes that separate
abbrev pub tokens_cut : (ℕ → Bool) → (ℕ → ℕ) → List ℕ → List Token
tokens_cut separates kept text = numbered kept 0 (words (placed 0 (slice_split separates text)))

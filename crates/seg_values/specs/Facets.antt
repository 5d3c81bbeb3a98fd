-- Facets: the encoded text of the steps, and the path that tells it.
use Rattle.std.specs.Prelude.{ℕ, ◌≡◌, ◌≢◌, ◌<◌, ◌==◌, List, [], ◌∷◌, map, length}
use Rattle.std.specs.List.{All, slice_split}
use Rattle.seg_common.specs.Replacements.{replacement}

-- the path of an encoded text: a slash, and the text with a slash for each byte 0
abbrev pub path_of : List ℕ → List ℕ
path_of encoded = 47 ∷ map (replacement 0 47) encoded

-- the steps of an encoded text: what is between its bytes 0; the empty text has none
abbrev pub steps : List ℕ → List (List ℕ)
steps [] = []
steps (b ∷ bs) = slice_split (λ byte. byte == 0) (b ∷ bs)

-- a path tells an encoded text: it is that text's path, no step is empty, and none has a slash
pub record Tells (path encoded : List ℕ) : Type 0 where
  pub path_of_encoded : path ≡ path_of encoded
  pub no_empty_step : All (λ step. 0 < length step) (steps encoded)
  pub no_slash : All (λ byte. byte ≢ 47) encoded

-- The terms of several segments, merged: each key once, ascending, with where it is.
use Rattle.std.specs.Prelude.{ℕ, ◌+◌, List, [], ◌∷◌, ◌++◌, map, filter, Option, Some, None}
use Rattle.std.specs.List.{flat_map}
use Rattle.std.specs.Str.{bytes_eq}
use Rattle.seg_termdict.specs.SortedTerms.{SortedTerms, RankedTerm}
use Rattle.seg_common.specs.TabulatedMaps.{tabulated}

-- a segment that has a key, with the ordinal and the info of the key there
pub record Standing (Info : Type 0) : Type 0 where
  pub segment : ℕ
  pub ord : ℕ
  pub info : Info

-- where a key is in one segment
abbrev pub standing_in : {Info : Type 0} → ℕ → List ℕ → List (RankedTerm Info) → List (Standing Info)
standing_in {Info} segment key terms =
    map (λ (t : RankedTerm Info). record { segment = segment; ord = t.ord; info = t.info })
    (filter (λ (t : RankedTerm Info). bytes_eq key t.key) terms)

-- where a key is in segments, in their order, of which the first has the number `first`
abbrev pub standings_from : {Info : Type 0} → ℕ → List ℕ → List (List (RankedTerm Info)) → List (Standing Info)
standings_from first key [] = []
standings_from first key (terms ∷ segments) = standing_in first key terms ++ standings_from (first + 1) key segments

-- standings, where there are any
abbrev pub if_stands : {Info : Type 0} → List (Standing Info) → Option (List (Standing Info))
if_stands [] = None
if_stands (s ∷ ss) = Some (s ∷ ss)

-- the keys that a segment has
abbrev pub keys_in : {Info : Type 0} → List (RankedTerm Info) → List (List ℕ)
keys_in {Info} terms = map (λ (t : RankedTerm Info). t.key) terms

-- the terms of segments merged
abbrev pub merged_terms : {Info : Type 0} → List (List (RankedTerm Info)) → SortedTerms (List (Standing Info))
merged_terms segments = tabulated (λ key. if_stands (standings_from 0 key segments)) (flat_map keys_in segments)

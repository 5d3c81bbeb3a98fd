-- Distinct terms, by their numbers and in byte order.
use Rattle.std.specs.Prelude.{◌≡◌, ℕ, ◌<◌, List, [], ◌∷◌, ◌++◌, length, map, get_or, if◌then◌else◌}
use Rattle.std.specs.List.{list_any, position_or_len, range_with_len}
use Rattle.std.specs.List.Sorted.{IsPermutation, IsStrictlySortedBy}
use Rattle.std.specs.Ordering.{nat_cmp}
use Rattle.std.specs.Cmp.Lexicographic.{slice_cmp}
use Rattle.std.specs.Str.{bytes_eq}

-- the number of a term, or the next one
abbrev pub term_number : List (List ℕ) → List ℕ → ℕ
term_number terms term = position_or_len (bytes_eq term) terms

-- terms with one that may be among them
abbrev pub with_term : List (List ℕ) → List ℕ → List (List ℕ)
with_term terms term = if list_any (bytes_eq term) terms then terms else terms ++ term ∷ []

-- the terms with these numbers
abbrev pub terms_at : List (List ℕ) → List ℕ → List (List ℕ)
terms_at terms numbers = map (λ n. get_or terms n []) numbers

-- all numbers of terms, in the byte order of these
pub record AscendBy (terms : List (List ℕ)) (numbers : List ℕ) : Type 0 where
  pub all : IsPermutation (range_with_len 0 (length terms)) numbers
  pub ascend : IsStrictlySortedBy (slice_cmp nat_cmp) (terms_at terms numbers)

-- the place of each number
pub record AreOrdinals (numbers ordinals : List ℕ) : Type 0 where
  pub many : length ordinals ≡ length numbers
  pub place : (k : ℕ) → k < length numbers → get_or ordinals (get_or numbers k 0) 0 ≡ k

-- numbers of terms in byte order, and the ordinal of each
pub record IsOrder (terms : List (List ℕ)) (numbers ordinals : List ℕ) : Type 0 where
  pub ascend : AscendBy terms numbers
  pub ordinals_are : AreOrdinals numbers ordinals

-- Joined paths by number: the number of a path is its place in a list.
use Rattle.std.specs.Prelude.{◌≡◌, ◌<◌, ℕ, suc, List, [], ◌∷◌, ◌++◌, true, length, reverse, Option, None, Some}
use Rattle.std.specs.List.{AllByRecursion, position, slice_index_or}
use Rattle.std.specs.Str.{bytes_eq}
use Rattle.seg_model.specs.DocumentCheck.{has_no_zero}

-- the number of a path, if it has one
abbrev pub number_of : List (List ℕ) → List ℕ → Option ℕ
number_of paths path = position (bytes_eq path) paths

-- each path that had a number keeps it
abbrev pub Extends : List (List ℕ) → List (List ℕ) → Type 0
Extends old new = (more : List (List ℕ)) × (new ≡ old ++ more)

-- no path has a byte 0
abbrev pub HaveNoZero : List (List ℕ) → Type 0
HaveNoZero paths = AllByRecursion (λ path. has_no_zero path ≡ true) paths

-- what something can be below: a path with a number; or it is at the top
abbrev pub IsAbove : List (List ℕ) → Option ℕ → Type 0
IsAbove paths None = Unit {0}
IsAbove paths (Some number) = number < length paths

-- what bytes add to the path above them: at the top there is none
abbrev pub added : Option ℕ → List ℕ → List ℕ
added None bytes = bytes
added (Some number) bytes = 1 ∷ bytes

-- the path of these bytes below a path, or at the top
abbrev pub below : List (List ℕ) → Option ℕ → List ℕ → List ℕ
below paths None bytes = bytes
below paths (Some number) bytes = slice_index_or paths number [] ++ 1 ∷ bytes

-- what something is below, as one number: 0 is the top, and n + 1 the path with the number n
abbrev pub slot_of : Option ℕ → ℕ
slot_of None = 0
slot_of (Some number) = suc number

-- ---- from a path up to those above it

-- the path with a number; above the top there is none
abbrev pub up : List (List ℕ) → Option ℕ → List ℕ
up paths None = []
up paths (Some number) = slice_index_or paths number []

-- a path is the one above it with what was added, from its end on
pub record StepsUp (paths : List (List ℕ)) (number : ℕ) (above : Option ℕ) (old new : List ℕ) : Type 0 where
  pub within : IsAbove paths above
  pub fewer : slot_of above < suc number
  pub same : up paths above ++ reverse new ≡ slice_index_or paths number [] ++ reverse old

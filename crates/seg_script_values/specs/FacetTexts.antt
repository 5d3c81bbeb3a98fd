-- The facet that a path tells, as its encoded text.
use Rattle.std.specs.Prelude.{ℕ, List, length, map, drop, Bool, ◌&&◌, Option, Some, None, nat_lt, if◌then◌else◌}
use Rattle.std.specs.List.{list_all}
use Rattle.std.specs.Str.{bytes_eq}
use Rattle.seg_common.specs.Replacements.{replacement}
use Rattle.seg_values.specs.Facets.{path_of, steps}

-- what follows the first slash, with a byte 0 for each other one
abbrev pub encoded_from : List ℕ → List ℕ
encoded_from path = map (replacement 47 0) (drop 1 path)

-- no step is empty
abbrev pub has_full_steps : List ℕ → Bool
has_full_steps encoded = list_all (λ step. nat_lt 0 (length step)) (steps encoded)

-- a path that is the path of the text encoded from it, no step of which is empty
abbrev pub facet_of : List ℕ → Option (List ℕ)
facet_of path =
    let encoded = encoded_from path in
    if bytes_eq path (path_of encoded) && has_full_steps encoded then Some encoded else None

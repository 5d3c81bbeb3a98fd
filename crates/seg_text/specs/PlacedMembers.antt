-- Members of an object, by their places.
use Rattle.std.specs.Prelude.{ℕ, ◌<◌, List, [], ◌∷◌, length, slice_get, unwrap_or, option_map}
use Rattle.std.specs.List.{AllByRecursion}
use Rattle.serde_json.specs.Data as json
use Rattle.seg_values.specs.Tree.{Tree, leaf, null}
use Rattle.seg_values.specs.ValueJson.{value_json}

-- the value at a place
abbrev pub value_at : List (List ℕ × Tree) → ℕ → Tree
value_at members place = unwrap_or (option_map (λ m. m.1) (slice_get members place)) (leaf null)

-- keys, each with the value at a place
abbrev pub placed_members : List (List ℕ × Tree) → List (List ℕ × ℕ) → json.Members
placed_members members [] = json.no_members
placed_members members (p ∷ ps) = json.member p.0 (value_json (value_at members p.1)) (placed_members members ps)

-- each place is one of the members'
abbrev pub ArePlaces : List (List ℕ × Tree) → List (List ℕ × ℕ) → Type 0
ArePlaces members places = AllByRecursion (λ p. p.1 < length members) places

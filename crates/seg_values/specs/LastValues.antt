-- The last values of fields.
use Rattle.std.specs.Prelude.{◌≡◌, ℕ, nat_eq, List, [], ◌∷◌, Option, Some, None, if◌then◌else◌}
use Rattle.std.specs.Map.{lookup}
use Rattle.std.specs.Option.{option_or}
use Rattle.seg_values.specs.Tree.{Tree, Document}

-- the value of the last pair of a field
abbrev pub last_value : ℕ → Document → Option Tree
last_value field [] = None
last_value field (p ∷ ps) = option_or (last_value field ps) (if nat_eq field p.0 then Some p.1 else None)

-- entries of a map have of each field its last value, and no other field
abbrev pub HasLastValues : List (ℕ × Tree) → Document → Type 0
HasLastValues entries document = (field : ℕ) → lookup (nat_eq field) entries ≡ last_value field document

-- entries of a map, and those with one more value, at its field
abbrev pub PutsValue : List (ℕ × Tree) → ℕ × Tree → List (ℕ × Tree) → Type 0
PutsValue before pair after = (field : ℕ)
    → lookup (nat_eq field) after ≡ (if nat_eq field pair.0 then Some pair.1 else lookup (nat_eq field) before)

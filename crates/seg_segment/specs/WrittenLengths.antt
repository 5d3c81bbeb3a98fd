-- The length ids of the fields, written field by field.
use Rattle.std.specs.Prelude.{ℕ, ◌≤◌, ◌<◌, ◌+◌, ◌-◌, ◌^◌, List, [], ◌∷◌, map}
use Rattle.seg_directory.specs.CompositeFiles.{Part}

-- a part for each of these fields, with its ids
abbrev pub parts_with : (ℕ → List ℕ) → List ℕ → List Part
parts_with ids fields = map (λ f. (f, ids f)) fields

-- fields that ascend, the first at least the lowest, and can be numbered
abbrev pub AscendFrom : ℕ → List ℕ → Type 0
AscendFrom low [] = Unit {0}
AscendFrom low (f ∷ fs) = (low ≤ f) × (f < 2 ^ 32 - 1) × AscendFrom (f + 1) fs

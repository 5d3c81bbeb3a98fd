-- The bytes that the parts of a composite file are spelled as.
use Rattle.std.specs.Prelude.{◌≡◌, ℕ, ◌+◌, ◌<◌, ◌≤◌, ◌^◌, ◌++◌, List, [], ◌∷◌, length, slice_index}
use Rattle.std.specs.List.{flat_map}
use Rattle.std.specs.Int.{w32, w64, to_le_bytes}
use Rattle.seg_directory.specs.CompositeFiles.{Part}

-- the parts one after the other
abbrev pub bodies : List Part → List ℕ
bodies ps = flat_map (λ p. p.1) ps

-- for each part its field and where it ends
abbrev pub table_from : ℕ → List Part → List ℕ
table_from start [] = []
table_from start (p ∷ ps) = (to_le_bytes w32 p.0 ++ to_le_bytes w64 (start + length p.1))
    ++ table_from (start + length p.1) ps

-- the whole file
abbrev pub spelling : List Part → List ℕ
spelling ps = (bodies ps ++ table_from 0 ps) ++ to_le_bytes w32 (length ps)

-- the fields ascend from the lowest, and are u32
abbrev pub Ascend : ℕ → List Part → Type 0
Ascend low [] = Unit {0}
Ascend low (p ∷ ps) = (low ≤ p.0) × (p.0 < 2 ^ 32) × Ascend (p.0 + 1) ps

-- the bytes spell the parts
pub record IsSpelled (bytes : List ℕ) (ps : List Part) : Type 0 where
  pub spelled : bytes ≡ spelling ps
  pub fields : Ascend 0 ps
  pub few : length ps < 2 ^ 32
  pub small : length (bodies ps) < 2 ^ 64

-- each cell is a byte
abbrev pub IsBytes : List ℕ → Type 0
IsBytes bytes = (i : ℕ) → slice_index bytes i < 256

-- What the definitions say together.
use Rattle.std.specs.Prelude.{◌≡◌, List, ◌++◌}
use Rattle.seg_values.specs.Tree.{Tree}
use Rattle.seg_access.specs.Pieces.{Mark, spelling}

-- where pieces begin with those of two trees, it is one tree, and the same pieces are left
abbrev pub SpellOneTree : Type 0
SpellOneTree = (t u : Tree) (rest other : List Mark)
    → spelling t ++ rest ≡ spelling u ++ other → (t ≡ u) × (rest ≡ other)

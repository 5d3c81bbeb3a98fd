-- Pairs with values that are lent.
use Rattle.std.specs.Prelude.{ℕ}
use Rattle.std.specs.Borrow.{Bor}
use Rattle.seg_values.specs.declared.value.OwnedValue.{OwnedValue}
use Rattle.seg_values.specs.Tree.{Tree}
use Rattle.seg_values.specs.ValueTrees.{tree_of}

-- a field, and the tree of its value
abbrev pub lent_pair : ℕ × Bor OwnedValue → ℕ × Tree
lent_pair p = (p.0, tree_of p.1.now)

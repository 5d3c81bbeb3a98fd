-- The documents of a segment that are alive, one after another.
use Rattle.std.specs.Prelude.{ℕ, ◌-◌, List, Option, Some, None}
use Rattle.std.specs.List.{range_with_len}

-- those that are left: of a set; without one, all from the next one to the end
abbrev pub documents_left : Option (List ℕ) → ℕ → ℕ → List ℕ
documents_left None next end = range_with_len next (end - next)
documents_left (Some left) next end = left

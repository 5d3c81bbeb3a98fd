-- Lists without two items alike.
use Rattle.std.specs.Prelude.{List, [], ◌∷◌, Bool, true, not, ◌&&◌}
use Rattle.std.specs.List.{list_any}

-- no item is like one that follows
abbrev pub all_distinct : {A : Type 0} → (A → A → Bool) → List A → Bool
all_distinct alike [] = true
all_distinct alike (x ∷ xs) = not (list_any (λ y. alike y x) xs) && all_distinct alike xs

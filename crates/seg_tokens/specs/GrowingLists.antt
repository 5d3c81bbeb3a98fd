-- Lists that grow at their end.
use Rattle.std.specs.Prelude.{◌≡◌, List, ◌++◌}

-- the new list begins with the old one
abbrev pub Keeps : {X : Type 0} → List X → List X → Type 0
Keeps {X} old new = (rest : List X) × (new ≡ old ++ rest)

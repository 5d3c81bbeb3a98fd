-- The lines of length ids.
use Rattle.std.specs.Prelude.{ℕ, List, [], ◌∷◌, ◌++◌, if◌then◌else◌, codes}
use Rattle.std.specs.List.{flat_map}
use Rattle.json.specs.Print.{quoted}
use Rattle.seg_model.specs.Fields.{Schema, has_lengths}
use Rattle.seg_text.specs.HeaderText.{id_word}

-- `norms NAME` and each length id after a space
abbrev pub norms_line : List ℕ → List ℕ → List ℕ
norms_line name ids = codes "norms " ++ (quoted name ++ (flat_map id_word ids ++ 10 ∷ []))

-- the fields of a schema that have lengths, in order, each with its ids
abbrev pub norms_text : Schema → List (List ℕ) → List ℕ
norms_text [] norms = []
norms_text (entry ∷ schema) [] = []
norms_text (entry ∷ schema) (ids ∷ others) = (if has_lengths entry then norms_line entry.name ids else [])
    ++ norms_text schema others

-- The first lines of a segment.
use Rattle.std.specs.Prelude.{ℕ, ◌+◌, List, [], ◌∷◌, ◌++◌, Bool, true, false, codes, decimal}
use Rattle.std.specs.List.{flat_map}
use Rattle.seg_common.specs.SegmentIds.{id_text}

-- `LABEL ID docs N alive A`
abbrev pub header_text : List ℕ → ℕ → ℕ → ℕ → List ℕ
header_text label id documents alive_count =
    label ++ 32 ∷ (id_text id ++ (codes " docs "
    ++ (decimal documents ++ (codes " alive " ++ (decimal alive_count ++ 10 ∷ [])))))

-- the ids of deleted documents, where the first document has the id `first`
abbrev pub dead_from : ℕ → List Bool → List ℕ
dead_from first [] = []
dead_from first (true ∷ alive) = dead_from (first + 1) alive
dead_from first (false ∷ alive) = first ∷ dead_from (first + 1) alive

-- an id after a space
abbrev pub id_word : ℕ → List ℕ
id_word id = 32 ∷ decimal id

-- `dead` and each id, where there are any
abbrev pub dead_line : List ℕ → List ℕ
dead_line [] = []
dead_line (id ∷ ids) = codes "dead" ++ (flat_map id_word (id ∷ ids) ++ 10 ∷ [])

-- the line of the deleted documents: none where all are alive
abbrev pub dead_text : List Bool → List ℕ
dead_text alive = dead_line (dead_from 0 alive)

-- The ids that documents have when segments are joined.
use Rattle.std.specs.Prelude.{ℕ, ◌+◌, ◌-◌, ◌^◌, ◌==◌, if◌then◌else◌, Bool, true, false, List, [], ◌∷◌, map, Option, Some, None}
use Rattle.seg_bits.specs.BitSets.{member_count}
use Rattle.seg_open.specs.OpenSegment.{OpenSegment}

-- the id of each document of a segment, where it is kept; the first that is kept has the id `first`
abbrev pub new_ids : ℕ → List Bool → List (Option ℕ)
new_ids first [] = []
new_ids first (true ∷ marks) = Some first ∷ new_ids (first + 1) marks
new_ids first (false ∷ marks) = None ∷ new_ids first marks

-- an id as it is in a table; 2^32 - 1 stands for none
abbrev pub id_of : ℕ → Option ℕ
id_of n = if n == 2 ^ 32 - 1 then None else Some n

-- a segment with the new ids of its documents
pub record NumberedSegment : Type 0 where
  pub part : OpenSegment
  pub ids : List (Option ℕ)

-- segments one after another; the first document that is kept has the id `first`
abbrev pub numbered_from : ℕ → List OpenSegment → List NumberedSegment
numbered_from first [] = []
numbered_from first (p ∷ parts) = record { part = p; ids = new_ids first p.alive }
    ∷ numbered_from (first + member_count p.alive) parts

-- the segments without the ids
abbrev pub parts_of : List NumberedSegment → List OpenSegment
parts_of numbered = map (λ n. n.part) numbered

-- The length ids of segments, joined.
use Rattle.std.specs.Prelude.{ℕ, List, [], unwrap_or}
use Rattle.std.specs.List.{flat_map}
use Rattle.seg_model.specs.Operations.{kept}
use Rattle.seg_directory.specs.CompositeFiles.{field_of}
use Rattle.seg_open.specs.OpenSegment.{OpenSegment}

-- the ids of a field in the kept documents of a segment; none where it has no part for the field
abbrev pub kept_ids : ℕ → OpenSegment → List ℕ
kept_ids field p = kept p.alive (unwrap_or (field_of p.norms field) [])

-- those of segments, one after another
abbrev pub joined_ids : List OpenSegment → ℕ → List ℕ
joined_ids parts field = flat_map (kept_ids field) parts

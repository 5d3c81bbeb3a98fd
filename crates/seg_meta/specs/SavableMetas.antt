-- Metas that can be saved.
use Rattle.std.specs.Prelude.{◌≡◌, ◌<◌, ◌^◌, List, [], length, Bool, true, nat_eq, None}
use Rattle.seg_values.specs.DistinctLists.{all_distinct}
use Rattle.seg_model.specs.Fields.{Schema}
use Rattle.seg_model.specs.Input.{Settings}
use Rattle.seg_meta.specs.IndexOfFiles.{ListedSegment, Meta}

-- two segments have one id
abbrev pub same_id : ListedSegment → ListedSegment → Bool
same_id s t = nat_eq s.id t.id

-- the ids are distinct
abbrev pub are_distinct : List ListedSegment → Bool
are_distinct segments = all_distinct same_id segments

-- fewer than 2^32 segments, with distinct ids
abbrev pub IsMetaList : List ListedSegment → Type 0
IsMetaList segments = (length segments < 2 ^ 32) × (are_distinct segments ≡ true)

-- the meta of an index without segments
abbrev pub empty_meta : Settings → Schema → Meta
empty_meta settings schema = record { settings = settings; schema = schema; stamp = 0; payload = None; segments = [] }

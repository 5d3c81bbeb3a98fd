-- Where the documents of joined segments come from.
use Rattle.std.specs.Prelude.{ℕ, ◌+◌, List, [], ◌∷◌, ◌++◌, map, Bool, true, false}
use Rattle.std.specs.List.{list_all}
use Rattle.seg_bits.specs.BitSets.{numbers_from}
use Rattle.seg_column_file.specs.declared.row_addr.RowAddr.{RowAddr}
use Rattle.seg_open.specs.OpenSegment.{OpenSegment}
use Rattle.seg_merger.specs.declared.doc_id_mapping.MappingType.{MappingType}
use Rattle.seg_merger.specs.declared.doc_id_mapping.MappingType.TheVariants.{Stacked, StackedWithDeletes}

-- a place for each document of the joined segment, in order, and how segments are put together
pub record Mapping : Type 0 where
  pub addresses : List RowAddr
  pub mapping_type : MappingType

-- the documents of a segment that are alive, ascending, each with the number of the segment
abbrev pub places_in : ℕ → List Bool → List RowAddr
places_in number alive = map (λ id. record { segment_ord = number; row_id = id }) (numbers_from 0 alive)

-- those of segments, one segment after another, the first of this number
abbrev pub live_places : ℕ → List OpenSegment → List RowAddr
live_places number [] = []
live_places number (s ∷ readers) = places_in number s.alive ++ live_places (number + 1) readers

-- whether all documents of segments are alive
abbrev pub all_alive : List OpenSegment → Bool
all_alive readers = list_all (λ s. list_all (λ b. b) s.alive) readers

-- segments of which all documents are alive are stacked as they are
abbrev pub type_of : Bool → MappingType
type_of true = Stacked
type_of false = StackedWithDeletes

-- the mapping of open segments
abbrev pub mapping_of : List OpenSegment → Mapping
mapping_of readers = record { addresses = live_places 0 readers; mapping_type = type_of (all_alive readers) }

-- What fills a serializer of a segment that segments are joined to.
use Rattle.std.specs.Prelude.{ℕ, ◌≡◌, List, map, Some, IsSomeAnd, option_map}
use Rattle.seg_directory.specs.CompositeFiles.{composite}
use Rattle.seg_meta.specs.Metas.{SegmentParts}
use Rattle.seg_model.specs.Fields.{Schema, fields}
use Rattle.seg_model.specs.Join.{joined_norms, joined_terms}
use Rattle.seg_norms.specs.FieldNorms.{norms_parts}
use Rattle.seg_postings.specs.FieldFiles.{FieldFiles}
use Rattle.seg_segment.specs.TermFiles.{HoldTerms}
use Rattle.seg_segment.specs.SegmentSerializers.{Serializing}
use Rattle.seg_segment.specs.TokenTotals.{TellTotals}
use Rattle.seg_open.specs.OpenSegment.{OpenSegment, part_of}
use Rattle.seg_merger.specs.JoinedColumns.{HasJoinedColumns}
use Rattle.seg_merger.specs.JoinedStore.{joined_documents, no_documents, taken_documents, with_segments}
use Rattle.seg_merger.specs.JoinedTotals.{joined_total}

-- files of these parts hold the joined terms, and tell the estimated totals
abbrev pub HoldJoined : Schema → List OpenSegment → FieldFiles → Type 0
HoldJoined schema readers parts =
    (terms postings positions : List ℕ) → composite terms ≡ Some parts.terms → composite postings ≡ Some parts.postings
    → composite positions ≡ Some parts.positions
    → HoldTerms schema terms postings positions (map (joined_terms (map part_of readers)) (fields schema))
    × TellTotals schema (joined_total readers) postings

-- a file has the joined length ids
abbrev pub HoldsJoinedNorms : Schema → List OpenSegment → List ℕ → Type 0
HoldsJoinedNorms schema readers file =
    composite file ≡ Some (norms_parts schema (map (joined_norms (map part_of readers)) (fields schema)))

-- a serializer of a segment has what segments are joined to, with blocks that are stacked or of this size
pub record IsJoined (segment : SegmentParts) (block_size : ℕ) (readers : List OpenSegment)
    (s : Serializing) : Type 0 where
  pub segment_is : s.segment ≡ segment
  pub postings : IsSomeAnd s.postings (HoldJoined segment.schema readers)
  pub store : s.store ≡ Some (with_segments readers (no_documents block_size))
  pub stored : option_map taken_documents s.store ≡ Some (joined_documents readers)
  pub columns : HasJoinedColumns segment.schema readers s.fast
  pub norms : IsSomeAnd s.norms (HoldsJoinedNorms segment.schema readers)

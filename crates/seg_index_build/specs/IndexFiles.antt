-- The files of the indexes that are built.
use Rattle.std.specs.Prelude.{ℕ, ◌≡◌, List, [], ◌∷◌, ◌++◌, map, length, Some, None, codes}
use Rattle.std.specs.List.{join_with_byte}
use Rattle.seg_common.specs.SegmentIds.{id_text}
use Rattle.seg_common.specs.declared.name.FileName.{FileName}
use Rattle.seg_directory.specs.Files.{NamedFiles}
use Rattle.seg_model.specs.Fields.{Schema, Analyzer}
use Rattle.seg_meta.specs.IndexOfFiles.{ListedSegment, Meta}
use Rattle.seg_meta.specs.IndexOfFiles as index
use Rattle.seg_model.specs.Input.{Settings, Input, input_batches, input_survivors}
use Rattle.seg_model.specs.Operations.{Operation, batches}
use Rattle.seg_segment.specs.IndexForms.{segment_forms}
use Rattle.seg_batches.specs.WrittenSegments.{WrittenSegment, segments_of, all_listed, six_files, alive_files, AllStand, AllTellAlive}

-- ---- ids

-- the ids of the work segments: all but the last
abbrev pub work_ids : List ℕ → List ℕ
work_ids [] = []
work_ids (id ∷ []) = []
work_ids (id ∷ other ∷ ids) = id ∷ work_ids (other ∷ ids)

-- the id of the output segment: the last
abbrev pub output_id : List ℕ → ℕ
output_id [] = 0
output_id (id ∷ []) = id
output_id (id ∷ other ∷ ids) = output_id (other ∷ ids)

-- ---- metas

-- what an index says about itself whose segment was merged from these
abbrev pub merge_payload : List ℕ → List ℕ
merge_payload ids = codes "Segments Merge: [" ++ (join_with_byte 32 (map id_text ids) ++ codes "]")

-- the segments of operations that are cut in batches, each under its id
abbrev pub written_of : Schema → Analyzer → List ℕ → List ℕ → List Operation → List WrittenSegment
written_of schema analyzer ids cuts operations = segments_of ids (batches schema analyzer cuts operations)

-- as a meta lists them: deletes count up to the number of operations
abbrev pub listed_of : Schema → Analyzer → List ℕ → List ℕ → List Operation → List ListedSegment
listed_of schema analyzer ids cuts operations = all_listed (length operations)
    (written_of schema analyzer ids cuts operations)

-- those of an input
abbrev pub work_segments : Analyzer → Input → List WrittenSegment
work_segments analyzer input = written_of input.schema analyzer (work_ids input.ids) input.cuts input.operations

-- as its meta lists them
abbrev pub work_listed : Analyzer → Input → List ListedSegment
work_listed analyzer input = listed_of input.schema analyzer (work_ids input.ids) input.cuts input.operations

-- an index of segments with deletes
abbrev pub segments_meta : Settings → Schema → ℕ → List ListedSegment → Meta
segments_meta settings schema stamp segments =
    record { settings = settings; schema = schema; stamp = stamp; payload = None; segments = segments }

-- a segment without deletes
abbrev pub undeleted : ℕ → ℕ → ListedSegment
undeleted id documents = record { id = id; documents = documents; deletes = None }

-- an index of one segment of this many documents, which was merged from the segments with these ids
abbrev pub merged_meta : Settings → Schema → List ℕ → ℕ → ℕ → Meta
merged_meta settings schema ids id documents = record {
  settings = settings;
  schema = schema;
  stamp = 0;
  payload = Some (merge_payload ids);
  segments = undeleted id documents ∷ [];
}

-- the meta of the work index: one segment a batch, and the number of operations as its stamp
abbrev pub work_meta : Analyzer → Input → Meta
work_meta analyzer input = segments_meta input.settings input.schema (length input.operations)
    (work_listed analyzer input)

-- the meta of the output index: one segment, of the survivors
abbrev pub output_meta : Analyzer → Input → Meta
output_meta analyzer input = merged_meta input.settings input.schema (work_ids input.ids) (output_id input.ids)
    (length (input_survivors analyzer input))

-- ---- files

-- the files are the work index of an input: each segment stands for the documents of its batch, and an alive file tells
-- what deletes leave of it, where they remove some
pub record IsWorkIndexOf (analyzer : Analyzer) (input : Input) (files : NamedFiles) : Type 0 where
  pub index_of : index.index_of segment_forms files ≡ Some (work_meta analyzer input)
  pub stand : AllStand input.schema analyzer files (work_ids input.ids) (input_batches analyzer input)
  pub alive : AllTellAlive files (length input.operations) (work_segments analyzer input)

-- the files are the output index of an input
pub record IsOutputIndexOf (analyzer : Analyzer) (input : Input) (files : NamedFiles) : Type 0 where
  pub index_of : index.index_of segment_forms files ≡ Some (output_meta analyzer input)
  pub stands : index.StandsFor segment_forms files input.schema analyzer (output_id input.ids)
      (input_survivors analyzer input)

-- the files are an index of one segment that was merged from those of an input, of this many documents
abbrev pub IsMergedIndexOf : Input → ℕ → NamedFiles → Type 0
IsMergedIndexOf input documents files =
    index.index_of segment_forms files
    ≡ Some (merged_meta input.settings input.schema (work_ids input.ids) (output_id input.ids) documents)

-- ---- while they are written

-- the files of listed segments, in the order in which they are made: the six files of each, and then the alive files
abbrev pub segments_files : List ListedSegment → List FileName
segments_files segments = six_files (map (λ s. s.id) segments) ++ alive_files segments

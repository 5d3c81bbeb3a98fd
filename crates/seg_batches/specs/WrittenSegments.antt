-- The segments of batches, as they are listed, and the files that they are written to.
use Rattle.std.specs.Prelude.{ℕ, List, [], ◌∷◌, map, length, Bool, not, Option, Some, None, if◌then◌else◌}
use Rattle.std.specs.List.{flat_map, list_all, count_by}
use Rattle.seg_common.specs.declared.name.FileName.{FileName}
use Rattle.seg_common.specs.declared.name.FileName.TheVariants.{Alive}
use Rattle.seg_directory.specs.Files.{NamedFiles}
use Rattle.seg_model.specs.Fields.{Schema, Analyzer}
use Rattle.seg_meta.specs.IndexOfFiles as index
use Rattle.seg_meta.specs.IndexOfFiles.{Deletes, ListedSegment}
use Rattle.seg_model.specs.Operations.{Batch}
use Rattle.seg_segment.specs.IndexForms.{segment_forms}
use Rattle.seg_segment.specs.AliveFiles.{HoldsAlive}
use Rattle.seg_segment.specs.SegmentFiles.{segment_names}
pub use Rattle.seg_open.specs.OpenSegment.{LacksSome, alive_of}

-- ---- as they are listed

-- a segment that was written: how many documents it has, and which of them are alive
pub record WrittenSegment : Type 0 where
  pub id : ℕ
  pub documents : ℕ
  pub alive : List Bool

-- the segment of a batch
abbrev pub segment_of : ℕ → Batch → WrittenSegment
segment_of id batch = record { id = id; documents = length batch.documents; alive = batch.alive }

-- one a batch, each under its id
abbrev pub segments_of : List ℕ → List Batch → List WrittenSegment
segments_of [] batches = []
segments_of (id ∷ ids) [] = []
segments_of (id ∷ ids) (batch ∷ batches) = segment_of id batch ∷ segments_of ids batches

-- the deletes of a segment: none where all its documents are alive
abbrev pub deletes_of : ℕ → List Bool → Option Deletes
deletes_of stamp alive =
    if list_all (λ b. b) alive then None else Some (record { number = count_by not alive; stamp = stamp })

-- as the meta lists a segment
abbrev pub listed : ℕ → WrittenSegment → ListedSegment
listed stamp s = record { id = s.id; documents = s.documents; deletes = deletes_of stamp s.alive }

-- and each
abbrev pub all_listed : ℕ → List WrittenSegment → List ListedSegment
all_listed stamp segments = map (listed stamp) segments

-- ---- the files

-- the six files of each id
abbrev pub six_files : List ℕ → List FileName
six_files ids = flat_map segment_names ids

-- the alive file that there is with deletes
abbrev pub alive_file : ℕ → Option Deletes → List FileName
alive_file id None = []
alive_file id (Some d) = Alive id d.stamp ∷ []

-- the alive files of listed segments
abbrev pub alive_files : List ListedSegment → List FileName
alive_files segments = flat_map (λ (s : ListedSegment). alive_file s.id s.deletes) segments

-- ---- what they hold

-- the files of each id stand for the documents of its batch
abbrev pub AllStand : Schema → Analyzer → NamedFiles → List ℕ → List Batch → Type 0
AllStand schema analyzer files [] batches = Unit {0}
AllStand schema analyzer files (id ∷ ids) [] = Unit {0}
AllStand schema analyzer files (id ∷ ids) (batch ∷ batches) =
    index.StandsFor segment_forms files schema analyzer id batch.documents × AllStand schema analyzer files ids batches

-- the alive file of a segment tells which of its documents are alive; without deletes there is nothing to tell
abbrev pub TellsAlive : NamedFiles → ℕ → ℕ → List Bool → Option Deletes → Type 0
TellsAlive files id documents alive None = Unit {0}
TellsAlive files id documents alive (Some d) = HoldsAlive files id d.stamp documents alive

-- and of each segment
abbrev pub AllTellAlive : NamedFiles → ℕ → List WrittenSegment → Type 0
AllTellAlive files stamp [] = Unit {0}
AllTellAlive files stamp (s ∷ segments) =
    TellsAlive files s.id s.documents s.alive (deletes_of stamp s.alive) × AllTellAlive files stamp segments

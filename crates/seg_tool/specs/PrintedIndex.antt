-- The text of an index, of what a directory answers.
use Rattle.std.specs.Prelude.{ℕ, ◌≡◌, List, [], ◌∷◌, ◌++◌, map, None, Some, Result, Ok, Err}
use Rattle.seg_index_build.specs.MergedIndices.{listed_segments}
use Rattle.seg_values.specs.declared.error.TantivyError.{TantivyError}
use Rattle.seg_directory.specs.Files.{NamedFiles}
use Rattle.seg_directory.specs.DirectoryStates.{DirectoryState}
use Rattle.seg_meta.specs.IndexOfFiles as index
use Rattle.seg_meta.specs.IndexOfFiles.{ListedSegment}
use Rattle.seg_meta.specs.MetaSteps.{LoadsMetas}
use Rattle.seg_meta.specs.Metas.{SegmentParts}
use Rattle.seg_meta.specs.MetaMeaning.{meta_of}
use Rattle.seg_meta.specs.declared.index_meta.IndexMeta.{IndexMeta}
use Rattle.seg_model.specs.Fields.{Schema}
use Rattle.seg_segment.specs.IndexForms.{segment_forms}
use Rattle.seg_segment.specs.AliveFiles.{HoldsMarks}
use Rattle.seg_segment.specs.FileContents.{Holds}
use Rattle.seg_open.specs.OpenSegment.{OpenSegment, contents_of}
use Rattle.seg_open.specs.OpeningSteps.{Asked, Opens, OpensSegments}
use Rattle.seg_tool.specs.Printing.{read_segment_text, read_texts}
use Rattle.seg_tool.specs.declared.words.Detail.{Detail}

-- a segment is asked for, with all its documents that are alive
abbrev pub all_of_one : SegmentParts → Asked
all_of_one segment = record { segment = segment; custom = None }

-- segments are, each so
abbrev pub all_of : List SegmentParts → List Asked
all_of segments = map all_of_one segments

-- a segment is opened, and its text is added; or it isn't, also where memory runs out once it is open
abbrev pub PrintsNext : {T : Type 0} → List ℕ → Detail → SegmentParts → Result T TantivyError → List ℕ → List ℕ
    → DirectoryState → DirectoryState → Type 0
PrintsNext label detail segment (Ok _) old new before after =
    (s : OpenSegment) × (new ≡ old ++ read_segment_text label detail s) × Opens (all_of_one segment) (Ok s) before after
PrintsNext label detail segment (Err e) old new before after = Opens (all_of_one segment) (Err e) before after

-- segments are opened in turn, and the answer is what was printed before with their texts; or they aren't, also where
-- memory runs out between
pub data ReadsText (front label : List ℕ) (detail : Detail) (asked : List Asked) (result : Result (List ℕ) TantivyError)
    (before after : DirectoryState) : Type 0 where
  fails : (e : TantivyError) → result ≡ Err e → OpensSegments asked (Err e) before after
      → ReadsText front label detail asked result before after
  reads : (opened : List OpenSegment) → result ≡ Ok (front ++ read_texts label detail opened)
      → OpensSegments asked (Ok opened) before after → ReadsText front label detail asked result before after

-- the meta of an index is read, and then the text of the segments that it lists
pub data PrintsIndex (front label : List ℕ) (detail : Detail) (result : Result (List ℕ) TantivyError)
    (before after : DirectoryState) : Type 0 where
  not_loaded : (e : TantivyError) → result ≡ Err e → LoadsMetas (Err e) before after
      → PrintsIndex front label detail result before after
  loaded : (metas : IndexMeta) (between : DirectoryState) → LoadsMetas (Ok metas) before between
      → ReadsText front label detail (all_of (listed_segments metas)) result between after
      → PrintsIndex front label detail result before after

-- ---- where the files are told

-- an open segment has what the files hold of a listed segment
pub record IsReadOf (files : NamedFiles) (schema : Schema) (listed : ListedSegment) (s : OpenSegment) : Type 0 where
  pub of_id : s.id ≡ listed.id
  pub of_schema : s.schema ≡ schema
  pub holds : Holds files listed.id schema (contents_of s)
  pub alive : HoldsMarks files listed.id listed.documents listed.deletes s.alive

-- and each
abbrev pub AreReadOf : NamedFiles → Schema → List ListedSegment → List OpenSegment → Type 0
AreReadOf files schema [] [] = Unit {0}
AreReadOf files schema [] (s ∷ opened) = ⊥
AreReadOf files schema (l ∷ listed) [] = ⊥
AreReadOf files schema (l ∷ listed) (s ∷ opened) = IsReadOf files schema l s × AreReadOf files schema listed opened

-- the files have an index, of which these segments were opened, one after another; this is their text, after what was
-- printed before
pub record IsPrinted (front label : List ℕ) (detail : Detail) (files : NamedFiles) (text : List ℕ) : Type 0 where
  pub metas : IndexMeta
  pub is_index : index.index_of segment_forms files ≡ Some (meta_of metas)
  pub opened : List OpenSegment
  pub are_read : AreReadOf files metas.schema metas.segments opened
  pub printed : text ≡ front ++ read_texts label detail opened

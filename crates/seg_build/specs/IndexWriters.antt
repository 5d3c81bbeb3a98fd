-- A writer of an index of one segment, and what it does with a directory.
use Rattle.std.specs.Prelude.{ℕ, ◌≡◌, List, [], ◌∷◌, ◌++◌, Option, None, Some, Result, Err, IfSome}
use Rattle.seg_common.specs.declared.name.FileName.{FileName}
use Rattle.seg_common.specs.declared.name.FileName.TheVariants as name
use Rattle.seg_values.specs.Tree.{Document}
use Rattle.seg_values.specs.declared.error.TantivyError.{TantivyError}
use Rattle.seg_values.specs.declared.error.TantivyError.TheVariants.{SystemError}
use Rattle.seg_directory.specs.Calls.{synced}
use Rattle.seg_directory.specs.DirectoryStates.{DirectoryState}
use Rattle.seg_directory.specs.DirectorySteps.{Step, Works, calls}
use Rattle.seg_meta.specs.IndexOfFiles.{Meta}
use Rattle.seg_meta.specs.MetaSteps.{save_steps}
use Rattle.seg_meta.specs.MetaText.{meta_text}
use Rattle.seg_model.specs.Fields.{Schema, Analyzer}
use Rattle.seg_model.specs.Input.{Settings}
use Rattle.seg_segment.specs.SegmentFiles.{segment_names, write_steps}
use Rattle.seg_segment.specs.declared.segment_files.SegmentFiles.{SegmentFiles}
use Rattle.seg_build.specs.FinishedFiles.{AreOfKept, Fails}
use Rattle.seg_build.specs.WriterContents.{Kept}
use Rattle.seg_build.specs.SegmentWriters.{SegmentWriting, IsKeptOf, document_count}

-- the settings of the index, and the writer of its segment
pub record IndexWriting : Type 0 where
  pub settings : Settings
  pub segment : SegmentWriting

-- what a writer keeps, it keeps of documents
abbrev pub IsUnderWay : Analyzer → SegmentWriting → Type 0
IsUnderWay analyzer w =
    IfSome w.kept (λ kept. (documents : List Document) × (stamps : List ℕ)
    × IsKeptOf w.schema analyzer w.block_size documents stamps kept)

-- the meta of an index of one segment, of this many documents: no stamp, no payload and no deletes
abbrev pub one_segment_meta : Settings → Schema → ℕ → ℕ → Meta
one_segment_meta settings schema id documents = record {
  settings = settings;
  schema = schema;
  stamp = 0;
  payload = None;
  segments = record { id = id; documents = documents; deletes = None } ∷ [];
}

-- that of the index of which a writer has the segment
abbrev pub meta_written : IndexWriting → Meta
meta_written w = one_segment_meta w.settings w.segment.schema w.segment.id (document_count w.segment.kept)

-- the files of an index of one segment: its six files, and the meta
abbrev pub index_files : ℕ → List FileName
index_files id = segment_names id ++ name.Meta ∷ []

-- a meta is saved, and reaches the disk
abbrev pub publish_steps : Meta → List Step
publish_steps meta = save_steps (meta_text meta) ++ calls synced ∷ []

-- an index of what is kept is written: before any call its documents have no columns or it is out of memory; or six
-- files of it are made, and then this meta is saved
pub data FinishesIndex {T : Type 0} (meta : Meta) (schema : Schema) (id : ℕ) (kept : Kept)
    (result : Result T TantivyError) (before after : DirectoryState) : Type 0 where
  fails : (e : TantivyError) → Fails schema kept e → result ≡ Err e → after ≡ before
      → FinishesIndex meta schema id kept result before after
  makes : (files : SegmentFiles) → AreOfKept schema kept files
      → Works (write_steps id files ++ publish_steps meta) result before after
      → FinishesIndex meta schema id kept result before after

-- where anything is kept; else there is only an error
abbrev pub FinishesKept : {T : Type 0} → Meta → Schema → ℕ → Option Kept
    → Result T TantivyError → DirectoryState → DirectoryState → Type 0
FinishesKept meta schema id None result before after = (result ≡ Err SystemError) × (after ≡ before)
FinishesKept meta schema id (Some kept) result before after = FinishesIndex meta schema id kept result before after

-- what a writer has is written as an index
abbrev pub FinalizesIndex : {T : Type 0} → IndexWriting
    → Result T TantivyError → DirectoryState → DirectoryState → Type 0
FinalizesIndex w result before after =
    FinishesKept (meta_written w) w.segment.schema w.segment.id w.segment.kept result before after

-- The six files of a segment, read from a directory and opened one after another.
use Rattle.std.specs.Prelude.{◌≡◌, ◌<◌, ◌-◌, ◌^◌, ◌++◌, ℕ, List, length, Option, Result, Ok, Err, IfOk}
use Rattle.seg_common.specs.declared.name.SegmentComponent.{SegmentComponent}
use Rattle.seg_common.specs.declared.name.SegmentComponent.TheVariants.{Terms, Store, Postings}
use Rattle.seg_values.specs.declared.error.TantivyError.{TantivyError}
use Rattle.seg_directory.specs.DirectoryStates.{DirectoryState}
use Rattle.seg_directory.specs.DirectorySteps.{Step, Works}
use Rattle.seg_model.specs.Fields.{Schema}
use Rattle.seg_postings.specs.OpenedFields.{FirstPart}
use Rattle.seg_segment.specs.declared.segment_files.SegmentFiles.{SegmentFiles}
use Rattle.seg_open.specs.FileSizes.{no_sizes}
use Rattle.seg_open.specs.OpenedFiles.{AreOpen, StoreOpened}
use Rattle.seg_open.specs.OpenedTermFiles.{PostingsOpened, TermsOpened}
use Rattle.seg_open.specs.OpeningSteps.{AreChecked, Check, check_steps, open_steps, sound}
use Rattle.seg_open.specs.declared.core_readers.CoreReaders.{CoreReaders}
use Rattle.seg_open.specs.declared.core_readers.FirstReaders.{FirstReaders}

-- the files of an id are opened, whatever they are found to be
pub record ReadsFiles (id : ℕ) (schema : Schema) (documents : ℕ) (result : Result CoreReaders TantivyError)
    (before after : DirectoryState) : Type 0 where
  pub files : SegmentFiles
  pub checks : SegmentComponent → Check
  pub checked : AreChecked schema documents files checks
  pub works : Works (open_steps id files checks) result before after
  pub is : IfOk result (AreOpen schema documents files)

-- the three files that are read first, each found sound
abbrev pub first_steps : ℕ → List ℕ → List ℕ → List ℕ → List Step
first_steps id terms store postings =
    check_steps id Terms terms sound ++ (check_steps id Store store sound ++ check_steps id Postings postings sound)

-- readers are those of three files that were read
pub record FirstRead (id : ℕ) (schema : Schema) (documents : ℕ) (readers : FirstReaders)
    (before after : DirectoryState) : Type 0 where
  pub terms : List ℕ
  pub store : List ℕ
  pub postings : List ℕ
  pub works : Works {T = Unit {0}} (first_steps id terms store postings) (Ok tt) before after
  pub dictionaries : List (Option FirstPart)
  pub terms_opened : TermsOpened schema documents terms dictionaries
  pub store_opened : StoreOpened schema documents store readers.store
  pub postings_opened : PostingsOpened schema postings dictionaries readers.fields.items
  pub few : length readers.fields.items < 2 ^ 32 - 1
  pub sizes : readers.sizes
      ≡ record no_sizes { terms = length terms; store = length store; postings = length postings }

-- three files are read and opened, or one of them isn't
abbrev pub ReadsFirst : ℕ → Schema → ℕ → Result FirstReaders TantivyError → DirectoryState → DirectoryState → Type 0
ReadsFirst id schema documents (Ok readers) before after = FirstRead id schema documents readers before after
ReadsFirst id schema documents (Err e) before after = ReadsFiles id schema documents (Err e) before after

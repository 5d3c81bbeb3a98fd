-- What the opening of segments does, which changes no file.
use Rattle.std.specs.Prelude.{ℕ, ◌≡◌, List, [], ◌∷◌, ◌++◌, length, Bool, true, not, ◌&&◌, ◌==◌, is_some, if◌then◌else◌, replicate, Option, Some, None, Result, Ok, Err, IfOk, IfSome}
use Rattle.std.specs.List.{AllByRecursion, count_by, slice_get}
use Rattle.std.specs.Option.{option_map}
use Rattle.seg_common.specs.declared.name.FileName.TheVariants.{Alive, Part}
use Rattle.seg_common.specs.declared.name.SegmentComponent.{SegmentComponent}
use Rattle.seg_values.specs.declared.error.TantivyError.{TantivyError}
use Rattle.seg_values.specs.declared.error.TantivyError.TheVariants.{DataCorruption, OutOfMemory}
use Rattle.seg_bits.specs.BitSets.{set_of}
use Rattle.seg_directory.specs.Calls.{read}
use Rattle.seg_directory.specs.DirectoryStates.{DirectoryState}
use Rattle.seg_directory.specs.DirectorySteps.{Step, Works, calls, passes}
use Rattle.seg_model.specs.Fields.{Schema}
use Rattle.seg_model.specs.Input.{Filter}
use Rattle.seg_model.specs.Operations.{filtered_by}
use Rattle.seg_meta.specs.IndexOfFiles.{Deletes}
use Rattle.seg_meta.specs.Metas.{SegmentParts}
use Rattle.seg_postings.specs.OpenedFields.{OpenField, dictionary_terms}
use Rattle.seg_segment.specs.SegmentFiles.{bytes_of, read_order}
use Rattle.seg_segment.specs.SpelledContents.{Spell}
use Rattle.seg_segment.specs.TokenTotals.{token_total}
use Rattle.seg_segment.specs.declared.segment_files.SegmentFiles.{SegmentFiles}
use Rattle.seg_open.specs.Disagreement.{Disagree}
use Rattle.seg_open.specs.FieldParts.{dictionary_in}
use Rattle.seg_open.specs.FileSizes.{sizes_of}
use Rattle.seg_open.specs.OpenSegment.{OpenSegment, alive_of, contents_of}
use Rattle.seg_open.specs.SoundFiles.{IsSound}
use Rattle.seg_open.specs.declared.open_error.OpenError.{OpenError}
use Rattle.seg_open.specs.declared.open_error.OpenError.TheVariants as open_error
pub use Rattle.seg_segment.specs.ReadErrors.{IsNoDamage, IsReadError}

-- ---- the six files

-- what is told of a segment that can't be opened
abbrev pub error_of : ℕ → OpenError → TantivyError
error_of id (open_error.Damaged component) = DataCorruption (Part id component)
error_of id open_error.OutOfMemory = OutOfMemory

-- how the check of a file ends: it is sound, or damaged; or memory runs out, and neither is known
pub data Check : Type 0 where
  sound : Check
  damaged : Check
  unfinished : Check

-- what is told then
abbrev pub refusal_of : ℕ → SegmentComponent → Check → Option TantivyError
refusal_of id component sound = None
refusal_of id component damaged = Some (DataCorruption (Part id component))
refusal_of id component unfinished = Some OutOfMemory

-- a file is checked together with those that are read before it: it is sound; or it is damaged, so that whatever those
-- after it are, the files spell no contents of this many documents
abbrev pub IsChecked : Schema → ℕ → SegmentFiles → SegmentComponent → Check → Type 0
IsChecked schema documents files component sound = IsSound schema documents files component
IsChecked schema documents files component damaged = Disagree schema documents files component
IsChecked schema documents files component unfinished = Unit {0}

-- each of the six files is
abbrev pub AreChecked : Schema → ℕ → SegmentFiles → (SegmentComponent → Check) → Type 0
AreChecked schema documents files checks =
    AllByRecursion (λ c. IsChecked schema documents files c (checks c)) read_order

-- a file is read, and then it is checked
abbrev pub check_steps : ℕ → SegmentComponent → List ℕ → Check → List Step
check_steps id component bytes check =
    calls (read (Part id component) bytes) ∷ passes (refusal_of id component check) ∷ []

-- so are the files of components in turn: a file is read once those before it are found sound
abbrev pub file_steps : ℕ → SegmentFiles → (SegmentComponent → Check) → List SegmentComponent → List Step
file_steps id files checks [] = []
file_steps id files checks (c ∷ components) =
    check_steps id c (bytes_of files c) (checks c) ++ file_steps id files checks components

-- and the six files of an id
abbrev pub open_steps : ℕ → SegmentFiles → (SegmentComponent → Check) → List Step
open_steps id files checks = file_steps id files checks read_order

-- ---- the alive file

-- a set, where it tells of this many documents which are alive, and of this many that they are not
abbrev pub agreeing : ℕ → Deletes → Option (List Bool) → Option (List Bool)
agreeing documents d None = None
agreeing documents d (Some alive) =
    if (length alive == documents) && (count_by not alive == d.number) then Some alive else None

-- the set that bytes are, where it agrees
abbrev pub alive_in : ℕ → Deletes → List ℕ → Option (List Bool)
alive_in documents d bytes = agreeing documents d (set_of bytes)

-- bytes that are no such set are damaged
abbrev pub alive_damage : ℕ → ℕ → Deletes → List ℕ → Option TantivyError
alive_damage id documents d bytes =
    if is_some (alive_in documents d bytes) then None else Some (DataCorruption (Alive id d.stamp))

-- the alive file of a segment with deletes is read, and is such a set; without deletes there is none
abbrev pub alive_steps : ℕ → ℕ → Option Deletes → List ℕ → List Step
alive_steps id documents None bytes = []
alive_steps id documents (Some d) bytes =
    calls (read (Alive id d.stamp) bytes) ∷ (passes (alive_damage id documents d bytes) ∷ [])

-- which documents are alive: without deletes all
abbrev pub alive_read : ℕ → Option Deletes → List ℕ → Option (List Bool)
alive_read documents None bytes = Some (replicate documents true)
alive_read documents (Some d) bytes = alive_in documents d bytes

-- it is read which documents of a segment are alive
pub record ReadsAlive (id documents : ℕ) (deletes : Option Deletes) (result : Result (List Bool) TantivyError)
    (before after : DirectoryState) : Type 0 where
  pub bytes : List ℕ
  pub works : Works (alive_steps id documents deletes bytes) result before after
  pub is : IfOk result (λ alive. alive_read documents deletes bytes ≡ Some alive)

-- a set has the documents of two sets; no set stands for all of this many
pub record IsCut (documents : ℕ) (alive custom both : Option (List Bool)) : Type 0 where
  pub marks : alive_of documents both ≡ filtered_by custom (alive_of documents alive)
  pub size : IfSome both (λ set. length set ≡ documents)

-- ---- one segment

-- a segment that is asked for, and which of its documents
pub record Asked : Type 0 where
  pub segment : SegmentParts
  pub custom : Option Filter

-- what is found of it: its six files, how the check of each ends, and its alive file
pub record Found : Type 0 where
  pub files : SegmentFiles
  pub checks : SegmentComponent → Check
  pub alive_file : List ℕ

-- its six files are read and checked, one after another, and then its alive file is
abbrev pub segment_steps : SegmentParts → Found → List Step
segment_steps s found =
    open_steps s.meta.id found.files found.checks
    ++ alive_steps s.meta.id s.meta.documents s.meta.deletes found.alive_file

-- its files are as their checks say
abbrev pub IsFound : SegmentParts → Found → Type 0
IsFound s found = AreChecked s.schema s.meta.documents found.files found.checks

-- the total of each open field is that which the file of postings tells
abbrev pub HaveTotals : List (Option OpenField) → List ℕ → Type 0
HaveTotals fields postings =
    (field : ℕ) (opened : OpenField) → slice_get fields field ≡ Some (Some opened)
    → token_total postings field ≡ Some opened.total

-- the infos of each open field are those which the file of terms has of it
abbrev pub HaveInfos : List (Option OpenField) → List ℕ → Type 0
HaveInfos fields terms =
    (field : ℕ) (opened : OpenField) → slice_get fields field ≡ Some (Some opened)
    → dictionary_in terms field ≡ Some (dictionary_terms opened)

-- a reader is of a segment, and has what these files of it spell
pub record HasFilesOf (segment : SegmentParts) (files : SegmentFiles) (s : OpenSegment) : Type 0 where
  pub of_id : s.id ≡ segment.meta.id
  pub of_schema : s.schema ≡ segment.schema
  pub of_number : s.documents ≡ segment.meta.documents
  pub of_stamp : s.stamp ≡ option_map (λ d. d.stamp) segment.meta.deletes
  pub of_sizes : s.sizes ≡ sizes_of files
  pub spell : Spell segment.schema files (contents_of s)
  pub totals : HaveTotals s.fields files.postings
  pub infos : HaveInfos s.fields files.terms

-- the six files of a segment are opened, whatever they are found to be
pub record OpensFiles (segment : SegmentParts) (result : Result OpenSegment TantivyError)
    (before after : DirectoryState) : Type 0 where
  pub files : SegmentFiles
  pub checks : SegmentComponent → Check
  pub checked : AreChecked segment.schema segment.meta.documents files checks
  pub works : Works (open_steps segment.meta.id files checks) result before after
  pub is : IfOk result (HasFilesOf segment files)

-- a reader has what was found of a segment: what its files spell, and of its documents those alive that are asked for
pub record IsReaderOf (a : Asked) (found : Found) (s : OpenSegment) : Type 0 where
  pub has : HasFilesOf a.segment found.files s
  pub marks : List Bool
  pub marked : alive_read a.segment.meta.documents a.segment.meta.deletes found.alive_file ≡ Some marks
  pub alive : s.alive ≡ filtered_by a.custom marks

-- a segment is opened, whatever its files are found to be
pub record Opens (a : Asked) (result : Result OpenSegment TantivyError) (before after : DirectoryState) : Type 0 where
  pub found : Found
  pub checked : IsFound a.segment found
  pub works : Works (segment_steps a.segment found) result before after
  pub is : IfOk result (IsReaderOf a found)

-- ---- segments

-- a filter has as many marks as the segment that it is for has documents
abbrev pub FilterFits : Option Filter → SegmentParts → Type 0
FilterFits filter s = IfSome filter (λ f. length f ≡ s.meta.documents)

-- there is one filter, or none, for each segment, and each fits
abbrev pub FiltersFit : List (Option Filter) → List SegmentParts → Type 0
FiltersFit [] [] = Unit {0}
FiltersFit [] (s ∷ segments) = ⊥
FiltersFit (f ∷ filters) [] = ⊥
FiltersFit (f ∷ filters) (s ∷ segments) = FilterFits f s × FiltersFit filters segments

-- segments, each under its filter
abbrev pub asked_of : List SegmentParts → List (Option Filter) → List Asked
asked_of [] filters = []
asked_of (s ∷ segments) [] = []
asked_of (s ∷ segments) (f ∷ filters) = record { segment = s; custom = f } ∷ asked_of segments filters

-- they are opened one after another
abbrev pub all_steps : List Asked → List Found → List Step
all_steps [] found = []
all_steps (a ∷ asked) [] = []
all_steps (a ∷ asked) (f ∷ found) = segment_steps a.segment f ++ all_steps asked found

-- something is found of each of them
abbrev pub AreFound : List Asked → List Found → Type 0
AreFound [] [] = Unit {0}
AreFound [] (f ∷ found) = ⊥
AreFound (a ∷ asked) [] = ⊥
AreFound (a ∷ asked) (f ∷ found) = IsFound a.segment f × AreFound asked found

-- the readers have what was found
abbrev pub AreReadersOf : List Asked → List Found → List OpenSegment → Type 0
AreReadersOf [] found [] = Unit {0}
AreReadersOf [] found (s ∷ opened) = ⊥
AreReadersOf (a ∷ asked) [] opened = ⊥
AreReadersOf (a ∷ asked) (f ∷ found) [] = ⊥
AreReadersOf (a ∷ asked) (f ∷ found) (s ∷ opened) = IsReaderOf a f s × AreReadersOf asked found opened

-- segments are opened, up to the first that is not
pub record OpensSegments (asked : List Asked) (result : Result (List OpenSegment) TantivyError)
    (before after : DirectoryState) : Type 0 where
  pub found : List Found
  pub checked : AreFound asked found
  pub works : Works (all_steps asked found) result before after
  pub are : IfOk result (AreReadersOf asked found)

-- a segment is opened and comes after those that were opened before it, or is not
abbrev pub OpensNext : {T : Type 0} → Asked → Result T TantivyError → List OpenSegment → List OpenSegment
    → DirectoryState → DirectoryState → Type 0
OpensNext a (Ok _) old new before after =
    (next : OpenSegment) × (new ≡ old ++ next ∷ []) × Opens a (Ok next) before after
OpensNext a (Err e) old new before after = Opens a (Err e) before after

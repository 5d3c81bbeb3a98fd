-- The six files of a segment, in a directory and while they are made.
use Rattle.std.specs.Prelude.{ℕ, ◌≡◌, ◌≢◌, List, [], ◌∷◌, map, None, Some}
use Rattle.std.specs.FinMap.{get}
use Rattle.std.specs.List.{AllByRecursion}
use Rattle.seg_common.specs.declared.name.FileName.{FileName}
use Rattle.seg_common.specs.declared.name.FileName.TheVariants.{Part}
use Rattle.seg_common.specs.declared.name.SegmentComponent.{SegmentComponent}
use Rattle.seg_common.specs.declared.name.SegmentComponent.TheVariants.{Terms, Postings, Positions, Store, FastFields, FieldNorms}
use Rattle.seg_directory.specs.Calls.{made}
use Rattle.seg_directory.specs.Files.{NamedFiles}
use Rattle.seg_directory.specs.DirectorySteps.{Step, calls}
use Rattle.seg_directory.specs.declared.answer.Answer.{Answer}
use Rattle.seg_directory.specs.declared.answer.Answer.TheVariants as answer
use Rattle.seg_segment.specs.declared.segment_files.SegmentFiles.{SegmentFiles}

-- the names of the files of an id, in the order in which they are made
abbrev pub segment_names : ℕ → List FileName
segment_names id = Part id FieldNorms ∷ Part id FastFields ∷ Part id Terms ∷ Part id Postings
    ∷ Part id Positions ∷ Part id Store ∷ []

-- the components of a segment, in the order in which their files are read
abbrev pub read_order : List SegmentComponent
read_order = Terms ∷ Store ∷ Postings ∷ Positions ∷ FastFields ∷ FieldNorms ∷ []

-- and in which they are made
abbrev pub write_order : List SegmentComponent
write_order = FieldNorms ∷ FastFields ∷ Terms ∷ Postings ∷ Positions ∷ Store ∷ []

-- the bytes of a component
abbrev pub bytes_of : SegmentFiles → SegmentComponent → List ℕ
bytes_of files Terms = files.terms
bytes_of files Store = files.store
bytes_of files Postings = files.postings
bytes_of files Positions = files.positions
bytes_of files FastFields = files.fast_fields
bytes_of files FieldNorms = files.field_norms

-- the files of some components are made
abbrev pub component_steps : ℕ → SegmentFiles → List SegmentComponent → List Step
component_steps id files components = map (λ c. calls (made (Part id c) (bytes_of files c))) components

-- the six files are made
abbrev pub write_steps : ℕ → SegmentFiles → List Step
write_steps id files = component_steps id files write_order

-- the files of an id are there with these bytes
abbrev pub HasFiles : NamedFiles → ℕ → SegmentFiles → Type 0
HasFiles directory id files = AllByRecursion (λ c. get directory (Part id c) ≡ Some (bytes_of files c)) read_order

-- none of these files is there
abbrev pub AreAbsent : List FileName → NamedFiles → Type 0
AreAbsent names files = AllByRecursion (λ name. get files name ≡ None) names

-- the files of all other names stay
abbrev pub KeepsAllBut : List FileName → NamedFiles → NamedFiles → Type 0
KeepsAllBut names old new = (other : FileName) → AllByRecursion (λ name. other ≢ name) names
    → get new other ≡ get old other

-- each name was written
abbrev pub wrote : List FileName → List Answer
wrote names = map answer.Wrote names

-- a name that isn't one of the six of an id
abbrev pub IsOtherName : ℕ → FileName → Type 0
IsOtherName id name = (component : SegmentComponent) → name ≢ Part id component

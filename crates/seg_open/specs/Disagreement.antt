-- Files that spell no contents, whatever those after them are, and the first of them that is wrong.
use Rattle.std.specs.Prelude.{◌≡◌, ℕ, List, [], ◌∷◌, ◌++◌, ⊤}
use Rattle.std.specs.List.{AllByRecursion}
use Rattle.seg_common.specs.declared.name.SegmentComponent.{SegmentComponent}
use Rattle.seg_common.specs.declared.name.SegmentComponent.TheVariants.{Terms, Store, Postings, Positions, FastFields, FieldNorms}
use Rattle.seg_model.specs.Contents.{Contents}
use Rattle.seg_model.specs.Fields.{Schema}
use Rattle.seg_segment.specs.SegmentFiles.{bytes_of}
use Rattle.seg_segment.specs.SpelledContents.{Spell}
use Rattle.seg_segment.specs.declared.segment_files.SegmentFiles.{SegmentFiles}
use Rattle.seg_open.specs.SoundFiles.{IsSound}
use Rattle.seg_open.specs.declared.open_error.OpenError.{OpenError}
use Rattle.seg_open.specs.declared.open_error.OpenError.TheVariants.{Damaged, OutOfMemory}

-- the components before one, in the order in which their files are read
abbrev pub read_before : SegmentComponent → List SegmentComponent
read_before Terms = []
read_before Store = Terms ∷ []
read_before Postings = Terms ∷ Store ∷ []
read_before Positions = Terms ∷ Store ∷ Postings ∷ []
read_before FastFields = Terms ∷ Store ∷ Postings ∷ Positions ∷ []
read_before FieldNorms = Terms ∷ Store ∷ Postings ∷ Positions ∷ FastFields ∷ []

-- these and that one
abbrev pub up_to : SegmentComponent → List SegmentComponent
up_to component = read_before component ++ component ∷ []

-- the files up to and including that of a component can't be completed: whatever the others are, they
-- spell no contents of this many documents
abbrev pub Disagree : Schema → ℕ → SegmentFiles → SegmentComponent → Type 0
Disagree schema documents files component =
    (completed : SegmentFiles) (contents : Contents)
    → AllByRecursion (λ c. bytes_of completed c ≡ bytes_of files c) (up_to component)
    → Spell schema completed contents → contents.documents ≡ documents → ⊥

-- the file of a component is the first that is wrong, by itself or with those before it: each of these
-- is sound, and they can't be completed
pub record IsFirstWrong (schema : Schema) (documents : ℕ) (files : SegmentFiles)
    (component : SegmentComponent) : Type 0 where
  pub disagree : Disagree schema documents files component
  pub first : AllByRecursion (IsSound schema documents files) (read_before component)

-- why a segment of this many documents can't be opened
abbrev pub IsWhyNotOpen : Schema → ℕ → SegmentFiles → OpenError → Type 0
IsWhyNotOpen schema documents files (Damaged component) = IsFirstWrong schema documents files component
IsWhyNotOpen schema documents files OutOfMemory = ⊤

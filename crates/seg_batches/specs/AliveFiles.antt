-- The alive files of segments, made in a directory.
use Rattle.std.specs.Prelude.{ℕ, ◌≡◌, List, [], ◌∷◌, ◌++◌, length, Bool, Option, Some, None, Result, OnOk}
use Rattle.seg_common.specs.declared.name.FileName.TheVariants.{Alive}
use Rattle.seg_values.specs.declared.error.TantivyError.{TantivyError}
use Rattle.seg_directory.specs.Calls.{made}
use Rattle.seg_directory.specs.DirectoryStates.{DirectoryState}
use Rattle.seg_directory.specs.DirectorySteps.{Step, Works, calls}
use Rattle.seg_bits.specs.BitSets.{set_of}
use Rattle.seg_meta.specs.IndexOfFiles.{Deletes}
use Rattle.seg_batches.specs.WrittenSegments.{WrittenSegment, deletes_of}

-- the alive file of an id is made of these bytes, where there are deletes
abbrev pub alive_step : ℕ → Option Deletes → List ℕ → List Step
alive_step id None bytes = []
alive_step id (Some d) bytes = calls (made (Alive id d.stamp) bytes) ∷ []

-- and so those of segments, one after another
abbrev pub alive_steps : ℕ → List (List ℕ) → List WrittenSegment → List Step
alive_steps stamp [] segments = []
alive_steps stamp (bytes ∷ files) [] = []
alive_steps stamp (bytes ∷ files) (s ∷ segments) =
    alive_step s.id (deletes_of stamp s.alive) bytes ++ alive_steps stamp files segments

-- bytes tell which of this many documents are alive, where there are deletes
abbrev pub TellMarks : List ℕ → ℕ → List Bool → Option Deletes → Type 0
TellMarks bytes documents alive None = Unit {0}
TellMarks bytes documents alive (Some d) = (set_of bytes ≡ Some alive) × (length alive ≡ documents)

-- and of each segment
abbrev pub AllTellMarks : ℕ → List (List ℕ) → List WrittenSegment → Type 0
AllTellMarks stamp [] segments = Unit {0}
AllTellMarks stamp (bytes ∷ files) [] = ⊥
AllTellMarks stamp (bytes ∷ files) (s ∷ segments) =
    TellMarks bytes s.documents s.alive (deletes_of stamp s.alive) × AllTellMarks stamp files segments

-- the alive files of segments are made of bytes that tell, up to the first that isn't
pub record WritesAlive {T : Type 0} (stamp : ℕ) (segments : List WrittenSegment) (result : Result T TantivyError)
    (before after : DirectoryState) : Type 0 where
  pub files : List (List ℕ)
  pub tell : AllTellMarks stamp files segments
  pub whole : OnOk result (length files ≡ length segments)
  pub works : Works (alive_steps stamp files segments) result before after

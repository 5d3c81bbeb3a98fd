-- What is done with a directory in turn, with the errors of an index: calls, and tests between them.
use Rattle.std.specs.Prelude.{ℕ, ◌≡◌, ◌<◌, ◌≤◌, List, [], ◌∷◌, ◌++◌, Option, Some, None, Result, IsTrue}
use Rattle.seg_values.specs.declared.error.TantivyError.{TantivyError}
use Rattle.seg_values.specs.declared.error.TantivyError.TheVariants.{IndexAlreadyExists, OutOfMemory}
use Rattle.seg_directory.specs.Files.{NamedFiles}
use Rattle.seg_directory.specs.DirectoryStates.{DirectoryState}
use Rattle.seg_directory.specs.Calls.{Call, listed, kind_of, told, files_after, Suits, Goes, Fails}
use Rattle.seg_directory.specs.StepSequences.{Does, DoesFor}
use Rattle.seg_directory.specs.Errors.{error_of, name_of}
use Rattle.seg_directory.specs.declared.answer.Answer.{Answer}
use Rattle.seg_directory.specs.declared.error.DirectoryError.{DirectoryError}

-- a call, or a test that refuses with this error, if there is one
pub data Step : Type 0 where
  calls : Call → Step
  passes : Option TantivyError → Step

-- it goes well
abbrev pub StepGoes : Step → DirectoryState → DirectoryState → Type 0
StepGoes (calls call) before after = Goes call before after
StepGoes (passes refusal) before after = (refusal ≡ None) × (after ≡ before)

-- a call fails, or lists files where there are to be none
pub data CallBreaks (call : Call) (e : TantivyError) (before after : DirectoryState) : Type 0 where
  failed : (d : DirectoryError) → e ≡ error_of (kind_of call) (name_of call) d → Fails call d before after
      → CallBreaks call e before after
  has_files : (n : ℕ) → call ≡ listed 0 → 0 < n → e ≡ IndexAlreadyExists → Goes (listed n) before after
      → CallBreaks call e before after

-- it breaks off
abbrev pub StepBreaks : Step → TantivyError → DirectoryState → DirectoryState → Type 0
StepBreaks (calls call) e before after = CallBreaks call e before after
StepBreaks (passes refusal) e before after = (refusal ≡ Some e) × (after ≡ before)

-- these steps in turn, up to the first that breaks off
abbrev pub Works : {T : Type 0} → List Step → Result T TantivyError → DirectoryState → DirectoryState → Type 0
Works steps result before after = Does StepGoes StepBreaks OutOfMemory steps result before after

-- steps that depend on what is answered
abbrev pub WorksFor : {T : Type 0} → (T → List Step) → Result T TantivyError → DirectoryState → DirectoryState → Type 0
WorksFor steps result before after = DoesFor StepGoes StepBreaks OutOfMemory steps result before after

-- what steps that all go well add to the answers
abbrev pub all_told : List Step → List Answer
all_told [] = []
all_told (calls call ∷ steps) = told call ++ all_told steps
all_told (passes refusal ∷ steps) = all_told steps

-- what they make of the files
abbrev pub all_files_after : List Step → NamedFiles → NamedFiles
all_files_after [] files = files
all_files_after (calls call ∷ steps) files = all_files_after steps (files_after call files)
all_files_after (passes refusal ∷ steps) files = all_files_after steps files

-- of which files they go well
abbrev pub AllSuit : List Step → NamedFiles → Type 0
AllSuit [] files = Unit {0}
AllSuit (calls call ∷ steps) files = Suits call files × AllSuit steps (files_after call files)
AllSuit (passes refusal ∷ steps) files = (refusal ≡ None) × AllSuit steps files

-- what steps that all went well say about the directory
pub record AllWent (steps : List Step) (before after : DirectoryState) : Type 0 where
  pub seen : after.seen ≡ before.seen ++ all_told steps
  pub files : IsTrue before.tells → after.files ≡ all_files_after steps before.files
  pub suits : IsTrue before.tells → AllSuit steps before.files
  pub tells : after.tells ≡ before.tells
  pub later : before.faults ≤ after.faults

-- What is done with two directories, one thing after another.
use Rattle.std.specs.Prelude.{◌≡◌, Option, Result, Ok, Err}
use Rattle.seg_values.specs.declared.error.TantivyError.{TantivyError}
use Rattle.seg_directory.specs.DirectoryStates.{DirectoryState}
use Rattle.seg_model.specs.CheckAnswers.{Tells}

-- both directories
pub record Directories : Type 0 where
  pub work : DirectoryState
  pub output : DirectoryState

-- the two, one by one
abbrev pub both : DirectoryState → DirectoryState → Directories
both work output = record { work = work; output = output }

-- ---- one turn

-- a test refuses with this error, if there is one
abbrev pub Passes : {T : Type 0} → Option TantivyError
    → Result T TantivyError → Directories → Directories → Type 0
Passes refusal result before after = Tells refusal result × (after ≡ before)

-- this is done with the work directory, and nothing with the other
abbrev pub InWork : {T : Type 0} → (Result T TantivyError → DirectoryState → DirectoryState → Type 0)
    → Result T TantivyError → Directories → Directories → Type 0
InWork does result before after = does result before.work after.work × (after.output ≡ before.output)

-- this is done with the output directory, and nothing with the other
abbrev pub InOutput : {T : Type 0} → (Result T TantivyError → DirectoryState → DirectoryState → Type 0)
    → Result T TantivyError → Directories → Directories → Type 0
InOutput does result before after = does result before.output after.output × (after.work ≡ before.work)

-- nothing is done, and this is answered
abbrev pub Gives : {T : Type 0} → T → Result T TantivyError → Directories → Directories → Type 0
Gives x result before after = (result ≡ Ok x) × (after ≡ before)

-- ---- turns

-- the first turn ends all with its error; or it goes well, and the next goes by what it answered
pub data Then {X T : Type 0} (first : Result X TantivyError → Directories → Directories → Type 0)
    (next : X → Result T TantivyError → Directories → Directories → Type 0)
    (result : Result T TantivyError) (before after : Directories) : Type 0 where
  stops : (e : TantivyError) → result ≡ Err e → first (Err e) before after → Then first next result before after
  goes_on : (x : X) (between : Directories) → first (Ok x) before between → next x result between after
      → Then first next result before after

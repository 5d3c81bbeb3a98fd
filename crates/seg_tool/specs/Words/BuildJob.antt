-- What `build` promises: it reads the source as a script, and writes and prints both indexes of its input.
use Rattle.std.specs.Prelude.{ℕ, ◌≡◌, ◌<◌, ◌≤◌, ◌⊎◌, List, length, true, false, Option, None, Some, Result, IfSome}
use Rattle.seg_values.specs.declared.error.TantivyError.{TantivyError}
use Rattle.seg_directory.specs.Files.{NamedFiles}
use Rattle.seg_model.specs.Fields.{Analyzer}
use Rattle.seg_model.specs.Input.{Input}
use Rattle.seg_model.specs.ValidInputs.{IsValid, Known}
use Rattle.seg_index_build.specs.FilesAfterCrash.{MayBeBuilt}
use Rattle.seg_index_build.specs.IndexFiles.{IsOutputIndexOf}
use Rattle.seg_index_build.specs.TwoDirectories.{Directories}
use Rattle.seg_script.specs.Script.{script}
use Rattle.seg_tool.specs.InputIndexes.{BuildsText, EndsFor, HasIndexes, IsTextOfInput, RefusesInput}
use Rattle.seg_tool.specs.Job.{AreReady, CrashLeaves, HasNoIndex, Job, JobDoes}
use Rattle.seg_tool.specs.declared.status.Status.{Status}
use Rattle.seg_tool.specs.declared.status.Status.TheVariants.{Words, Script, Stream, Memory}
use Rattle.seg_tool.specs.declared.words.Detail.{Detail}

-- ---- the script

-- the most bytes of a script
abbrev pub max_script : ℕ
max_script = 67108864

-- the bytes are no script, or too many
abbrev pub IsNoScript : List ℕ → Type 0
IsNoScript bytes = (script bytes ≡ None) ⊎ (max_script < length bytes)

-- an input is meant: where it is told what bytes are left, they are a script of it, and not too many
abbrev pub IsMeantBy : Option (List ℕ) → Input → Type 0
IsMeantBy left input = IfSome left (λ bytes. (script bytes ≡ Some input) × (length bytes ≤ max_script))

-- it is so of an input that is meant
pub record OfMeant (left : Option (List ℕ)) (IsSo : Input → Type 0) : Type 0 where
  pub meant : Input
  pub is_meant : IsMeantBy left meant
  pub is_so : IsSo meant

-- ---- what is done

-- a status before a script was read: the source fails, it has no script, or memory runs out
abbrev pub IsUnread : Status → Type 0
IsUnread Script = Unit {0}
IsUnread Stream = Unit {0}
IsUnread Memory = Unit {0}
IsUnread _ = ⊥

-- no script is read, and no directory is called; or it ends as an input that is meant does
pub data BuildEnds (known : Known) (analyzer : Analyzer) (left : Option (List ℕ)) (status : Status)
    (before after : Directories) : Type 0 where
  unread : IsUnread status → after ≡ before → BuildEnds known analyzer left status before after
  of_meant : OfMeant left (λ input. EndsFor known analyzer input status before after)
      → BuildEnds known analyzer left status before after

-- the indexes of an input that is meant are written, and then read and printed
abbrev pub BuildsMeant : Known → Analyzer → Detail → Option (List ℕ)
    → Result (List ℕ) TantivyError → Directories → Directories → Type 0
BuildsMeant known analyzer detail left answer before after =
    OfMeant left (λ input. BuildsText known analyzer input detail answer before after)

-- nothing where no script is read, or memory ends before; else the job of an input that is meant
abbrev pub BuildDoes : Known → Analyzer → Detail → Option (List ℕ) → Status → Directories → Directories → Type 0
BuildDoes known analyzer detail left Words before after = after ≡ before
BuildDoes known analyzer detail left Script before after = after ≡ before
BuildDoes known analyzer detail left Stream before after =
    (after ≡ before) ⊎ JobDoes (BuildsMeant known analyzer detail left) Stream before after
BuildDoes known analyzer detail left Memory before after =
    (after ≡ before) ⊎ JobDoes (BuildsMeant known analyzer detail left) Memory before after
BuildDoes known analyzer detail left status before after =
    JobDoes (BuildsMeant known analyzer detail left) status before after

-- ---- what a crash leaves

-- no index, the empty one, or the output index of what the script means; no index where it is no script
abbrev pub MayBeBuiltOf : Analyzer → Option Input → NamedFiles → Type 0
MayBeBuiltOf analyzer None = HasNoIndex
MayBeBuiltOf analyzer (Some input) = MayBeBuilt analyzer input

-- the output index of what the script means
abbrev pub IsBuiltOf : Analyzer → Option Input → NamedFiles → Type 0
IsBuiltOf analyzer None = λ _. ⊥
IsBuiltOf analyzer (Some input) = IsOutputIndexOf analyzer input

-- at any moment, and at the end, of what the source says
pub record BuildLeaves (analyzer : Analyzer) (left : Option (List ℕ)) (status : Status)
    (before after : Directories) : Type 0 where
  pub meant : Option Input
  pub is_script : IfSome left (λ bytes. script bytes ≡ meant)
  pub leaves : CrashLeaves (MayBeBuiltOf analyzer meant) (IsBuiltOf analyzer meant) status before after

-- ---- what ends well

-- the source is known to have a valid script, and both directories are ready
pub record BuildNeeds (known : Known) (analyzer : Analyzer) (left : Option (List ℕ))
    (before after : Directories) : Type 0 where
  pub bytes : List ℕ
  pub are_left : left ≡ Some bytes
  pub short : length bytes ≤ max_script
  pub meant : Input
  pub is_script : script bytes ≡ Some meant
  pub valid : IsValid known analyzer meant
  pub ready : AreReady before after

-- ---- all of it

-- of a source that has this left, as far as it is told
abbrev pub build : Known → Analyzer → Detail → Option (List ℕ) → Job
build known analyzer detail left = record {
  reads = true;
  IsNoInput = IfSome left IsNoScript;
  Refuses = λ before after e. OfMeant left (λ input. RefusesInput known analyzer input before after e);
  Ends = BuildEnds known analyzer left;
  Makes = BuildsMeant known analyzer detail left;
  Does = BuildDoes known analyzer detail left;
  IsText = λ before after text. OfMeant left (λ input. IsTextOfInput known analyzer detail input before after text);
  Has = λ before after. OfMeant left (λ input. HasIndexes known analyzer input before after);
  Leaves = BuildLeaves analyzer left;
  keeps_work = false;
  Needs = BuildNeeds known analyzer left;
}

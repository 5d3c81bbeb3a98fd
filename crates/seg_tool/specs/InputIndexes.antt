-- Both indexes of an input: how they are written and printed, what both directories then have, and how else it ends.
use Rattle.std.specs.Prelude.{ℕ, ◌≡◌, ◌≢◌, ◌⊎◌, List, codes, Some, None, Result, Ok, IfSome, IsTrue}
use Rattle.std.specs.FinMap.{len}
use Rattle.seg_values.specs.declared.error.TantivyError.{TantivyError}
use Rattle.seg_meta.specs.declared.index_meta.IndexMeta.{IndexMeta}
use Rattle.seg_model.specs.Fields.{Analyzer}
use Rattle.seg_model.specs.Input.{Input}
use Rattle.seg_model.specs.Refusals.{batches_error, build_refusal}
use Rattle.seg_model.specs.ValidInputs.{Known, input_refusal}
use Rattle.seg_check.specs.AdmittedInputs.{IsValidIf}
use Rattle.seg_index_build.specs.BuildOutcomes.{AreEmpty, BuildComesTo, IsWhyUntold}
use Rattle.seg_index_build.specs.FilesAfterCrash.{MayBeBuilt}
use Rattle.seg_index_build.specs.IndexFiles.{IsMergedIndexOf, IsOutputIndexOf, IsWorkIndexOf}
use Rattle.seg_index_build.specs.OtherFiles.{Stays}
use Rattle.seg_index_build.specs.TakenBatches.{HoldsTaken, gained}
use Rattle.seg_index_build.specs.TwoDirectories.{Directories, InOutput, InWork, Then}
use Rattle.seg_tool.specs.IndexTexts.{build_text}
use Rattle.seg_tool.specs.Job.{CrashLeaves}
use Rattle.seg_tool.specs.PrintedIndex.{PrintsIndex}
use Rattle.seg_tool.specs.Printing.{opening}
use Rattle.seg_tool.specs.Statuses.{IfWritten}
use Rattle.seg_tool.specs.Taken.{before_meta}
use Rattle.seg_tool.specs.declared.status.Status.{Status}
use Rattle.seg_tool.specs.declared.status.Status.TheVariants.{Damaged, Exists, Memory, Refused}
use Rattle.seg_tool.specs.declared.words.Detail.{Detail}

-- ---- the text

-- after what comes before, the index of the work directory is printed, and then that of the output directory
abbrev pub PrintsBoth : Detail → Result (List ℕ) TantivyError → Directories → Directories → Type 0
PrintsBoth detail =
    Then {X = List ℕ} (InWork (PrintsIndex (opening detail) (codes "work") detail))
    (λ work. InOutput (PrintsIndex work (codes "output") detail))

-- both indexes of an input are written, and then printed, of what the directories answer
abbrev pub BuildsText : Known → Analyzer → Input → Detail
    → Result (List ℕ) TantivyError → Directories → Directories → Type 0
BuildsText known analyzer input detail =
    Then {X = IndexMeta} (BuildComesTo known analyzer input) (λ _. PrintsBoth detail)

-- both indexes were written, and this is the text of what was read of both then; where both directories tell, it is
-- that of the readings of the documents
pub record IsTextOfInput (known : Known) (analyzer : Analyzer) (detail : Detail) (input : Input)
    (before after : Directories) (text : List ℕ) : Type 0 where
  pub builds : BuildsText known analyzer input detail (Ok text) before after
  pub told : IsTrue before.work.tells → IsTrue before.output.tells → text ≡ build_text detail analyzer input

-- ---- what both directories have

-- of a valid input, each that tells had no file, and has its index; the output has what was taken of the batches
pub record HasIndexes (known : Known) (analyzer : Analyzer) (input : Input) (before after : Directories) : Type 0 where
  pub valid : IsValidIf (IsTrue before.work.tells) known analyzer input
  pub work_was_empty : IsTrue before.work.tells → len before.work.files ≡ 0
  pub work_index : IsTrue before.work.tells → IsWorkIndexOf analyzer input after.work.files
  pub output_was_empty : IsTrue before.output.tells → len before.output.files ≡ 0
  pub output_meta : IsTrue before.output.tells → (documents : ℕ) × IsMergedIndexOf input documents after.output.files
  pub output_index : IsTrue before.work.tells → IsTrue before.output.tells
      → IsOutputIndexOf analyzer input after.output.files
  pub reads : IsTrue before.output.tells
      → HoldsTaken analyzer input (before_meta (gained before.work.seen after.work.seen)) after.output.files

-- a crash leaves no index, the empty one, or the output index of the input; and at the end that
abbrev pub LeavesIndex : Analyzer → Input → Status → Directories → Directories → Type 0
LeavesIndex analyzer input = CrashLeaves (MayBeBuilt analyzer input) (IsOutputIndexOf analyzer input)

-- ---- how it ends

-- why it is refused: the first cause in the input; of a work directory that doesn't tell also what was read back. Where
-- a batch is refused, the output is as it was
pub record RefusesInput (known : Known) (analyzer : Analyzer) (input : Input) (before after : Directories)
    (e : TantivyError) : Type 0 where
  pub told : IsTrue before.work.tells → build_refusal known analyzer input ≡ Some e
  pub untold : IsWhyUntold known analyzer input e
  pub of_batch : IfSome (batches_error input.schema analyzer 0 input.cuts input.operations)
      (λ _. Stays before.output after.output)

-- a cause of the input alone is told before a directory is called, unless memory runs out; directories that tell and
-- have no file are not told to have one; and where both tell, none is damaged
pub record EndsFor (known : Known) (analyzer : Analyzer) (input : Input) (status : Status)
    (before after : Directories) : Type 0 where
  pub first : IfSome (input_refusal known analyzer input)
      (λ e. ((status ≡ Refused e) ⊎ (status ≡ Memory)) × (after ≡ before))
  pub admitted : IfWritten status (λ _. input_refusal known analyzer input ≡ None)
  pub fresh : AreEmpty before → (e : TantivyError) → status ≢ Exists e
  pub whole : IsTrue before.work.tells → IsTrue before.output.tells → (e : TantivyError) → status ≢ Damaged e

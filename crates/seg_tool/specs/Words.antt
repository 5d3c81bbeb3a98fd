-- The words of the command line, and what is promised of each.
pub mod BuildJob
pub mod GenerateJob
pub mod MergeJob
pub mod ShowJob
use Rattle.std.specs.Prelude.{ℕ, ◌≡◌, List, [], ◌∷◌, if◌then◌else◌, true, false, Option, Some, None, codes, String, string_bytes}
use Rattle.std.specs.Option.{option_map}
use Rattle.std.specs.declared.alloc.Global.{Global}
use Rattle.std.specs.Str.{bytes_eq}
use Rattle.seg_model.specs.Fields.{Analyzer}
use Rattle.seg_model.specs.ValidInputs.{Known}
use Rattle.seg_generate.specs.Seeds.{seed_named}
use Rattle.seg_tool.specs.Job.{CrashLeaves, HasNoIndex, Job}
use Rattle.seg_tool.specs.Words.BuildJob.{build}
use Rattle.seg_tool.specs.Words.GenerateJob.{generate}
use Rattle.seg_tool.specs.Words.MergeJob.{merge}
use Rattle.seg_tool.specs.Words.ShowJob.{show}
use Rattle.seg_tool.specs.declared.words.Command.{Command}
use Rattle.seg_tool.specs.declared.words.Command.TheVariants.{Build, Generate, Merge, Show}
use Rattle.seg_tool.specs.declared.words.Detail.TheVariants.{Brief, Full}

-- ---- the words

-- the command of one word
abbrev pub of_one : List ℕ → Option Command
of_one word =
    if bytes_eq word (codes "build") then Some (Build Brief)
    else (if bytes_eq word (codes "merge") then Some Merge
    else (if bytes_eq word (codes "show") then Some Show else None))

-- the command of two words
abbrev pub of_two : List ℕ → List ℕ → Option Command
of_two first second =
    if bytes_eq first (codes "build") then (if bytes_eq second (codes "--full") then Some (Build Full) else None)
    else (if bytes_eq first (codes "generate") then option_map Generate (seed_named second) else None)

-- the command of words
abbrev pub command_of : List (String Global) → Option Command
command_of [] = None
command_of (word ∷ []) = of_one (string_bytes word)
command_of (first ∷ second ∷ []) = of_two (string_bytes first) (string_bytes second)
command_of (first ∷ second ∷ third ∷ words) = None

-- ---- their promises

-- no word: nothing is done
abbrev pub no_job : Job
no_job = record {
  reads = false;
  IsNoInput = ⊥;
  Refuses = λ before after e. ⊥;
  Ends = λ status before after. after ≡ before;
  Makes = λ result before after. ⊥;
  Does = λ status before after. after ≡ before;
  IsText = λ before after text. ⊥;
  Has = λ before after. ⊥;
  Leaves = CrashLeaves HasNoIndex HasNoIndex;
  keeps_work = true;
  Needs = λ before after. ⊥;
}

-- by the command, of analyzers, and of what is left of the source, as far as it is told
abbrev pub job_of : Known → Analyzer → Option (List ℕ) → Option Command → Job
job_of known analyzer left (Some (Build detail)) = build known analyzer detail left
job_of known analyzer left (Some (Generate seed)) = generate known analyzer seed
job_of known analyzer left (Some Merge) = merge
job_of known analyzer left (Some Show) = show
job_of known analyzer left None = no_job

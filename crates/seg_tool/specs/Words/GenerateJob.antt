-- What `generate` promises: it writes both indexes of the input that its number generates, and prints their summary.
use Rattle.std.specs.Prelude.{ℕ, ◌≡◌, List, false, Result, Err}
use Rattle.seg_values.specs.declared.error.TantivyError.{TantivyError}
use Rattle.seg_values.specs.declared.error.TantivyError.TheVariants.{OutOfMemory}
use Rattle.seg_model.specs.Fields.{Analyzer}
use Rattle.seg_model.specs.ValidInputs.{Known}
use Rattle.seg_index_build.specs.TwoDirectories.{Directories}
use Rattle.seg_generate.specs.GeneratedInput.{generated}
use Rattle.seg_generate.specs.GeneratedTexts.{TakesTexts}
use Rattle.seg_tool.specs.InputIndexes.{BuildsText, EndsFor, HasIndexes, IsTextOfInput, LeavesIndex, RefusesInput}
use Rattle.seg_tool.specs.Job.{AreReady, Job, JobDoes}
use Rattle.seg_tool.specs.declared.words.Detail.TheVariants.{Summary}

-- memory runs out before; or both indexes of the input of a number are written, and their summary is printed
pub data GeneratesText (known : Known) (analyzer : Analyzer) (seed : ℕ) (result : Result (List ℕ) TantivyError)
    (before after : Directories) : Type 0 where
  not_generated : result ≡ Err OutOfMemory → after ≡ before → GeneratesText known analyzer seed result before after
  of_generated : BuildsText known analyzer (generated seed) Summary result before after
      → GeneratesText known analyzer seed result before after

-- the analyzers take the generated texts, and both directories are ready
pub record GenerateNeeds (known : Known) (analyzer : Analyzer) (before after : Directories) : Type 0 where
  pub takes : TakesTexts known analyzer
  pub ready : AreReady before after

-- of a number
abbrev pub generate : Known → Analyzer → ℕ → Job
generate known analyzer seed = record {
  reads = false;
  IsNoInput = ⊥;
  Refuses = RefusesInput known analyzer (generated seed);
  Ends = EndsFor known analyzer (generated seed);
  Makes = GeneratesText known analyzer seed;
  Does = JobDoes (GeneratesText known analyzer seed);
  IsText = IsTextOfInput known analyzer Summary (generated seed);
  Has = HasIndexes known analyzer (generated seed);
  Leaves = LeavesIndex analyzer (generated seed);
  keeps_work = false;
  Needs = GenerateNeeds known analyzer;
}

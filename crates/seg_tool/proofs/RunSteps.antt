-- A run, by the command that its words ask for.
use Rattle.std.proofs.Common.{◌≡◌, ℕ, List, Option, Some, Result, Ok, Err, refl, sym, ap, subst}
use Rattle.std.specs.Prelude.{String}
use Rattle.std.specs.declared.alloc.Global.{Global}
use Rattle.seg_values.specs.declared.error.TantivyError.{TantivyError}
use Rattle.seg_model.specs.Fields.{Analyzer}
use Rattle.seg_model.specs.ValidInputs.{Known}
use Rattle.seg_index_build.specs.TwoDirectories.{Directories}
use Rattle.seg_tool.specs.Runs.{EndsJob, Runs, RunsCommand, RunsUnread, SinkState, SourceState, WithStatus, World, WritesMade, has_text, made_none, made_text, no_text, world}
use Rattle.seg_tool.specs.Words.{command_of}
use Rattle.seg_tool.specs.declared.status.Status.{Status}
use Rattle.seg_tool.specs.declared.words.Command.{Command}

module _ {S K : Type 0} {known : Known} {analyzer : Analyzer} {status : Status} {source source_after : S} {sink sink_after : K} {a b : World} (words : List (String Global)) where
  pub as_command : (command : Command) → command_of words ≡ Some command
      → RunsCommand known analyzer (Some command) status source source_after sink sink_after a b
      → Runs known analyzer words status source source_after sink sink_after a b
  as_command command is runs = record {
    runs = subst (λ (o : Option Command). RunsCommand known analyzer o status source source_after sink sink_after a b) (sym is) runs;
  }

-- what was made is written, or its error told
module _ (does : Result (List ℕ) TantivyError → Directories → Directories → Type 0) (a b : Directories) where
  as_made : (made r : Result (List ℕ) TantivyError) → does made a b → made ≡ r → does r a b
  as_made made r makes is = subst (λ (x : Result (List ℕ) TantivyError). does x a b) is makes

  module _ {K : Type 0} (of_source : SourceState) (made : Result (List ℕ) TantivyError) (status : Status) (sink sink_after : K) (k l : SinkState) where
    ends_made : does made a b → WritesMade made status sink sink_after k l
        → EndsJob (WithStatus does) status sink sink_after (world of_source k a) (world of_source l b)
    ends_made makes (made_none e is told same_sink same) =
        no_text (record { answer = Err e; is = ap Err told; does_so = as_made made (Err e) makes is }) same_sink same
    ends_made makes (made_text text is writes) =
        has_text text (record { answer = Ok text; is = refl; does_so = as_made made (Ok text) makes is }) writes

module _ {S K : Type 0} {of_source : SourceState} {source : S} {does : Result (List ℕ) TantivyError → Directories → Directories → Type 0}
    {made : Result (List ℕ) TantivyError} {status : Status} {sink sink_after : K} {k l : SinkState} {a b : Directories} where
  pub made_so : WritesMade made status sink sink_after k l → does made a b
      → RunsUnread (WithStatus does) status source source sink sink_after (world of_source k a) (world of_source l b)
  made_so writes makes = record {
    same_source = refl;
    same = refl;
    ends = ends_made does a b of_source made status sink sink_after k l makes writes;
  }

-- When no writer of a segment is made.
use Rattle.std.specs.Prelude.{ℕ, nat_le, Option}
use Rattle.std.specs.Option.{option_or}
use Rattle.seg_values.specs.declared.error.ArgumentCause.TheVariants.{Budget}
use Rattle.seg_values.specs.declared.error.TantivyError.{TantivyError}
use Rattle.seg_values.specs.declared.error.TantivyError.TheVariants.{InvalidArgument, SchemaError, OutOfMemory}
use Rattle.seg_model.specs.DocumentCheck.{unless}
use Rattle.seg_model.specs.Fields.{Schema}
use Rattle.seg_model.specs.ValidInputs.{Known, schema_refusal}
use Rattle.seg_meta.specs.MetaMeaning.{settings_of}
use Rattle.seg_meta.specs.declared.index_settings.IndexSettings.{IndexSettings}

-- the fewest bytes of a budget
abbrev pub least_budget : ℕ
least_budget = 15000

-- the first cause: too small a budget, or why no segment of the schema is begun
abbrev pub start_refusal : Known → ℕ → Schema → IndexSettings → Option TantivyError
start_refusal known budget schema settings =
    option_or (unless (nat_le least_budget budget) (InvalidArgument Budget))
    (schema_refusal known schema (settings_of settings))

-- an error with which no writer is made: a cause, or out of memory
abbrev pub IsStartError : TantivyError → Type 0
IsStartError (SchemaError cause) = Unit {0}
IsStartError (InvalidArgument cause) = Unit {0}
IsStartError OutOfMemory = Unit {0}
IsStartError _ = ⊥

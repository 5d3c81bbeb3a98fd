-- The input that is made of its parts.
use Rattle.std.proofs.Common.{◌≡◌, ℕ, List, Option, None}
use Rattle.std.specs.Prelude.{replicate}
use Rattle.std.specs.List.{range_with_len}
use Rattle.seg_model.specs.Fields.{Schema}
use Rattle.seg_model.specs.Input.{Filter, Input}
use Rattle.seg_model.specs.Operations.{Operation}
use Rattle.seg_generate.specs.Documents as documents
use Rattle.seg_generate.specs.GeneratedInput.{cuts, generated, operations, settings}

-- an input with the settings of each generated one
abbrev pub input_of : Schema → List Operation → List ℕ → List (Option Filter) → List ℕ → Input
input_of schema operations cuts filters ids =
    record { schema = schema; settings = settings; operations = operations; cuts = cuts; filters = filters; ids = ids }

pub made : (seed : ℕ) (s : Schema) (o : List Operation) (c : List ℕ) (f : List (Option Filter)) (i : List ℕ)
    → s ≡ documents.schema → o ≡ operations seed → c ≡ cuts → f ≡ replicate 5 None → i ≡ range_with_len 1 6
    → input_of s o c f i ≡ generated seed
unfolding generated
made seed s o c f i same_schema same_operations same_cuts same_filters same_ids =
    λ j. input_of (same_schema j) (same_operations j) (same_cuts j) (same_filters j) (same_ids j)

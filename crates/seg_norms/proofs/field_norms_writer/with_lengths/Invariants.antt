use Rattle.std.proofs.Common.{◌≡◌, ◌++◌, ◌∷◌, [], drop}
use Rattle.std.specs.Prelude.{if◌then◌else◌}
use Rattle.std.specs.List.{enumerate_from, flat_map}
use Rattle.seg_model.specs.Fields.{has_lengths}
use Rattle.seg_norms.specs.FieldNorms.{fields_with_lengths}
use Rattle.seg_norms.proofs.field_norms_writer.with_lengths.Given as goal

-- what is so far, with what is left, is all
abbrev pub invariant-loop-place : goal.invariant-loop-place
invariant-loop-place l =
    l.fields.items ++ flat_map (λ f. if has_lengths f.1 then f.0 ∷ [] else []) (enumerate_from l.place (drop l.place l.entries)) ≡ fields_with_lengths l.entries

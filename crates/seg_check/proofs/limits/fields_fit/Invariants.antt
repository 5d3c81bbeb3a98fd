use Rattle.std.proofs.Common.{◌≡◌, drop}
use Rattle.std.specs.List.{list_all, slice_get}
use Rattle.seg_model.specs.Fields.{Analyzer}
use Rattle.seg_check.specs.DocumentFields.{AllStand, fits_at}
use Rattle.seg_check.proofs.limits.fields_fit.Given as goal

-- what is left decides
abbrev pub invariant-loop-at : goal.invariant-loop-at
invariant-loop-at l = (analyzer : Analyzer) → AllStand l.schema analyzer l.totals l.document → list_all (λ p. fits_at analyzer l.document p.0 (slice_get l.schema p.0)) (drop l.at l.document) ≡ list_all (λ p. fits_at analyzer l.document p.0 (slice_get l.schema p.0)) l.document

use Rattle.std.proofs.Common.{◌≡◌, drop}
use Rattle.seg_model.specs.DocumentCheck.{leaves_refusal}
use Rattle.seg_check.proofs.json.leaves_refusal.Given as goal

-- what is left decides
abbrev pub invariant-loop-at : goal.invariant-loop-at
invariant-loop-at l = leaves_refusal l.schema (drop l.at l.document) ≡ leaves_refusal l.schema l.document

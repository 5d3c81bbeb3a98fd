use Rattle.std.proofs.Common.{◌≡◌, drop}
use Rattle.seg_model.specs.DocumentCheck.{fields_refusal}
use Rattle.seg_check.proofs.fields.fields_refusal.Given as goal

-- what is left decides
abbrev pub invariant-loop-at : goal.invariant-loop-at
invariant-loop-at l = fields_refusal l.schema (drop l.at l.document) ≡ fields_refusal l.schema l.document

use Rattle.std.proofs.Common.{◌≡◌, drop}
use Rattle.seg_values.specs.DocumentJson.{has_fields}
use Rattle.seg_values.proofs.document_json.has_fields.Given as goal

abbrev pub invariant-loop-at : goal.invariant-loop-at
invariant-loop-at l = has_fields l.schema (drop l.at l.document) ≡ has_fields l.schema l.document

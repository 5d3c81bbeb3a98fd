use Rattle.std.proofs.Common.{◌≡◌, ◌+◌, ◌≤◌, length, drop}
use Rattle.std.specs.List.{flat_map}
use Rattle.seg_model.specs.DocumentTerms.{stored_document}
use Rattle.seg_values.specs.StoredBytes.{pair_form}
use Rattle.seg_model.specs.SaturatedNumbers.{saturated}
use Rattle.seg_check.proofs.stored_len.stored_len.Given as goal

-- what is so far, with what is left, is all
abbrev pub invariant-loop-at : goal.invariant-loop-at
invariant-loop-at l = record {
  number : l.count + length (stored_document l.schema (drop l.at l.document)) ≡ length (stored_document l.schema l.document);
  few : l.count ≤ l.at;
  sum : saturated (l.size + length (flat_map pair_form (stored_document l.schema (drop l.at l.document)))) ≡ saturated (length (flat_map pair_form (stored_document l.schema l.document)));
}

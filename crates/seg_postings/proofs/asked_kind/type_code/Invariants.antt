use Rattle.std.proofs.Common.{◌≡◌, drop}
use Rattle.seg_model.specs.DocumentTerms as reading
use Rattle.seg_postings.proofs.asked_kind.type_code.Given as goal

-- what is left decides
abbrev pub invariant-loop-at : goal.invariant-loop-at
invariant-loop-at l = reading.type_code (drop l.at l.bytes) ≡ reading.type_code l.bytes

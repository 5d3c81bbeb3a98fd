use Rattle.std.proofs.Common.{◌≡◌, drop}
use Rattle.seg_model.specs.DocumentCheck.{has_no_zero}
use Rattle.seg_check.proofs.json.has_no_zero.Given as goal

-- what is left decides
abbrev pub invariant-loop-byte : goal.invariant-loop-byte
invariant-loop-byte l = has_no_zero (drop l.byte-index l.bytes) ≡ has_no_zero l.bytes

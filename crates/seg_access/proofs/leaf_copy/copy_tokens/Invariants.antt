use Rattle.std.proofs.Common.{◌≡◌, take}
use Rattle.seg_access.proofs.leaf_copy.copy_tokens.Given as goal

-- what was passed is copied
abbrev pub invariant-loop-token : goal.invariant-loop-token
invariant-loop-token l = l.copy ≡ take l.token-index l.tokens

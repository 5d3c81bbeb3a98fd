use Rattle.std.proofs.Common.{◌≡◌, ◌+◌, ◌-◌, ◌^◌, ◌<◌, map, min, drop}
use Rattle.std.specs.Prelude.{sum}
use Rattle.seg_model.specs.Norms.{length_of_id}
use Rattle.seg_model.specs.Operations.{kept}
use Rattle.seg_merger.proofs.live_tokens.sum_of_lengths.Given as goal

-- what is counted, with what is left, is all
abbrev pub invariant-loop-doc : goal.invariant-loop-doc
invariant-loop-doc l = record {
  counted : min (2 ^ 64 - 1) (l.tokens + sum (map length_of_id (kept (drop l.doc l.part.alive) (drop l.doc l.norms)))) ≡ min (2 ^ 64 - 1) (sum (map length_of_id (kept l.part.alive l.norms)));
  fits : l.tokens < 2 ^ 64;
}

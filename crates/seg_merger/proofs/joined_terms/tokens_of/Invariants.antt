use Rattle.std.proofs.Common.{◌≡◌, ◌+◌, ◌-◌, ◌^◌, ◌<◌, map, min, drop}
use Rattle.std.specs.Prelude.{sum}
use Rattle.seg_merger.specs.JoinedTotals.{tokens_at, tokens_in}
use Rattle.seg_merger.specs.NewIds.{parts_of}
use Rattle.seg_merger.proofs.joined_terms.tokens_of.Given as goal

-- what is counted, with what is left, is all
abbrev pub invariant-loop-part : goal.invariant-loop-part
invariant-loop-part l = record {
  counted : min (2 ^ 64 - 1) (l.tokens + sum (map (tokens_at l.field) (parts_of (drop l.part-index l.parts)))) ≡ tokens_in l.field (parts_of l.parts);
  fits : l.tokens < 2 ^ 64;
}

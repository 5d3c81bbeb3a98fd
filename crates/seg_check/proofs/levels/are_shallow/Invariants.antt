use Rattle.std.proofs.Common.{◌≡◌, drop}
use Rattle.std.specs.Prelude.{nat_le}
use Rattle.std.specs.List.{list_all}
use Rattle.seg_values.specs.StoredBytes.{most_levels_read}
use Rattle.seg_values.specs.Tree.{levels}
use Rattle.seg_check.proofs.levels.are_shallow.Given as goal

-- what is left decides
abbrev pub invariant-loop-at : goal.invariant-loop-at
invariant-loop-at l = list_all (λ p. nat_le (levels p.1) most_levels_read) (drop l.at l.document) ≡ list_all (λ p. nat_le (levels p.1) most_levels_read) l.document

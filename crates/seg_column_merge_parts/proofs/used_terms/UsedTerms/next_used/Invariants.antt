use Rattle.std.proofs.Common.{◌≤◌}
use Rattle.seg_column_merge_parts.specs.UsedTerms.{NoneUsed}
use Rattle.seg_column_merge_parts.proofs.used_terms.UsedTerms.next_used.Given as goal

abbrev pub invariant-loop-ord : goal.invariant-loop-ord
invariant-loop-ord l = record {
  later : l.from ≤ l.ord;
  none : NoneUsed l.self.used l.from l.ord;
}

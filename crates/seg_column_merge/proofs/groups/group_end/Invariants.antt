use Rattle.std.proofs.Common.{◌≡◌, ℕ, ◌<◌, ◌≤◌, ◌-◌, true, length, get_or}
use Rattle.seg_column_merge.specs.Groups.{has_key}
use Rattle.seg_column_merge_parts.specs.declared.tables.TableRow.{TableRow}
use Rattle.seg_column_merge.proofs.groups.group_end.Given as goal

abbrev pub invariant-loop-end : goal.invariant-loop-end
invariant-loop-end l = record {
  some : l.start < l.end;
  within : l.end ≤ length l.table;
  same : (k : ℕ) (d : TableRow) → l.start ≤ k → k < l.end
      → has_key (get_or l.table k d) (get_or l.table l.start d) ≡ true;
}

abbrev pub decreases-loop-end : goal.decreases-loop-end
decreases-loop-end l = length l.table - l.end

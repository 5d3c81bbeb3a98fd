use Rattle.std.proofs.Common.{◌≡◌, ◌-◌, ◌*◌, drop}
use Rattle.seg_directory.specs.CompositeFiles.{entries_of, are_entries}
use Rattle.seg_directory.proofs.composite_file.is_table.Given as goal

abbrev pub invariant-loop-i : goal.invariant-loop-i
invariant-loop-i l = are_entries l.low l.start l.total (entries_of (l.count - l.i) (drop (12 * l.i) l.table)) ≡ are_entries 0 0 l.total (entries_of l.count l.table)

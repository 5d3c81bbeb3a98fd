use Rattle.std.proofs.Common.{◌≡◌, ◌++◌, drop}
use Rattle.seg_column_format.proofs.FieldStarts.{starts_of}
use Rattle.seg_column_format.proofs.path_starts.all_starts.Given as goal

abbrev pub invariant-loop-entry : goal.invariant-loop-entry
invariant-loop-entry l = l.starts.items ++ starts_of (drop l.entry-index l.schema) ≡ starts_of l.schema

use Rattle.std.proofs.Common.{◌≡◌, ◌<◌, ℕ, [], false, get_or}
use Rattle.seg_column_format.specs.SchemaColumns.{has_values}
use Rattle.seg_column_format.proofs.values.is_used.Given as goal

abbrev pub invariant-loop-doc : goal.invariant-loop-doc
invariant-loop-doc g l = (i : ℕ) → i < l.doc → has_values (get_or l.column i []) ≡ false

use Rattle.std.proofs.Common.{◌<◌, ℕ, [], get_or}
use Rattle.std.specs.Prelude.{IsUtf8}
use Rattle.seg_columns.proofs.str_column.are_utf8.Given as goal

abbrev pub invariant-loop-place : goal.invariant-loop-place
invariant-loop-place l = (i : ℕ) → i < l.place → IsUtf8 (get_or l.dictionary i [])

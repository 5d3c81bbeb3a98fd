use Rattle.std.proofs.Common.{◌≡◌, ◌++◌}
use Rattle.std.specs.Prelude.{All}
use Rattle.std.specs.List.{flat_map}
use Rattle.seg_column_merge_parts.specs.SourceRows.{IsPut, joined}
use Rattle.seg_column_merge_parts.proofs.joined_column.put_rows.Given as goal

abbrev pub invariant-loop-file : goal.invariant-loop-file
invariant-loop-file l = record {
  can : (goal.iterator-loop-file).can_next l.file-iterator;
  finite : (goal.iterator-loop-file).is_finite l.file-iterator;
  left : All (IsPut l.sources) l.file-iterator;
  all : l.out.items ++ flat_map (flat_map (λ code. code)) (joined l.sources l.file-iterator)
      ≡ l.fn.out.items ++ flat_map (flat_map (λ code. code)) (joined l.sources l.fn.rows);
}

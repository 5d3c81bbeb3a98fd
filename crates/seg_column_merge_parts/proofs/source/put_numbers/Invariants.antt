use Rattle.std.proofs.Common.{◌≡◌, ◌++◌}
use Rattle.std.specs.Prelude.{All}
use Rattle.std.specs.List.{flat_map}
use Rattle.seg_column_merge_parts.specs.SourceRows.{CanMap, number_code}
use Rattle.seg_column_merge_parts.proofs.source.put_numbers.Given as goal

abbrev pub invariant-loop-number : goal.invariant-loop-number
invariant-loop-number l = record {
  can : (goal.iterator-loop-number).can_next l.number-iterator;
  finite : (goal.iterator-loop-number).is_finite l.number-iterator;
  left : All (CanMap l.written) l.number-iterator;
  all : l.out.items ++ flat_map (number_code l.written) l.number-iterator
      ≡ l.fn.out.items ++ flat_map (number_code l.written) l.fn.numbers;
}

use Rattle.std.proofs.Common.{◌≡◌}
use Rattle.seg_column_merge_parts.specs.NumberRanges.{with_all, with_signed}
use Rattle.seg_column_merge_parts.proofs.number_range.NumberRange.with_signed_row.Given as goal

abbrev pub invariant-loop-number : goal.invariant-loop-number
invariant-loop-number l = record {
  can : (goal.iterator-loop-number).can_next l.number-iterator;
  finite : (goal.iterator-loop-number).is_finite l.number-iterator;
  all : with_all with_signed l.range l.number-iterator ≡ with_all with_signed l.fn.self l.fn.numbers;
}

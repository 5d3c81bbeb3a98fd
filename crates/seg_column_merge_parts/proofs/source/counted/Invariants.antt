use Rattle.std.proofs.Common.{◌≡◌, ◌+◌, ◌<◌, ◌^◌, length}
use Rattle.seg_column_merge_parts.proofs.source.counted.Given as goal

abbrev pub invariant-loop-value : goal.invariant-loop-value
invariant-loop-value g l = record {
  can : (goal.iterator-loop-value g).can_next l._value-iterator;
  finite : (goal.iterator-loop-value g).is_finite l._value-iterator;
  all : l.count + length l._value-iterator ≡ l.fn.before + length l.fn.values;
  fits : l.count < 2 ^ 64;
}

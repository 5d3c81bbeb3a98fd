use Rattle.std.proofs.Common.{◌≡◌, ◌+◌, ◌<◌, ◌^◌, ◌++◌, drop, map}
use Rattle.seg_column_format.specs.ColumnBytes.{ends_from, number_bytes, total}
use Rattle.seg_column_merge_parts.proofs.merged_dictionary.put_ends.Given as goal

-- what is written, with what is left, is all
abbrev pub invariant-loop-term : goal.invariant-loop-term
invariant-loop-term l = record {
  all : l.out.items ++ number_bytes (ends_from l.end (map (λ t. t.now) (drop l.term-index l.terms)))
      ≡ l.initial.out.items ++ number_bytes (ends_from 0 (map (λ t. t.now) l.terms));
  sum : l.end + total (map (λ t. t.now) (drop l.term-index l.terms)) ≡ total (map (λ t. t.now) l.terms);
  fits : l.end < 2 ^ 64;
}

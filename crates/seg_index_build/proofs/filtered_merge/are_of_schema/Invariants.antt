use Rattle.std.proofs.Common.{◌≡◌, drop}
use Rattle.std.specs.List.{AllByRecursion}
use Rattle.seg_index_build.proofs.filtered_merge.are_of_schema.Given as goal

-- all are of it where those that are left are
abbrev pub invariant-loop-segment : goal.invariant-loop-segment
invariant-loop-segment l = record {
  so : AllByRecursion (λ s. s.schema ≡ l.schema) (drop l.segment-index l.segments)
      → AllByRecursion (λ s. s.schema ≡ l.schema) l.segments;
  back : AllByRecursion (λ s. s.schema ≡ l.schema) l.segments
      → AllByRecursion (λ s. s.schema ≡ l.schema) (drop l.segment-index l.segments);
}

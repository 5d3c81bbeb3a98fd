use Rattle.std.proofs.Common.{◌≡◌, ◌+◌, ◌++◌, map, drop, length}
use Rattle.std.specs.FinMap.{entries}
use Rattle.std.specs.Vec.Iter.{into_iter_items}
use Rattle.seg_build.specs.FieldTerms.{recorded_fields}
use Rattle.seg_build.specs.FieldState.{FieldSoFar}
use Rattle.seg_build.proofs.fields.sort_fields.Given as goal

-- what is sorted, with what is left, is all
abbrev pub invariant-loop-field : goal.invariant-loop-field
invariant-loop-field l =
    record {
      all : l.sorted.items ++ recorded_fields (drop (length l.sorted.items) l.schema) (map (λ (f : FieldSoFar). entries f.terms) (into_iter_items l.field-iterator)) ≡ recorded_fields l.schema (map (λ (f : FieldSoFar). entries f.terms) (into_iter_items l.initial.field-iterator));
      as_many : length l.sorted.items + length (into_iter_items l.field-iterator) ≡ length l.schema;
    }

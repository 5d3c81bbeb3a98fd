use Rattle.std.proofs.Common.{◌≡◌, ◌+◌, ◌-◌, ◌^◌, ◌≤◌, map, drop}
use Rattle.std.specs.List.{AllByRecursion}
use Rattle.seg_check.specs.IndexedValues.{IsPlainIn, value_in}
use Rattle.seg_model.specs.SaturatedNumbers.{saturated}
use Rattle.seg_build.specs.MemoryUsage.{value_count}
use Rattle.seg_build.specs.FieldsByValue.{AllFit, with_values}
use Rattle.seg_build.proofs.added_values.add_values.Given as goal

-- what is so far, with what is left, is all
abbrev pub invariant-loop-value : goal.invariant-loop-value
invariant-loop-value l =
    let left = map (value_in l.document) (drop l.value-index l.values) in
    record {
      fields : with_values l.id l.fields left ≡ with_values l.id l.initial.fields (map (value_in l.document) l.values);
      count : saturated (l.count + value_count left) ≡ saturated (value_count (map (value_in l.document) l.values));
      few : l.count ≤ 2 ^ 64 - 1;
      fit : AllFit l.id l.fields left;
      keys : AllByRecursion (IsPlainIn l.document) (drop l.value-index l.values);
    }

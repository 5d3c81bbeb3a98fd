use Rattle.std.proofs.Common.{◌≡◌, ◌<◌, ◌^◌, ◌++◌, drop, take}
use Rattle.std.specs.List.{AllByRecursion, flat_map}
use Rattle.seg_column_format.specs.RowNumbers.{eight_bytes}
use Rattle.seg_column_format.specs.declared.row_number.RowNumber.{RowNumber}
use Rattle.seg_column_format.proofs.column_bytes.put_eight_bytes.Given as goal

abbrev pub invariant-loop-value : goal.invariant-loop-value
invariant-loop-value l =
    record {
      all : l.out.items ++ flat_map eight_bytes (drop l.value-index l.values)
          ≡ l.initial.out.items ++ flat_map eight_bytes l.values;
      fit : AllByRecursion (λ (v : RowNumber). v.number < 2 ^ 64) (take l.value-index l.values);
    }

use Rattle.std.proofs.Common.{◌≡◌, map, take}
use Rattle.seg_column_writer.specs.EncodedColumns.{ranked}
use Rattle.seg_column_writer.proofs.encoded_values.ordinals.Given as goal

abbrev pub invariant-loop-value : goal.invariant-loop-value
invariant-loop-value l =
    record { are : l.numbers.items ≡ map (ranked l.ordinals) (take l.value-index l.values) }

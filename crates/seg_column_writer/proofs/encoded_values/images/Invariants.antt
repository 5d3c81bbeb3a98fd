use Rattle.std.proofs.Common.{◌≡◌, map, take}
use Rattle.seg_column_writer.specs.EncodedColumns.{imaged}
use Rattle.seg_column_writer.proofs.encoded_values.images.Given as goal

abbrev pub invariant-loop-value : goal.invariant-loop-value
invariant-loop-value l =
    record { are : l.numbers.items ≡ map (imaged l.column_type) (take l.value-index l.values) }

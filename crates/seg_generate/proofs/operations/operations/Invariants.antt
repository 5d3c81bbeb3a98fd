use Rattle.std.proofs.Common.{◌≡◌, map}
use Rattle.std.specs.List.{flat_map, range_with_len}
use Rattle.seg_check.specs.UserOperations.{operation_of}
use Rattle.seg_generate.specs.GeneratedInput.{group_operations}
use Rattle.seg_generate.proofs.operations.operations.Given as goal

abbrev pub invariant-loop-group : goal.invariant-loop-group
invariant-loop-group l = map operation_of l.operations.items ≡ flat_map (group_operations l.seed) (range_with_len 0 l.group)

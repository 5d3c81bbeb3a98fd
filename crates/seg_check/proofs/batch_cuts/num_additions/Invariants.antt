use Rattle.std.proofs.Common.{◌≡◌, ◌+◌, ◌≤◌, length, map, drop}
use Rattle.seg_model.specs.Operations.{additions}
use Rattle.seg_check.specs.UserOperations.{operation_of}
use Rattle.seg_check.proofs.batch_cuts.num_additions.Given as goal

-- those so far, with those that are left, are all
abbrev pub invariant-loop-operation : goal.invariant-loop-operation
invariant-loop-operation l = record {
  counted : l.number + length (additions (map operation_of (drop l.operation-index l.operations))) ≡ length (additions (map operation_of l.operations));
  few : l.number ≤ l.operation-index;
}

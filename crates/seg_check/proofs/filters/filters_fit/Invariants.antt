use Rattle.std.proofs.Common.{◌≡◌, ◌+◌, length, map, drop, true}
use Rattle.seg_model.specs.Fields as model
use Rattle.seg_model.specs.Operations.{batches, batches_from}
use Rattle.seg_model.specs.ValidInputs.{filters_fit}
use Rattle.seg_check.specs.UserOperations.{operation_of}
use Rattle.seg_check.proofs.RisingCuts.{fit_from}
use Rattle.seg_check.proofs.filters.filters_fit.Given as goal

-- what is left decides
abbrev pub invariant-loop-cut : goal.invariant-loop-cut
invariant-loop-cut l = record {
  fit : (schema : model.Schema) (analyzer : model.Analyzer) → filters_fit (drop (length l.yielded) l.filters) (batches_from schema analyzer l.from (drop (length l.yielded) l.cuts) (map operation_of l.left)) ≡ filters_fit l.filters (batches schema analyzer l.cuts (map operation_of l.operations));
  cuts : fit_from (length l.operations) l.from (drop (length l.yielded) l.cuts) ≡ true;
  within : l.from + length l.left ≡ length l.operations;
}

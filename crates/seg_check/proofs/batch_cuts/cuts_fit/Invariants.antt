use Rattle.std.proofs.Common.{◌≡◌, length, map, drop}
use Rattle.seg_model.specs.ValidInputs.{cuts_fit}
use Rattle.seg_check.specs.UserOperations.{operation_of}
use Rattle.seg_check.proofs.RisingCuts.{fit_from}
use Rattle.seg_check.proofs.batch_cuts.cuts_fit.Given as goal

-- what is left decides
abbrev pub invariant-loop-cut : goal.invariant-loop-cut
invariant-loop-cut l = fit_from (length l.operations) l.from (drop l.cut-index l.cuts) ≡ cuts_fit (map operation_of l.operations) l.cuts

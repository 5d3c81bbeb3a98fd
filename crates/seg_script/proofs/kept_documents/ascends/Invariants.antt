use Rattle.std.proofs.Common.{◌≡◌, drop}
use Rattle.seg_script.specs.Filters.{ascends}
use Rattle.seg_script.proofs.AscendingNumbers.{ascends_from}
use Rattle.seg_script.proofs.kept_documents.ascends.Given as goal

abbrev pub invariant-loop-number : goal.invariant-loop-number
invariant-loop-number l = ascends_from l.least (drop l.number-index l.numbers) ≡ ascends l.numbers

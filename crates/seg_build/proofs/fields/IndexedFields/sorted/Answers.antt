use Rattle.std.proofs.Common.{sym, subst}
use Rattle.std.specs.List.{AllByRecursion}
use Rattle.seg_build.specs.WritableTerms.{CanBeWritten}
use Rattle.seg_build.proofs.fields.IndexedFields.sorted.Goals as goal

pub invariant_of-result : goal.invariant_of-result
invariant_of-result c = subst (AllByRecursion CanBeWritten) (sym c.in_ok-fields.ensures) c.requires.writable

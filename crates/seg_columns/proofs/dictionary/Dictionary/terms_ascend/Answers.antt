use Rattle.std.proofs.Common.{subst}
use Rattle.std.specs.Cmp.Lexicographic.{slice_cmp}
use Rattle.std.specs.List.Sorted.{IsStrictlySortedBy}
use Rattle.std.specs.Ordering.{nat_cmp}
use Rattle.seg_columns.proofs.TermOrder.{terms_sorted}
use Rattle.seg_columns.proofs.dictionary.Dictionary.terms_ascend.Goals as goal

pub returns : goal.returns
returns c = subst (IsStrictlySortedBy (slice_cmp nat_cmp)) c.self.view_is
    (terms_sorted c.self.inside.bytes c.self.invariant.1.ascend)

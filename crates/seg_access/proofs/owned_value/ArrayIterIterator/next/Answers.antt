use Rattle.std.proofs.Common.{sym, ◌∙◌}
use Rattle.seg_common.proofs.Lists.{drop-slice_get}
use Rattle.seg_access.proofs.owned_value.ArrayIterIterator.next.Goals as goal

pub returns-clause-steps : goal.returns-clause-steps
returns-clause-steps c = sym c.self.view_is ∙ drop-slice_get c.self.inside.values.now c.self.inside.place _ c.get-value.ensures

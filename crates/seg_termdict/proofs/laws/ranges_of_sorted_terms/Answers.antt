use Rattle.seg_termdict.proofs.Ordinals.{ordinals_are_places}
use Rattle.seg_termdict.proofs.ReversedRanges.{reversed_bounds_give_none}
use Rattle.seg_termdict.proofs.laws.ranges_of_sorted_terms.Goals as goal

pub returns-clause-ordinals : goal.returns-clause-ordinals
returns-clause-ordinals g c = ordinals_are_places _

pub returns-clause-reversed : goal.returns-clause-reversed
returns-clause-reversed g c = reversed_bounds_give_none _

use Rattle.seg_bits.proofs.UniqueForms.{one_form}
use Rattle.seg_bits.proofs.laws.sets_have_one_form.Goals as goal

pub returns : goal.returns
returns c = one_form

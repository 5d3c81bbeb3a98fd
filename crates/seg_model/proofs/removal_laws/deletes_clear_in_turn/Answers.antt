use Rattle.seg_model.proofs.RemovalTurns.{deletes_clear_in_turn}
use Rattle.seg_model.proofs.removal_laws.deletes_clear_in_turn.Goals as goal

pub returns : goal.returns
returns c = deletes_clear_in_turn

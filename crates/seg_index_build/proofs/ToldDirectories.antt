-- What is told of a directory still.
use Rattle.std.proofs.Common.{◌≡◌, Bool, sym, subst}
use Rattle.std.specs.Prelude.{IsTrue}

-- what is told is told still
pub tells-still : (old new : Bool) → new ≡ old → IsTrue old → IsTrue new
tells-still old new same told = subst (λ (b : Bool). IsTrue b) (sym same) told

-- How many documents operations add.
use Rattle.std.proofs.Common.{◌≡◌, suc, List, [], ◌∷◌, length, map, filter, refl, ap}
use Rattle.seg_values.specs.Tree.{Document}
use Rattle.seg_model.specs.Operations.{additions}
use Rattle.seg_check.specs.UserOperations.{operation_of}
use Rattle.seg_check.specs.declared.user_operation.UserOperation.{UserOperation}
use Rattle.seg_check.specs.declared.user_operation.UserOperation.TheVariants.{Add, Delete}
use Rattle.seg_batches.specs.IndexedBatches.{is_addition}

pub counted : (operations : List (UserOperation Document))
    → length (filter (λ o. is_addition (operation_of o)) operations) ≡ length (additions (map operation_of operations))
counted [] = refl
counted (Add document ∷ operations) = ap suc (counted operations)
counted (Delete term ∷ operations) = counted operations

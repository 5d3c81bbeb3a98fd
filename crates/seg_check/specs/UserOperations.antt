-- What an operation of a user means.
use Rattle.seg_model.specs.Operations as model
use Rattle.seg_values.specs.Tree.{Document}
use Rattle.seg_check.specs.declared.user_operation.UserOperation.{UserOperation}
use Rattle.seg_check.specs.declared.user_operation.UserOperation.TheVariants.{Add, Delete}

-- an operation as the definitions have it
abbrev pub operation_of : UserOperation Document → model.Operation
operation_of (Add document) = model.add document
operation_of (Delete term) = model.delete term

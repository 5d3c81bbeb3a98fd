-- A code of operations, by which a proof tells them apart.
use Rattle.std.specs.Prelude.{◌≡◌, List, refl, ◌⊎◌}
use Rattle.std.proofs.Common.{inl, inr}
use Rattle.std.specs.Coded.{Coded, code_by, coded⊎, coded_list}
use Rattle.seg_values.specs.Tree.{Document}
use Rattle.seg_values.specs.ValueCodes.{term_code}
use Rattle.seg_model.specs.Codes.{document_code}
use Rattle.seg_model.specs.Operations.{TermKey, Operation, add, delete, delete_all}

-- one alternative for each operation
abbrev pub OperationSum : Type 0
OperationSum = Document ⊎ (TermKey ⊎ List TermKey)

-- the alternative of an operation
abbrev pub operation_sum : Operation → OperationSum
operation_sum (add document) = inl document
operation_sum (delete term) = inr (inl term)
operation_sum (delete_all terms) = inr (inr terms)

-- and back
abbrev pub sum_operation : OperationSum → Operation
sum_operation (inl document) = add document
sum_operation (inr (inl term)) = delete term
sum_operation (inr (inr terms)) = delete_all terms

-- the way back undoes the way there
pub sum_operation-operation_sum : (o : Operation) → sum_operation (operation_sum o) ≡ o
sum_operation-operation_sum (add document) = refl
sum_operation-operation_sum (delete term) = refl
sum_operation-operation_sum (delete_all terms) = refl

-- an operation is stored as its alternative
abbrev pub operation_code : Coded Operation
operation_code = code_by OperationSum (coded⊎ document_code (coded⊎ term_code (coded_list term_code)))
    operation_sum sum_operation sum_operation-operation_sum

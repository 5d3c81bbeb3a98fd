-- Operations that come one after the other: those so far and those that are left, in a loop over all.
use Rattle.std.proofs.Common.{◌≡◌, ℕ, zero, suc, ◌+◌, ◌<◌, List, [], ◌∷◌, ◌++◌, length, map, drop, get_or, Some, refl, sym, ap, ◌∙◌, arith, append_assoc}
use Rattle.std.specs.List.{slice_get}
use Rattle.seg_common.proofs.Lists.{drop-slice_get}
use Rattle.seg_values.specs.Tree.{Document}
use Rattle.seg_model.specs.Operations.{Operation, add, delete, delete_all}
use Rattle.seg_model.specs.Stamps.{stamped_deletes}
use Rattle.seg_check.specs.UserOperations.{operation_of}
use Rattle.seg_check.specs.declared.user_operation.UserOperation.{UserOperation}

-- an operation among those that are handed in
pub operation_at : (operations : List (UserOperation Document)) (i : ℕ) (x : UserOperation Document)
    → i < length operations → x ≡ get_or operations i x
    → slice_get (map operation_of operations) i ≡ Some (operation_of x)
operation_at [] i x lt is = absurd (omega (arith, lt))
operation_at (y ∷ ys) zero x lt is = ap (λ (u : UserOperation Document). Some (operation_of u)) (sym is)
operation_at (y ∷ ys) (suc i) x lt is = operation_at ys i x (omega (arith, lt)) is

-- and where it is told which that is
pub told_at : (operations : List (UserOperation Document)) (i : ℕ) (x told : UserOperation Document)
    → i < length operations → x ≡ get_or operations i x → x ≡ told
    → slice_get (map operation_of operations) i ≡ Some (operation_of told)
told_at operations i x told lt is same =
    operation_at operations i x lt is ∙ ap (λ (u : UserOperation Document). Some (operation_of u)) same

-- ---- the deletes among them

deletes-first : (at : ℕ) (operation : Operation) (rest : List Operation)
    → stamped_deletes at (operation ∷ rest) ≡ stamped_deletes at (operation ∷ []) ++ stamped_deletes (at + 1) rest
deletes-first at (add document) rest = refl
deletes-first at (delete term) rest = refl
deletes-first at (delete_all terms) rest = refl

-- one more operation is looked at, whose delete is put after the others
pub one_more_waits : (operations : List Operation) (i : ℕ) (operation : Operation) (old new all : List (ℕ × Operation))
    → slice_get operations i ≡ Some operation
    → new ≡ old ++ stamped_deletes i (operation ∷ []) → old ++ stamped_deletes i (drop i operations) ≡ all → new ++ stamped_deletes (i + 1) (drop (i + 1) operations) ≡ all
one_more_waits operations i operation old new all at is so_far =
    ap (λ l. l ++ stamped_deletes (i + 1) (drop (i + 1) operations)) is
    ∙ append_assoc old (stamped_deletes i (operation ∷ [])) (stamped_deletes (i + 1) (drop (i + 1) operations))
    ∙ ap (λ l. old ++ l) (sym (ap (stamped_deletes i) (drop-slice_get operations i operation at) ∙ deletes-first i operation (drop (i + 1) operations)))
    ∙ so_far

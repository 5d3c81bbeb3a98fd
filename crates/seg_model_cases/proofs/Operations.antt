-- Cases of deletes, filters and batches, and of estimates.
use Rattle.std.proofs.Common.{◌≡◌, ℕ, zero, suc, Bool, true, false, List, [], ◌∷◌, Option, Some, None, refl}
use Rattle.std.specs.Prelude.{slice_get, ◌&&◌}
use Rattle.seg_model.specs.Operations.{both_marked, filtered_by}
use Rattle.seg_model_cases.specs.Operations.{OperationCases}

first_marked : (a b : Bool) → Some (a && b) ≡ Some true → Some a ≡ Some true
first_marked true b e = refl
first_marked false b e = e

marked : (alive keeps : List Bool) (i : ℕ) → slice_get (both_marked alive keeps) i ≡ Some true → slice_get alive i ≡ Some true
marked [] keeps i e = e
marked (a ∷ alive) [] i e = cc
marked (a ∷ alive) (b ∷ keeps) zero e = first_marked a b e
marked (a ∷ alive) (b ∷ keeps) (suc i) e = marked alive keeps i e

no_return : (filter : Option (List Bool)) (alive : List Bool) (i : ℕ) → slice_get (filtered_by filter alive) i ≡ Some true → slice_get alive i ≡ Some true
no_return None alive i e = e
no_return (Some keeps) alive i e = marked alive keeps i e

pub operation_cases : OperationCases
operation_cases = record {
  no_return = no_return;
  all_kept = refl;
  filters = refl;
  falling_cuts = refl;
  reach = refl;
  estimates = refl;
  joined = refl;
  limit = refl;
}

-- Changes of one field among all.
use Rattle.std.proofs.Common.{◌≡◌, ℕ, zero, suc, ◌<◌, List, [], ◌∷◌, length, map, take, drop, ◌++◌, Option, option_map, ap, arith, slice_index_or, slice_set}
use Rattle.seg_norms.specs.FieldNorms.{at_field}

pub set_is_at_field : (change : List ℕ → List ℕ) (fields : List (Option (List ℕ))) (field : ℕ) (d changed : Option (List ℕ)) → field < length fields → changed ≡ option_map change (slice_index_or fields field d) → slice_set fields field changed ≡ at_field field change fields
set_is_at_field change [] field d changed within is = absurd (omega (arith, within))
set_is_at_field change (f ∷ fs) zero d changed within is = ap (λ x. x ∷ fs) is
set_is_at_field change (f ∷ fs) (suc field) d changed within is = ap (λ xs. f ∷ xs) (set_is_at_field change fs field d changed (omega (arith, within)) is)

-- one more of a list is changed in its place
pub one_more : {A : Type 0} (change : A → A) (xs : List A) (place : ℕ) (d changed : A) → place < length xs → changed ≡ change (slice_index_or xs place d) → take (suc place) (slice_set xs place changed) ++ map change (drop (suc place) (slice_set xs place changed)) ≡ take place xs ++ map change (drop place xs)
one_more change [] place d changed within is = absurd (omega (arith, within))
one_more change (x ∷ xs) zero d changed within is = ap (λ y. y ∷ map change xs) is
one_more change (x ∷ xs) (suc place) d changed within is = ap (λ ys. x ∷ ys) (one_more change xs place d changed (omega (arith, within)) is)

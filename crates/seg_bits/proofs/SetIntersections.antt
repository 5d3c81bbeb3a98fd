-- What alive sets share does not depend on their order or grouping.
use Rattle.std.proofs.Common.{◌≡◌, Bool, List, [], ◌∷◌, refl}
use Rattle.std.proofs.Math.Bool.{and_self, and_comm, and_assoc}
use Rattle.seg_common.specs.Marks.{both_marked}
use Rattle.seg_bits.specs.BitSets.{AliveSetsMeet}

meet_comm : (xs ys : List Bool) → both_marked xs ys ≡ both_marked ys xs
meet_comm [] [] = refl
meet_comm [] (y ∷ ys) = refl
meet_comm (x ∷ xs) [] = refl
meet_comm (x ∷ xs) (y ∷ ys) = λ i. and_comm x y i ∷ meet_comm xs ys i

meet_assoc : (xs ys zs : List Bool) → both_marked (both_marked xs ys) zs ≡ both_marked xs (both_marked ys zs)
meet_assoc [] ys zs = refl
meet_assoc (x ∷ xs) [] zs = refl
meet_assoc (x ∷ xs) (y ∷ ys) [] = refl
meet_assoc (x ∷ xs) (y ∷ ys) (z ∷ zs) = λ i. and_assoc x y z i ∷ meet_assoc xs ys zs i

meet_same : (xs : List Bool) → both_marked xs xs ≡ xs
meet_same [] = refl
meet_same (x ∷ xs) = λ i. and_self x i ∷ meet_same xs i

pub alive_sets_meet : AliveSetsMeet
alive_sets_meet = record { commutative = meet_comm; associative = meet_assoc; idempotent = meet_same }

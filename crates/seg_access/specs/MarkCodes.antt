-- A code of marks, by which a proof tells them apart.
use Rattle.std.specs.Prelude.{◌≡◌, ℕ, List, refl, ◌⊎◌}
use Rattle.std.proofs.Common.{inl, inr}
use base.Stored.{Coded, coded_unit, coded_ℕ, coded_list, coded⊎}
use Rattle.std.specs.Coded.{code_by}
use Rattle.seg_values.specs.Tree.{Leaf}
use Rattle.seg_values.specs.ValueCodes.{leaf_code}
use Rattle.seg_access.specs.Pieces.{Mark, value, values, members, key, field, unknown}

abbrev pub MarkSum : Type 0
MarkSum = Leaf ⊎ (ℕ ⊎ (ℕ ⊎ (List ℕ ⊎ (ℕ ⊎ Unit {0}))))

abbrev pub mark_sum : Mark → MarkSum
mark_sum (value l) = inl l
mark_sum (values n) = inr (inl n)
mark_sum (members n) = inr (inr (inl n))
mark_sum (key s) = inr (inr (inr (inl s)))
mark_sum (field n) = inr (inr (inr (inr (inl n))))
mark_sum unknown = inr (inr (inr (inr (inr tt))))

abbrev pub sum_mark : MarkSum → Mark
sum_mark (inl l) = value l
sum_mark (inr (inl n)) = values n
sum_mark (inr (inr (inl n))) = members n
sum_mark (inr (inr (inr (inl s)))) = key s
sum_mark (inr (inr (inr (inr (inl n))))) = field n
sum_mark (inr (inr (inr (inr (inr _))))) = unknown

pub sum_mark-mark_sum : (m : Mark) → sum_mark (mark_sum m) ≡ m
sum_mark-mark_sum (value l) = refl
sum_mark-mark_sum (values n) = refl
sum_mark-mark_sum (members n) = refl
sum_mark-mark_sum (key s) = refl
sum_mark-mark_sum (field n) = refl
sum_mark-mark_sum unknown = refl

abbrev pub mark_code : Coded Mark
mark_code = code_by MarkSum
    (coded⊎ leaf_code (coded⊎ coded_ℕ (coded⊎ coded_ℕ (coded⊎ (coded_list coded_ℕ) (coded⊎ coded_ℕ coded_unit)))))
    mark_sum sum_mark sum_mark-mark_sum

-- A name of which no change is pending is in each image as it is safe.
use Rattle.std.proofs.Common.{◌≡◌, ℕ, Bool, true, false, ◌&&◌, ◌||◌, List, [], ◌∷◌, Option, sym, refl, ap, ◌∙◌}
use mathlib.Core.Bool.{true≢false}
use Rattle.std.specs.List.{list_any}
use Rattle.std.specs.Option.{option_eq}
use Rattle.std.specs.Ordering.{eq_by_cmp}
use Rattle.std.specs.Str.{bytes_eq}
use Rattle.std.specs.declared.cmp.Ordering.{Ordering}
use Rattle.std.specs.FinMap.{get}
use Rattle.seg_directory.specs.Disk.{PendingChange, may_leave}
use Rattle.seg_directory.specs.ImageLaws.{UntouchedNamesStay}
use Rattle.seg_directory.specs.LatestFiles.{same_state}
use Rattle.seg_common.proofs.TabulatedMaps.{first_false, second_false}

or_right_false : (a b : Bool) → b ≡ false → (a || b) ≡ true → a ≡ true
or_right_false true b h e = refl
or_right_false false b h e = absurd (true≢false (sym e ∙ h))

module _ {Name : Type 0} (order : Name → Name → Ordering) where
  none_leaves : (name : Name) (state : Option (List ℕ)) (cs : List (PendingChange Name)) → list_any (λ (c : PendingChange Name). eq_by_cmp order c.name name) cs ≡ false → list_any (λ (c : PendingChange Name). eq_by_cmp order c.name name && may_leave c.written state) cs ≡ false
  none_leaves name state [] h = refl
  none_leaves name state (c ∷ cs) h =
      ap (λ b. (b && may_leave c.written state) || list_any (λ (d : PendingChange Name). eq_by_cmp order d.name name && may_leave d.written state) cs) (first_false (eq_by_cmp order c.name name) _ h)
      ∙ none_leaves name state cs (second_false (eq_by_cmp order c.name name) _ h)

  pub untouched_names_stay : UntouchedNamesStay order
  untouched_names_stay disk files name image still =
      same_state (get disk.stable name) (get files name)
      (or_right_false (option_eq bytes_eq (get disk.stable name) (get files name)) _ (none_leaves name (get files name) disk.pending still) (image name))

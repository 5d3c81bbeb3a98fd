-- Skipping: one step, and where it stops.
use Rattle.std.proofs.Common.{◌≡◌, ℕ, ◌+◌, ◌-◌, ◌<◌, ◌≤◌, true, false, List, length, drop, get_or, ap, sym, subst, ◌∙◌, inl, inr, arith, length-drop}
use Rattle.std.specs.Prelude.{IfSome, IsSomeAnd}
use Rattle.std.specs.List.{prefix_len, slice_get}
use Rattle.std.specs.Option.{option_map_or}
use Rattle.std.proofs.lemmas.List.{get_or-drop}
use Rattle.std.proofs.lemmas.List.Sums.{prefix_len-drop_yes, prefix_len-drop_no, prefix_len-drop_all, prefix_len-le-length, prefix_len_passes, prefix_len_stops}
use Rattle.std.proofs.lemmas.Option.{slice_get_cases}
use Rattle.std.proofs.lemmas.Bool.{ltb-true, ltb-false}
use Rattle.seg_batches.specs.declared.operation.DeleteOperation.{DeleteOperation}
use Rattle.seg_batches.specs.Queues.{is_below, is_behind, skipped}
use Rattle.seg_batches.specs.QueueLaws.{IsFirst}

module _ {T : Type 0} (target : ℕ) (operations : List (DeleteOperation T)) (position : ℕ) where
  -- an operation below the target is passed
  pub skipped-next : is_behind target (slice_get operations position) ≡ true → (skipped target operations (position + 1) ≡ skipped target operations position) × (position < length operations)
  skipped-next is = elim (slice_get_cases operations position).1 [
    | inl w ↦ let passes : is_below target w.0 ≡ true = sym (ap (λ o. option_map_or (is_below target) o false) w.2) ∙ is in
        let more = prefix_len-drop_yes (is_below target) operations position w.0 w.1 (ap (is_below target) w.3 ∙ passes) in
        (omega (arith, more), w.1)
    | inr w ↦ let none : false ≡ true = sym (ap (λ o. option_map_or (is_below target) o false) w.1) ∙ is in cc
  ]

  -- at any other one, and at the end, it stops
  pub skipped-here : is_behind target (slice_get operations position) ≡ false → skipped target operations position ≡ position
  skipped-here is = elim (slice_get_cases operations position).1 [
    | inl w ↦ let fails : is_below target w.0 ≡ false = sym (ap (λ o. option_map_or (is_below target) o false) w.2) ∙ is in
        omega (arith, prefix_len-drop_no (is_below target) operations position w.0 w.1 (ap (is_below target) w.3 ∙ fails))
    | inr w ↦ omega (arith, prefix_len-drop_all (is_below target) operations position w.0)
  ]

  -- where it stops is the first place of its kind
  pub skipped_is_first : position ≤ length operations → IsFirst target operations position (skipped target operations position)
  skipped_is_first inside =
      let left = drop position operations in
      let count = prefix_len (is_below target) left in
      let short = prefix_len-le-length (is_below target) left in
      let long = length-drop position operations in
      record {
        later = omega arith;
        within = omega (arith, short, long);
        reached = elim (slice_get_cases operations (position + count)).1 [
          | inl w ↦ let stops = prefix_len_stops (is_below target) left w.0 (omega (arith, long)) in
              subst (λ o. IfSome o (λ x. target ≤ x.opstamp)) (sym w.2) (ltb-false _ _ (ap (is_below target) (sym (get_or-drop position operations count w.0 ∙ w.3)) ∙ stops))
          | inr w ↦ subst (λ o. IfSome o (λ x. target ≤ x.opstamp)) (sym w.1) tt
        ];
        passed = λ k after before. elim (slice_get_cases operations k).1 [
          | inl w ↦ let place : position + (k - position) ≡ k = omega arith in
              let here = get_or-drop position operations (k - position) w.0 ∙ ap (λ i. get_or operations i w.0) place ∙ w.3 in
              let passes = prefix_len_passes (is_below target) left (k - position) w.0 (omega arith) in
              subst (λ o. IsSomeAnd o (λ x. x.opstamp < target)) (sym w.2) (ltb-true _ _ (ap (is_below target) (sym here) ∙ passes))
          | inr w ↦ absurd (omega (arith, short, long))
        ];
      }

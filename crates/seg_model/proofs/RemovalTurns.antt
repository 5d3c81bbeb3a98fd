-- Deletes that are applied one after another.
use Rattle.std.proofs.Common.{◌≡◌, ℕ, suc, ◌+◌, ◌≤◌, Bool, true, false, List, [], ◌∷◌, ◌++◌, map, length, replicate, refl, ap, ◌∙◌, arith}
use Rattle.std.specs.Prelude.{◌||◌, ◌&&◌, not, nat_lt}
use Rattle.std.specs.List.{All, enumerate_from}
use Rattle.std.proofs.lemmas.List.Folds.{list_any-append}
use Rattle.std.proofs.lemmas.Bool.{le-ltb}
use Rattle.std.proofs.Math.Bool.{or-false}
use Rattle.seg_model.specs.DocumentTerms.{Terms}
use Rattle.seg_model.specs.Operations.{Operation, TermKey, delete, both_marked}
use Rattle.seg_model.specs.DeletesByPostings.{has_posting, clears, is_cleared_by}
use Rattle.seg_model.specs.RemovalLaws.{ArePassed, DeletesClearInTurn}

not_or : (a b : Bool) → not (a || b) ≡ (not a && not b)
not_or true b = refl
not_or false b = refl

module _ (terms : List Terms) where
  -- what is alive, from the document with a number on
  abbrev alive_from : ℕ → List ℕ → List (ℕ × Operation) → List Bool
  alive_from n stamps stamped = map (λ s. not (is_cleared_by terms s.0 s.1 stamped)) (enumerate_from n stamps)

  all_alive : (n : ℕ) (stamps : List ℕ) → alive_from n stamps [] ≡ replicate (length stamps) true
  all_alive n [] = refl
  all_alive n (s ∷ stamps) = ap (λ l. true ∷ l) (all_alive (n + 1) stamps)

  one_delete : (stamps : List ℕ) (stamp : ℕ) (term : TermKey) → alive_from 0 stamps ((stamp, delete term) ∷ []) ≡ map (λ s. not (nat_lt s.1 stamp && has_posting terms s.0 term)) (enumerate_from 0 stamps)
  one_delete stamps stamp term = λ j. map (λ (s : ℕ × ℕ). not (or-false (nat_lt s.1 stamp && has_posting terms s.0 term) j)) (enumerate_from 0 stamps)

  more_deletes : (n : ℕ) (stamps : List ℕ) (first second : List (ℕ × Operation)) → alive_from n stamps (first ++ second) ≡ both_marked (alive_from n stamps first) (alive_from n stamps second)
  more_deletes n [] first second = refl
  more_deletes n (s ∷ stamps) first second =
      let here = ap not (list_any-append (λ d. nat_lt s d.0 && clears terms n d.1) first second) ∙ not_or (is_cleared_by terms n s first) (is_cleared_by terms n s second) in
      λ j. here j ∷ more_deletes (n + 1) stamps first second j

  not_cleared : (i s : ℕ) (stamped : List (ℕ × Operation)) → All (λ (d : ℕ × Operation). d.0 ≤ s) stamped → is_cleared_by terms i s stamped ≡ false
  not_cleared i s [] h = refl
  not_cleared i s (d ∷ ds) h =
      ap (λ b. (b && clears terms i d.1) || is_cleared_by terms i s ds) (le-ltb s d.0 (h 0 d (omega arith)))
      ∙ not_cleared i s ds (λ k e lt. h (suc k) e (omega arith))

  passed_deletes : (n : ℕ) (stamps : List ℕ) (stamped : List (ℕ × Operation)) → ArePassed stamps stamped → alive_from n stamps stamped ≡ replicate (length stamps) true
  passed_deletes n [] stamped h = refl
  passed_deletes n (s ∷ stamps) stamped h =
      let rest = passed_deletes (n + 1) stamps stamped (λ k e lt. h (suc k) e (omega arith)) in
      λ j. not (not_cleared n s stamped (h 0 s (omega arith)) j) ∷ rest j

pub deletes_clear_in_turn : DeletesClearInTurn
deletes_clear_in_turn = record {
  none = λ terms stamps. all_alive terms 0 stamps;
  one = one_delete;
  more = λ terms stamps first second. more_deletes terms 0 stamps first second;
  passed = λ terms stamps stamped h. passed_deletes terms 0 stamps stamped h;
}

-- What survives does not depend on the cuts.
use Rattle.std.proofs.Common.{◌≡◌, ℕ, ◌-◌, Bool, true, false, cond, List, [], ◌∷◌, ◌++◌, take, drop, sym, refl, ap, ◌∙◌, append_assoc, append-nil}
use Rattle.std.specs.Prelude.{not}
use Rattle.std.specs.List.{flat_map}
use Rattle.std.proofs.lemmas.List.{take-append-drop}
use Rattle.seg_values.specs.Tree.{Document}
use Rattle.seg_model.specs.Fields.{Schema, Analyzer}
use Rattle.seg_model.specs.Operations.{Operation, add, delete, delete_all, kept, live, is_removed, additions, alive_after, batches_from}
use Rattle.seg_model.specs.Laws.{BatchesPlayNoPart}

module _ (schema : Schema) (analyzer : Analyzer) where
  -- the live documents of operations that others follow
  abbrev left : List Operation → List Operation → List Document
  left operations after = kept (alive_after schema analyzer operations after) (additions operations)

  left-append : (xs ys after : List Operation) → left (xs ++ ys) after ≡ left xs (ys ++ after) ++ left ys after
  left-append [] ys after = refl
  left-append (delete t ∷ xs) ys after = left-append xs ys after
  left-append (delete_all ts ∷ xs) ys after = left-append xs ys after
  left-append (add d ∷ xs) ys after =
      ap (λ l. cond (not (is_removed schema analyzer d l)) (d ∷ left (xs ++ ys) after) (left (xs ++ ys) after)) (append_assoc xs ys after)
      ∙ by (not (is_removed schema analyzer d (xs ++ (ys ++ after)))) (left-append xs ys after)
    where
      by : (b : Bool) → left (xs ++ ys) after ≡ left xs (ys ++ after) ++ left ys after → cond b (d ∷ left (xs ++ ys) after) (left (xs ++ ys) after) ≡ cond b (d ∷ left xs (ys ++ after)) (left xs (ys ++ after)) ++ left ys after
      by true h = ap (λ l. d ∷ l) h
      by false h = h

  live_cut : (from : ℕ) (cuts : List ℕ) (operations : List Operation) → flat_map live (batches_from schema analyzer from cuts operations) ≡ left operations []
  live_cut from [] operations = append-nil (left operations [])
  live_cut from (cut ∷ cuts) operations =
      let n = cut - from in
      ap (λ l. left (take n operations) (drop n operations) ++ l) (live_cut cut cuts (drop n operations))
      ∙ ap (λ l. left (take n operations) l ++ left (drop n operations) []) (sym (append-nil (drop n operations)))
      ∙ sym (left-append (take n operations) (drop n operations) [])
      ∙ ap (λ l. left l []) (take-append-drop n operations)

pub batches_play_no_part : BatchesPlayNoPart
batches_play_no_part schema analyzer cuts operations = live_cut schema analyzer 0 cuts operations ∙ sym (live_cut schema analyzer 0 [] operations)

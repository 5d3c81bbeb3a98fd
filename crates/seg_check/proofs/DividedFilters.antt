-- Filters, and the batches that they are for, one after another.
use Rattle.std.proofs.Common.{◌≡◌, ℕ, ◌+◌, ◌-◌, ◌<◌, Bool, true, false, List, [], ◌∷◌, length, map, take, drop, get_or, Option, refl, sym, ap, ◌∙◌, arith}
use Rattle.std.specs.Prelude.{◌&&◌}
use Rattle.std.proofs.lemmas.List.{take-map, drop-map}
use Rattle.std.proofs.Math.Bool.{and-true}
use Rattle.seg_common.proofs.Lists.{drop-get_or}
use Rattle.seg_values.specs.Tree.{Document}
use Rattle.seg_model.specs.Fields.{Schema, Analyzer}
use Rattle.seg_model.specs.Input.{Filter}
use Rattle.seg_model.specs.Operations.{Operation, Batch, additions, alive_after, batches_from}
use Rattle.seg_model.specs.ValidInputs.{filter_fits, filters_fit}
use Rattle.seg_check.specs.UserOperations.{operation_of}
use Rattle.seg_check.specs.declared.user_operation.UserOperation.{UserOperation}

none_after : {X : Type 0} (xs : List X) (n : ℕ) → n ≡ length xs → drop n xs ≡ []
none_after xs n is = ap (λ k. drop k xs) is ∙ all_gone xs
  where
    all_gone : {X : Type 0} (xs : List X) → drop (length xs) xs ≡ []
    all_gone [] = refl
    all_gone (x ∷ xs) = all_gone xs

module _ (schema : Schema) (analyzer : Analyzer) where
  -- the documents that some operations add, of which later ones leave some alive
  abbrev pub batch : List (UserOperation Document) → List (UserOperation Document) → Batch
  batch operations later = record { documents = additions (map operation_of operations); alive = alive_after schema analyzer (map operation_of operations) (map operation_of later) }

  -- ---- as many filters as batches

  pub as_many : (filters : List (Option Filter)) (from : ℕ) (cuts : List ℕ) (operations : List Operation) → (length filters ≡ length cuts + 1 → ⊥) → false ≡ filters_fit filters (batches_from schema analyzer from cuts operations)
  as_many [] from [] operations h = refl
  as_many [] from (cut ∷ cuts) operations h = refl
  as_many (f ∷ []) from [] operations h = absurd (h refl)
  as_many (f ∷ g ∷ filters) from [] operations h = neither (filter_fits f (record { documents = additions operations; alive = alive_after schema analyzer operations [] })) false refl
    where
      neither : (a b : Bool) → false ≡ b → false ≡ (a && b)
      neither true b is = is
      neither false b is = refl
  as_many (f ∷ filters) from (cut ∷ cuts) operations h =
      neither (filter_fits f (record { documents = additions (take (cut - from) operations); alive = alive_after schema analyzer (take (cut - from) operations) (drop (cut - from) operations) })) (filters_fit filters (batches_from schema analyzer cut cuts (drop (cut - from) operations)))
      (as_many filters cut cuts (drop (cut - from) operations) (λ same. h (let one : length (f ∷ filters) ≡ length (cut ∷ cuts) + 1 = omega (arith, same) in one)))
    where
      neither : (a b : Bool) → false ≡ b → false ≡ (a && b)
      neither true b is = is
      neither false b is = refl

  -- ---- one batch

  module _ (filters : List (Option Filter)) (cuts : List ℕ) where
    -- that the filters that are left fit what is left of the operations
    abbrev pub left_fit : ℕ → ℕ → List (UserOperation Document) → Bool
    left_fit at begin left = filters_fit (drop at filters) (batches_from schema analyzer begin (drop at cuts) (map operation_of left))

    pub one_batch : (n from m cut : ℕ) (filter : Option Filter) (left before following : List (UserOperation Document)) → n < length cuts → n < length filters → m ≡ n + 1 → cut ≡ get_or cuts n cut → filter ≡ get_or filters n filter → before ≡ take (cut - from) left → following ≡ drop (cut - from) left
        → left_fit n from left ≡ (filter_fits filter (batch before following) && left_fit m cut following)
    one_batch n from m cut filter left before following lt lt' next is_cut is_filter is_before is_behind =
        ap (λ fs. filters_fit fs (batches_from schema analyzer from (drop n cuts) (map operation_of left))) (drop-get_or filters n m filter lt' next is_filter)
        ∙ ap (λ cs. filters_fit (filter ∷ drop m filters) (batches_from schema analyzer from cs (map operation_of left))) (drop-get_or cuts n m cut lt next is_cut)
        ∙ ap (λ os. divided os (drop (cut - from) (map operation_of left))) (take-map operation_of (cut - from) left ∙ ap (map operation_of) (sym is_before))
        ∙ ap (λ os. divided (map operation_of before) os) (drop-map operation_of (cut - from) left ∙ ap (map operation_of) (sym is_behind))
      where
        divided : List Operation → List Operation → Bool
        divided now later = filter_fits filter (record { documents = additions now; alive = alive_after schema analyzer now later }) && filters_fit (drop m filters) (batches_from schema analyzer cut (drop m cuts) later)

    pub last_batch : (n from : ℕ) (filter : Option Filter) (left : List (UserOperation Document)) → n ≡ length cuts → length filters ≡ length cuts + 1 → filter ≡ get_or filters (length cuts) filter
        → left_fit n from left ≡ filter_fits filter (batch left [])
    last_batch n from filter left is many is_filter =
        ap (λ fs. filters_fit fs (batches_from schema analyzer from (drop n cuts) (map operation_of left))) (drop-get_or filters n (n + 1) filter (omega arith) refl (is_filter ∙ ap (λ k. get_or filters k filter) (sym is)) ∙ ap (λ fs. filter ∷ fs) (none_after filters (n + 1) (omega arith)))
        ∙ ap (λ cs. filters_fit (filter ∷ []) (batches_from schema analyzer from cs (map operation_of left))) (none_after cuts n is)
        ∙ and-true (filter_fits filter (batch left []))

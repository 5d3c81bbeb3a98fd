-- What deletes leave, one after another.
use Rattle.std.proofs.Common.{◌≡◌, ℕ, zero, suc, ◌+◌, ◌<◌, Bool, true, false, List, [], ◌∷◌, ◌++◌, length, take, drop, min, replicate, refl, sym, ap, ◌∙◌, arith, take-append-drop, drop-drop}
use Rattle.std.specs.Prelude.{◌||◌, ◌&&◌, not, Option, Some, None}
use Rattle.std.specs.List.{list_any, slice_get}
use Rattle.std.proofs.lemmas.List.{drop_min, drop_all}
use Rattle.std.proofs.lemmas.List.FromFn.{length-map-range_with_len}
use Rattle.std.proofs.lemmas.List.Folds.{list_any-append}
use Rattle.std.proofs.lemmas.Option.{none-some, same_Some}
use Rattle.seg_model.specs.Postings.{is_member}
use Rattle.seg_batches.specs.DeletedDocuments.{is_deleted}
use Rattle.seg_batches.specs.declared.doc_opstamp_mapping.DocToOpstampMapping.{DocToOpstampMapping}
use Rattle.seg_batches.specs.declared.operation.DeleteOperation.{DeleteOperation}
use Rattle.seg_batches.specs.AppliedDeletes.{IsTold, removes, is_left_by, left_by, named_below, staying}
use Rattle.seg_batches.proofs.DroppedNumbers.{passes}
use Rattle.seg_batches.proofs.NamedDocuments.{is_among}
use Rattle.seg_batches.proofs.StayingMembers.{staying_alike, staying_all, staying_full, staying_twice}

-- the first that is left, where there is one
pub first_left : {X : Type 0} (xs : List X) (i : ℕ) (x : X) → slice_get xs i ≡ Some x → x ∷ [] ≡ take 1 (drop i xs)
first_left [] i x is = absurd (none-some x is)
first_left (y ∷ ys) zero x is = ap (λ z. z ∷ []) (sym (same_Some y x is))
first_left (y ∷ ys) (suc i) x is = first_left ys i x is

not_or : (a b : Bool) → (not a && not b) ≡ not (a || b)
not_or true b = refl
not_or false b = refl

module _ {T : Type 0} (names : T → ℕ → Bool) (mapping : DocToOpstampMapping) where
  -- no delete removes nothing
  pub left_by_none : (operations : List (DeleteOperation T)) (s : List Bool) → operations ≡ []
      → staying (is_left_by names mapping operations) s ≡ s
  left_by_none operations s none =
      ap (λ os. staying (is_left_by names mapping os) s) none ∙ staying_all (λ i. true) s (λ i lt. refl)

  -- some deletes, and then others
  left_by_more : (first second : List (DeleteOperation T)) (s : List Bool)
      → staying (is_left_by names mapping second) (staying (is_left_by names mapping first) s) ≡ staying (is_left_by names mapping (first ++ second)) s
  left_by_more first second =
      staying_twice (is_left_by names mapping first) (is_left_by names mapping second) (is_left_by names mapping (first ++ second))
      (λ i. not_or (list_any (removes names mapping i) first) (list_any (removes names mapping i) second) ∙ ap not (sym (list_any-append (removes names mapping i) first second)))

  -- the one at a place, and then those after it
  pub left_by_next : (operations : List (DeleteOperation T)) (at next : ℕ) (s : List Bool)
      → next ≡ min (at + 1) (length operations)
      → staying (is_left_by names mapping (drop next operations)) (staying (is_left_by names mapping (take 1 (drop at operations))) s) ≡ staying (is_left_by names mapping (drop at operations)) s
  left_by_next operations at next s moved =
      let later : drop next operations ≡ drop 1 (drop at operations) = ap (λ k. drop k operations) moved ∙ drop_min (at + 1) operations ∙ sym (drop-drop 1 at operations) in
      ap (λ os. staying (is_left_by names mapping os) (staying (is_left_by names mapping (take 1 (drop at operations))) s)) later
      ∙ left_by_more (take 1 (drop at operations)) (drop 1 (drop at operations)) s
      ∙ ap (λ os. staying (is_left_by names mapping os) s) (take-append-drop 1 (drop at operations))

  -- of all documents they leave what they leave
  pub left_of_all : (documents : ℕ) (operations : List (DeleteOperation T)) (full left : List Bool)
      → full ≡ replicate documents true → left ≡ staying (is_left_by names mapping operations) full
      → left ≡ left_by names mapping documents operations
  left_of_all documents operations full left all is =
      is ∙ ap (staying (is_left_by names mapping operations)) all ∙ staying_full documents (is_left_by names mapping operations)

  one_of_one : (d b : Bool) → not (d && b) ≡ not ((d && b) || false)
  one_of_one false b = refl
  one_of_one true true = refl
  one_of_one true false = refl

  -- the documents that a delete's target names are those that it removes
  pub left_by_named : (operation : DeleteOperation T) (documents : ℕ) (ids : List ℕ) (s : List Bool)
      → length s ≡ documents → ids ≡ named_below documents (names operation.target)
      → staying (passes (λ i. is_deleted mapping i operation.opstamp) ids) s ≡ staying (is_left_by names mapping (operation ∷ [])) s
  left_by_named operation documents ids s size are =
      staying_alike (passes (λ i. is_deleted mapping i operation.opstamp) ids) (is_left_by names mapping (operation ∷ [])) s (λ i lt.
      let among = ap (is_member i) are ∙ is_among (names operation.target) 0 documents i (omega arith) (omega (arith, size, lt)) in
      ap (λ b. not (is_deleted mapping i operation.opstamp && b)) among ∙ one_of_one (is_deleted mapping i operation.opstamp) (names operation.target i))

  -- at the end nothing is left to apply
  pub left_by_last : (operations : List (DeleteOperation T)) (at : ℕ) (s : List Bool)
      → (at < length operations → ⊥)
      → staying (is_left_by names mapping (take 1 (drop at operations))) s ≡ staying (is_left_by names mapping (drop at operations)) s
  left_by_last operations at s end =
      let none : drop at operations ≡ [] = drop_all at operations (omega (arith, end)) in
      ap (λ (os : List (DeleteOperation T)). staying (is_left_by names mapping (take 1 os)) s) none ∙ ap (λ (os : List (DeleteOperation T)). staying (is_left_by names mapping os) s) (sym none)

  -- what is told of the set that they leave is told of what they leave
  pub left_told : (documents n : ℕ) (operations : List (DeleteOperation T)) (full set : List Bool) (told : Option (List Bool))
      → n ≡ documents → full ≡ replicate n true → set ≡ staying (is_left_by names mapping operations) full
      → IsTold (length set) set told → IsTold documents (left_by names mapping documents operations) told
  left_told documents n operations full set None number all is h =
      let same = left_of_all documents operations full set (all ∙ ap (λ k. replicate k true) number) is in
      sym same ∙ h ∙ ap (λ k. replicate k true) (ap length same ∙ length-map-range_with_len (is_left_by names mapping operations) 0 documents)
  left_told documents n operations full set (Some alive) number all is h =
      let same = left_of_all documents operations full set (all ∙ ap (λ k. replicate k true) number) is in
      (h.0 ∙ same, h.1)

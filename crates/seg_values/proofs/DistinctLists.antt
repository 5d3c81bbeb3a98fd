-- Lists without two items alike, which grow item by item.
use Rattle.std.proofs.Common.{◌≡◌, List, [], ◌∷◌, ◌++◌, Bool, true, false, not, ◌&&◌, ◌||◌, refl, sym}
use Rattle.std.specs.List.{list_any}
use Rattle.std.proofs.lemmas.List.Folds.{list_any-append}
use Rattle.seg_values.specs.DistinctLists.{all_distinct}

fresh : (a b c d e : Bool) → (not a && d) ≡ true → (b || e) ≡ false → (d ≡ true → e ≡ false → c ≡ true) → (not (a || (b || false)) && c) ≡ true
fresh true b c d e h k r = h
fresh false true c d e h k r = sym k
fresh false false c d e h k r = r h k

again : (a b r c e : Bool) → (b || e) ≡ true → (e ≡ true → c ≡ false) → (not (a || (b || r)) && c) ≡ false
again true b r c e h f = refl
again false true r c e h f = refl
again false false true c e h f = refl
again false false false c e h f = f h

module _ {A : Type 0} (alike : A → A → Bool) (both_ways : (x y : A) → alike x y ≡ alike y x) where
  -- an item unlike all keeps them distinct
  pub all_distinct-push : (xs : List A) (y : A) → all_distinct alike xs ≡ true → list_any (λ x. alike x y) xs ≡ false → all_distinct alike (xs ++ y ∷ []) ≡ true
  all_distinct-push [] y h k = refl
  all_distinct-push (x ∷ xs) y h k =
      rw (list_any-append (λ o. alike o x) xs (y ∷ []), both_ways y x)
      (fresh (list_any (λ o. alike o x) xs) (alike x y) (all_distinct alike (xs ++ y ∷ [])) (all_distinct alike xs) (list_any (λ o. alike o y) xs) h k (all_distinct-push xs y))

  -- an item like one that is there doesn't, whatever follows
  pub all_distinct-again : (xs : List A) (y : A) (rest : List A) → list_any (λ x. alike x y) xs ≡ true → all_distinct alike (xs ++ y ∷ rest) ≡ false
  all_distinct-again [] y rest h = cc
  all_distinct-again (x ∷ xs) y rest h =
      rw (list_any-append (λ o. alike o x) xs (y ∷ rest), both_ways y x)
      (again (list_any (λ o. alike o x) xs) (alike x y) (list_any (λ o. alike o x) rest) (all_distinct alike (xs ++ y ∷ rest)) (list_any (λ o. alike o y) xs) h (all_distinct-again xs y rest))

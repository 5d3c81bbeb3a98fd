-- The ranges of the terms of a dictionary.
use Rattle.std.proofs.Common.{◌≡◌, ℕ, zero, suc, ◌+◌, ◌<◌, ◌≤◌, List, None, sym, arith, subst}
use Rattle.std.specs.List.{AllByRecursion}
use Rattle.seg_termdict.specs.Dictionary.{AreInfos, postings_start, positions_start, info_of, term_of, terms_in, count_of, ends_of, keys_of, infos_of, IsDictionary, terms_of}
use Rattle.seg_termdict.specs.DictionaryBuilders.{last_term, postings_end, positions_end}
use Rattle.seg_termdict.proofs.Exports.{last_term-terms_in, terms_in-more}
use Rattle.seg_postings.specs.FieldParts.{LiesWithin}
use Rattle.seg_postings.proofs.GrownTerms.{within-more, within-push}

module _ (ends keys infos : List ℕ) where
  rises : (n : ℕ) → ((i : ℕ) → i < n → postings_start infos i ≤ postings_start infos (i + 1)) → ((i : ℕ) → i < n → positions_start infos i ≤ positions_start infos (i + 1))
      → AllByRecursion (LiesWithin (postings_start infos n) (positions_start infos n)) (terms_in ends keys infos n)
  unfolding info_of terms_in
  rises zero p q = tt
  rises (suc n) p q =
      let before = rises n (λ i h. p i (omega (arith, h))) (λ i h. q i (omega (arith, h))) in
      let more : suc n ≡ n + 1 = omega arith in
      let here = p n (omega arith) in
      let positions_here = q n (omega arith) in
      subst (λ k. AllByRecursion (LiesWithin (postings_start infos k) (positions_start infos k)) (terms_in ends keys infos k)) (sym more)
      (subst (λ ts. AllByRecursion (LiesWithin (postings_start infos (n + 1)) (positions_start infos (n + 1))) ts) (sym (terms_in-more ends keys infos n))
      (within-push (postings_start infos (n + 1)) (positions_start infos (n + 1)) (terms_in ends keys infos n) (term_of ends keys infos n)
      (within-more (postings_start infos n) (positions_start infos n) (postings_start infos (n + 1)) (positions_start infos (n + 1)) (terms_in ends keys infos n) here positions_here before)
      (here, omega arith, positions_here, omega arith)))

  last_ends : (n : ℕ) → AreInfos infos n → AllByRecursion (LiesWithin (postings_end (last_term None (terms_in ends keys infos n))) (positions_end (last_term None (terms_in ends keys infos n)))) (terms_in ends keys infos n)
  unfolding info_of terms_in
  last_ends zero are = tt
  last_ends (suc n) are =
      let more : suc n ≡ n + 1 = omega arith in
      subst (λ o. AllByRecursion (LiesWithin (postings_end o) (positions_end o)) (terms_in ends keys infos (suc n))) (sym (last_term-terms_in ends keys infos n))
      (subst (λ k. AllByRecursion (LiesWithin (postings_start infos k) (positions_start infos k)) (terms_in ends keys infos (suc n))) more
      (rises (suc n) are.postings are.positions))

-- the terms of a dictionary lie before where the last of them ends
pub terms_within : (bytes : List ℕ) → IsDictionary bytes → AllByRecursion (LiesWithin (postings_end (last_term None (terms_of bytes))) (positions_end (last_term None (terms_of bytes)))) (terms_of bytes)
unfolding terms_of
terms_within bytes is = last_ends (ends_of bytes) (keys_of bytes) (infos_of bytes) (count_of bytes) is.infos

-- Ranges that follow on one another: where they begin and end, and how long they are together.
use Rattle.std.proofs.Common.{◌≡◌, ℕ, zero, suc, ◌+◌, ◌-◌, ◌<◌, ◌≤◌, List, [], ◌∷◌, length, map, take, drop, get_or, refl, sym, ap, subst, ◌∙◌, arith, length-drop, get_or-drop}
use Rattle.std.specs.List.{range_with_len, sum_by}
use Rattle.std.proofs.lemmas.List.Sums.{sum_by-cons}
use Rattle.seg_termdict.specs.Dictionary.{Term, AreInfos, postings_start, positions_start, info_of, term_of, terms_in, count_of, ends_of, keys_of, infos_of, IsDictionary, terms_of}
use Rattle.seg_postings.specs.AdjacentRanges.{Follow, RangesFollow}

module _ (begin end : Term → ℕ) where
  abbrev long : Term → ℕ
  long t = end t - begin t

  follow-drop : (n : ℕ) (ts : List Term) (at : ℕ) (d : Term) → n < length ts → Follow begin end at ts → Follow begin end (begin (get_or ts n d)) (drop n ts)
  follow-drop n [] at d lt follow = absurd (omega (arith, lt))
  follow-drop zero (t ∷ ts) at d lt follow = (refl, (let is = follow.0 in let le = follow.1 in omega (arith, is, le)), follow.2)
  follow-drop (suc n) (t ∷ ts) at d lt follow = follow-drop n ts (end t) d (omega (arith, lt)) follow.2

  long_together : (k : ℕ) (ts : List Term) (at : ℕ) (d : Term) → k < length ts → Follow begin end at ts → at + sum_by long (take (suc k) ts) ≡ end (get_or ts k d)
  long_together k [] at d lt follow = absurd (omega (arith, lt))
  long_together zero (t ∷ ts) at d lt follow = let one = sum_by-cons long t [] in let is = follow.0 in let le = follow.1 in omega (arith, one, is, le)
  long_together (suc k) (t ∷ ts) at d lt follow =
      let more = long_together k ts (end t) d (omega (arith, lt)) follow.2 in
      let one = sum_by-cons long t (take (suc k) ts) in
      let is = follow.0 in
      let le = follow.1 in
      omega (arith, more, one, is, le)

  -- those of the terms between two places
  pub between_places : (ts : List Term) (from to at : ℕ) (d : Term) → from < to → to ≤ length ts → Follow begin end at ts → begin (get_or ts from d) + sum_by long (take (to - from) (drop from ts)) ≡ end (get_or ts (to - 1) d)
  between_places ts from to at d lt le follow =
      let k : ℕ = to - from - 1 in
      let more : suc k ≡ to - from = omega (arith, lt) in
      let place : from + k ≡ to - 1 = omega (arith, lt) in
      ap (λ (n : ℕ). begin (get_or ts from d) + sum_by long (take n (drop from ts))) (sym more)
      ∙ long_together k (drop from ts) (begin (get_or ts from d)) d (omega (arith, length-drop from ts, lt, le)) (follow-drop from ts at d (omega (arith, lt, le)) follow)
      ∙ ap end (get_or-drop from ts k d)
      ∙ ap (λ (n : ℕ). end (get_or ts n d)) place

-- ---- the ranges of a dictionary

module _ (ends keys infos : List ℕ) (begin end : Term → ℕ) (start : ℕ → ℕ) (begins : (i : ℕ) → begin (term_of ends keys infos i) ≡ start i) (ends_at : (i : ℕ) → end (term_of ends keys infos i) ≡ start (i + 1)) (count : ℕ) (rise : (i : ℕ) → i < count → start i ≤ start (i + 1)) where
  follow_from : (from n : ℕ) → from + n ≤ count → Follow begin end (start from) (map (term_of ends keys infos) (range_with_len from n))
  follow_from from zero le = tt
  follow_from from (suc n) le = (
    begins from,
    (let lt : from < count = omega (arith, le) in let up : start from ≤ start (from + 1) = rise from lt in let is = ends_at from in omega (arith, up, is)),
    subst (λ (at : ℕ). Follow begin end at (map (term_of ends keys infos) (range_with_len (from + 1) n))) (sym (ends_at from)) (follow_from (from + 1) n (omega (arith, le))),
  )

  follow_all : (0 < count → start 0 ≡ 0) → (n : ℕ) → n ≡ count → Follow begin end 0 (map (term_of ends keys infos) (range_with_len 0 n))
  follow_all first zero is = tt
  follow_all first (suc n) is = subst (λ (at : ℕ). Follow begin end at (map (term_of ends keys infos) (range_with_len 0 (suc n)))) (first (omega (arith, is))) (follow_from 0 (suc n) (omega (arith, is)))

module _ (ends keys infos : List ℕ) (count : ℕ) (are : AreInfos infos count) where
  postings_follow : Follow (λ t. t.1.postings_start) (λ t. t.1.postings_end) 0 (terms_in ends keys infos count)
  unfolding info_of terms_in
  postings_follow = follow_all ends keys infos (λ t. t.1.postings_start) (λ t. t.1.postings_end) (postings_start infos) (λ i. refl) (λ i. refl) count are.postings are.first_postings count refl

  positions_follow : Follow (λ t. t.1.positions_start) (λ t. t.1.positions_end) 0 (terms_in ends keys infos count)
  unfolding info_of terms_in
  positions_follow = follow_all ends keys infos (λ t. t.1.positions_start) (λ t. t.1.positions_end) (positions_start infos) (λ i. refl) (λ i. refl) count are.positions are.first_positions count refl

pub ranges_follow : (bytes : List ℕ) → IsDictionary bytes → RangesFollow (terms_of bytes)
unfolding terms_of
ranges_follow bytes is = record {
  postings = postings_follow (ends_of bytes) (keys_of bytes) (infos_of bytes) (count_of bytes) is.infos;
  positions = positions_follow (ends_of bytes) (keys_of bytes) (infos_of bytes) (count_of bytes) is.infos;
}

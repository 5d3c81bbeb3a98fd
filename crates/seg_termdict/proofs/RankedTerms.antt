-- The terms of a dictionary with their ordinals, and those between two places.
use Rattle.std.proofs.Common.{◌≡◌, ℕ, zero, suc, ◌+◌, ◌-◌, ◌<◌, ◌≤◌, Bool, true, false, T, ◌&&◌, List, [], ◌∷◌, map, length, take, drop, get_or, refl, sym, ap, subst, ◌∙◌, arith, add-one, IsSomeAnd, slice_get, slice_range}
use Rattle.std.specs.Prelude.{filter, not}
use Rattle.std.specs.FinMap.{is_sorted, entries-from_sorted}
use Rattle.std.specs.List.{enumerate_from}
use Rattle.std.specs.List.Sorted.{IsStrictlySortedBy}
use Rattle.std.specs.Ordering.{nat_cmp}
use Rattle.std.specs.Cmp.Lexicographic.{slice_cmp}
use Rattle.std.proofs.lemmas.Bool.{cond-true, cond-false, not-true, not-false}
use Rattle.std.proofs.lemmas.List.{length-map, length-take-le, length-drop, length-reverse, get_or-map, get_or-take, get_or-drop, get_or-reverse, drop_all, take_all}
use Rattle.std.proofs.lemmas.List.FromFn.{length-enumerate_from, get_or-enumerate_from}
use Rattle.std.proofs.lemmas.Option.{slice_get-get_or}
use Rattle.seg_common.specs.declared.term_info.TermInfo.{TermInfo}
use Rattle.seg_values.proofs.Exports.{is_sorted-rising}
use Rattle.seg_termdict.specs.SortedTerms.{TermRange, RankedTerm, is_from, is_up_to, is_within, ranked, in_direction, streamed}
use Rattle.seg_termdict.specs.Dictionary.{Term}
use Rattle.seg_termdict.specs.LookUps.{HasKeyAt}
use Rattle.seg_termdict.specs.TermStreams.{ranked_terms, no_term, no_ranked, current}
use Rattle.seg_termdict.specs.TermRanges.{sorted_terms, key_at, IsCut, between, place_of}

-- a term with its ordinal
abbrev pub ranked_of : ℕ × Term → RankedTerm TermInfo
ranked_of t = record { ord = t.0; key = t.1.0; info = t.1.1 }

pub ranked_length : (terms : List Term) → length (ranked_terms terms) ≡ length terms
ranked_length terms = length-map (enumerate_from 0 terms) ranked_of ∙ length-enumerate_from 0 terms

pub ranked_at : (terms : List Term) (i : ℕ) → i < length terms → get_or (ranked_terms terms) i no_ranked ≡ ranked_of (i, get_or terms i no_term)
ranked_at terms i lt =
    let z : 0 + i ≡ i = omega arith in
    get_or-map ranked_of (enumerate_from 0 terms) i (0, no_term) no_ranked (omega (arith, lt, length-enumerate_from 0 terms))
    ∙ ap ranked_of (get_or-enumerate_from 0 terms i (0, no_term) lt)
    ∙ ap (λ (k : ℕ). ranked_of (k, get_or terms i no_term)) z

-- ---- the terms between two places

module _ (terms : List Term) (start end : ℕ) (within : end ≤ length terms) where
  part : List (RankedTerm TermInfo)
  part = slice_range (ranked_terms terms) start end

  part_length : start ≤ end → length part ≡ end - start
  unfolding part
  part_length le = length-take-le (end - start) (drop start (ranked_terms terms)) (omega (arith, within, length-drop start (ranked_terms terms), ranked_length terms))

  part_at : (n : ℕ) → start + n < end → get_or part n no_ranked ≡ ranked_of (start + n, get_or terms (start + n) no_term)
  unfolding part
  part_at n lt = get_or-take (end - start) (drop start (ranked_terms terms)) n no_ranked (omega (arith, lt)) ∙ get_or-drop start (ranked_terms terms) n no_ranked ∙ ranked_at terms (start + n) (omega (arith, lt, within))

  pub between_length : (backward : Bool) → start ≤ end → length (between backward terms start end) ≡ end - start
  unfolding part
  between_length false le = part_length le
  between_length true le = length-reverse part ∙ part_length le

  pub between_at : (backward : Bool) (n : ℕ) → start + n < end → get_or (between backward terms start end) n no_ranked ≡ ranked_of (place_of backward start end n, get_or terms (place_of backward start end n) no_term)
  unfolding part
  between_at false n lt = part_at n lt
  between_at true n lt =
      let len : length part ≡ end - start = part_length (omega (arith, lt)) in
      let k : ℕ = length part - 1 - n in
      let e : start + k ≡ end - 1 - n = omega (arith, len, lt) in
      get_or-reverse part n no_ranked (omega (arith, len, lt))
      ∙ part_at k (omega (arith, len, lt))
      ∙ ap (λ (i : ℕ). ranked_of (i, get_or terms i no_term)) e

  -- the term that a streamer has come to
  pub comes_to : (backward : Bool) (n : ℕ) → start + n < end → current (record { terms = between backward terms start end; backward = backward; taken = n + 1 }) ≡ ranked_of (place_of backward start end n, get_or terms (place_of backward start end n) no_term)
  comes_to backward n lt = ap (λ (k : ℕ). get_or (no_ranked ∷ between backward terms start end) k no_ranked) (add-one n) ∙ between_at backward n lt

  pub stands_at : (backward : Bool) (taken : ℕ) → 0 < taken → start + taken ≤ end → current (record { terms = between backward terms start end; backward = backward; taken = taken }) ≡ ranked_of (place_of backward start end (taken - 1), get_or terms (place_of backward start end (taken - 1)) no_term)
  stands_at backward taken pos le =
      let e : taken ≡ taken - 1 + 1 = omega (arith, pos) in
      ap (λ (k : ℕ). current (record { terms = between backward terms start end; backward = backward; taken = k })) e ∙ comes_to backward (taken - 1) (omega (arith, pos, le))

-- from the first to the last are all
pub all_between : (terms : List Term) (n : ℕ) → n ≡ length terms → between false terms 0 n ≡ ranked_terms terms
all_between terms n is =
    let e : n - 0 ≡ n = omega arith in
    ap (λ (k : ℕ). take k (ranked_terms terms)) e ∙ take_all n (ranked_terms terms) (omega (arith, is, ranked_length terms))

-- what is at a place
pub info_there : (terms : List Term) (i : ℕ) (info : TermInfo) → i < length terms → IsSomeAnd (slice_get terms i) (λ t. t.1 ≡ info) → (get_or terms i no_term).1 ≡ info
info_there terms i info lt h = subst (λ o. IsSomeAnd o (λ (t : Term). t.1 ≡ info)) (slice_get-get_or terms i no_term lt) h

pub key_there : (terms : List Term) (i : ℕ) (key : List ℕ) → i < length terms → HasKeyAt terms i key → (get_or terms i no_term).0 ≡ key
key_there terms i key lt h = subst (λ o. IsSomeAnd o (λ (t : Term). t.0 ≡ key)) (slice_get-get_or terms i no_term lt) h

-- ---- a range

pub ranked_is : (terms : List Term) → IsStrictlySortedBy (slice_cmp nat_cmp) (map (λ (t : Term). t.0) terms) → ranked_terms terms ≡ ranked (sorted_terms terms)
ranked_is terms rise =
    let sorted : T (is_sorted (slice_cmp nat_cmp) terms) = subst T (sym (is_sorted-rising terms rise)) tt in
    ap ranked_terms (sym (entries-from_sorted (slice_cmp nat_cmp) terms sorted))

-- a test that holds from one place up to another keeps what is between them
pub filter_between : {X : Type 0} (p : X → Bool) (xs : List X) (d : X) (start end : ℕ)
    → ((i : ℕ) → i < length xs → i < start → p (get_or xs i d) ≡ false)
    → ((i : ℕ) → i < length xs → end ≤ i → p (get_or xs i d) ≡ false)
    → ((i : ℕ) → i < length xs → start ≤ i → i < end → p (get_or xs i d) ≡ true)
    → take (end - start) (drop start xs) ≡ filter p xs
filter_between p [] d start end low high mid = ap (take (end - start)) (drop_all start [] (omega arith)) ∙ take_all (end - start) [] (omega arith)
filter_between p (x ∷ xs) d zero zero low high mid =
    filter_between p xs d zero zero (λ i lt h. absurd (omega (arith, h))) (λ i lt h. high (suc i) (omega (arith, lt)) (omega arith)) (λ i lt h k. absurd (omega (arith, k)))
    ∙ sym (cond-false (p x) (x ∷ filter p xs) (filter p xs) (high 0 (omega arith) (omega arith)))
filter_between p (x ∷ xs) d zero (suc end) low high mid =
    let e : suc end - 0 ≡ suc end = omega arith in
    let f : end ≡ end - 0 = omega arith in
    let rest : take (end - 0) xs ≡ filter p xs = filter_between p xs d zero end (λ i lt h. absurd (omega (arith, h))) (λ i lt h. high (suc i) (omega (arith, lt)) (omega (arith, h))) (λ i lt h k. mid (suc i) (omega (arith, lt)) (omega arith) (omega (arith, k))) in
    ap (λ (n : ℕ). take n (x ∷ xs)) e ∙ ap (λ (n : ℕ). x ∷ take n xs) f ∙ ap (λ ys. x ∷ ys) rest
    ∙ sym (cond-true (p x) (x ∷ filter p xs) (filter p xs) (mid 0 (omega arith) (omega arith) (omega arith)))
filter_between p (x ∷ xs) d (suc start) end low high mid =
    let e : end - suc start ≡ end - 1 - start = omega arith in
    ap (λ (n : ℕ). take n (drop start xs)) e
    ∙ filter_between p xs d start (end - 1) (λ i lt h. low (suc i) (omega (arith, lt)) (omega (arith, h))) (λ i lt h. high (suc i) (omega (arith, lt)) (omega (arith, h))) (λ i lt h k. mid (suc i) (omega (arith, lt)) (omega (arith, h)) (omega (arith, k)))
    ∙ sym (cond-false (p x) (x ∷ filter p xs) (filter p xs) (low 0 (omega arith) (omega arith)))

and_false : (a b : Bool) → b ≡ false → ((a && b) && true) ≡ false
and_false true b h = ap (λ x. x && true) h
and_false false b h = refl

-- between where its lower and its upper bound are, a dictionary has what the range gives
module _ (terms : List Term) (range : TermRange) (start end : ℕ) (low : IsCut terms (λ key. not (is_from range.lower key)) start) (high : IsCut terms (is_up_to range.upper) end) where
  kept : RankedTerm TermInfo → Bool
  kept t = is_within range t.key && true

  kept_at : (i : ℕ) → i < length terms → kept (get_or (ranked_terms terms) i no_ranked) ≡ ((is_from range.lower (key_at terms i) && is_up_to range.upper (key_at terms i)) && true)
  unfolding kept
  kept_at i lt = ap kept (ranked_at terms i lt)

  all_kept : take (end - start) (drop start (ranked_terms terms)) ≡ filter kept (ranked_terms terms)
  all_kept =
      filter_between kept (ranked_terms terms) no_ranked start end
      (λ i lt h.
      let l : i < length terms = omega (arith, lt, ranked_length terms) in
      kept_at i l ∙ ap (λ b. (b && is_up_to range.upper (key_at terms i)) && true) (not-true _ (low.before i h)))
      (λ i lt h.
      let l : i < length terms = omega (arith, lt, ranked_length terms) in
      kept_at i l ∙ and_false (is_from range.lower (key_at terms i)) _ (high.behind i h l))
      (λ i lt h k.
      let l : i < length terms = omega (arith, lt, ranked_length terms) in
      kept_at i l ∙ ap (λ b. (b && is_up_to range.upper (key_at terms i)) && true) (not-false _ (low.behind i h l)) ∙ ap (λ b. b && true) (high.before i k))

  pub streamed_between : IsStrictlySortedBy (slice_cmp nat_cmp) (map (λ (t : Term). t.0) terms) → (last : ℕ) → last - start ≡ end - start → between range.backward terms start last ≡ streamed range (sorted_terms terms)
  unfolding kept
  streamed_between rise last e =
      ap (in_direction range.backward) (ap (λ (n : ℕ). take n (drop start (ranked_terms terms))) e ∙ all_kept ∙ ap (filter kept) (ranked_is terms rise))

-- Sums in 64 bits over the terms of a stream.
use Rattle.std.proofs.Common.{◌≡◌, ℕ, ◌+◌, ◌<◌, ◌≤◌, true, false, List, ◌∷◌, length, take, get_or, ap, sym, ◌∙◌, arith, add-one}
use Rattle.std.specs.Prelude.{min, nat_lt, if◌then◌else◌}
use Rattle.std.specs.List.{sum_by}
use Rattle.std.proofs.lemmas.Bool.{ltb-true, ltb-false}
use Rattle.std.proofs.lemmas.List.{take_all}
use Rattle.std.proofs.lemmas.List.Sums.{sum_by_more}
use Rattle.seg_common.specs.declared.term_info.TermInfo.{TermInfo}
use Rattle.seg_termdict.specs.Dictionary.{Term}
use Rattle.seg_termdict.specs.SortedTerms.{RankedTerm}
use Rattle.seg_termdict.specs.TermStreams.{Stream, advanced, current, no_ranked, no_term, ranked_terms}
use Rattle.seg_termdict.proofs.Exports.{ranked_at, ranked_length, ranked_of}
use Rattle.seg_model.specs.SaturatedNumbers.{saturated}

-- ---- a sum that stays at a limit

once : (limit base sum size next so_far : ℕ) → so_far ≡ min (base + sum) limit → next ≡ min (so_far + size) limit → next ≡ min (base + (sum + size)) limit
once limit base sum size next so_far is next_is = omega (arith, is, next_is)

twice : (limit base sum size more first next so_far : ℕ) → so_far ≡ min (base + sum) limit → first ≡ min (so_far + size) limit → next ≡ min (first + more) limit
    → next ≡ min (base + (sum + (size + more))) limit
twice limit base sum size more first next so_far is first_is next_is = omega (arith, is, first_is, next_is)

pub from_zero : (n : ℕ) → saturated (0 + n) ≡ saturated n
from_zero n = let e : 0 + n ≡ n = omega arith in ap (λ (k : ℕ). saturated k) e

-- ---- the terms

abbrev one_further : Stream → Stream
one_further s = record { terms = s.terms; backward = s.backward; taken = s.taken + 1 }

module _ (terms : List Term) (s : Stream) (of : s.terms ≡ ranked_terms terms) where
  as_many : length s.terms ≡ length terms
  as_many = ap length of ∙ ranked_length terms

  pub at_end : (f : Term → ℕ) → nat_lt s.taken (length s.terms) ≡ false → sum_by f (take s.taken terms) ≡ sum_by f terms
  at_end f none = let le : length s.terms ≤ s.taken = ltb-false _ _ none in ap (sum_by f) (take_all s.taken terms (omega (arith, le, as_many)))

  module _ (after : Stream) (more : nat_lt s.taken (length s.terms) ≡ true) (is : after ≡ advanced s) where
    further : after ≡ one_further s
    further = is ∙ ap (λ b. if b then one_further s else s) more

    pub still_of : after.terms ≡ ranked_terms terms
    still_of = ap (λ (x : Stream). x.terms) further ∙ of

    within : s.taken < length terms
    within = let lt : s.taken < length s.terms = ltb-true _ _ more in omega (arith, lt, as_many)

    come_to : current after ≡ ranked_of (s.taken, get_or terms s.taken no_term)
    come_to =
        ap current further
        ∙ ap (λ k. get_or (no_ranked ∷ s.terms) k no_ranked) (add-one s.taken)
        ∙ ap (λ ts. get_or ts s.taken no_ranked) of
        ∙ ranked_at terms s.taken within

    sum_more : (f : Term → ℕ) → sum_by f (take after.taken terms) ≡ sum_by f (take s.taken terms) + f (get_or terms s.taken no_term)
    sum_more f = ap (λ (x : Stream). sum_by f (take x.taken terms)) further ∙ sum_by_more f terms s.taken no_term within

    -- a range of the term, where it is added to those of the terms before
    pub range_more : (range : TermInfo → ℕ) (info : TermInfo) → info ≡ (current after).info → (base so_far next : ℕ)
        → so_far ≡ saturated (base + sum_by (λ (t : Term). range t.1) (take s.taken terms)) → next ≡ saturated (so_far + range info)
        → next ≡ saturated (base + sum_by (λ (t : Term). range t.1) (take after.taken terms))
    range_more range info info_is base so_far next so next_is =
        let here : range info ≡ range (get_or terms s.taken no_term).1 = ap range (info_is ∙ ap (λ (t : RankedTerm TermInfo). t.info) come_to) in
        once _ base (sum_by (λ (t : Term). range t.1) (take s.taken terms)) (range info) next so_far so next_is
        ∙ ap (λ n. saturated (base + (sum_by (λ (t : Term). range t.1) (take s.taken terms) + n))) here
        ∙ ap (λ n. saturated (base + n)) (sym (sum_more (λ (t : Term). range t.1)))

    -- the key of the term, and what each term has beside it
    pub key_more : (key : List ℕ) → key ≡ (current after).key → (size base so_far first next : ℕ)
        → so_far ≡ saturated (base + sum_by (λ (t : Term). size + length t.0) (take s.taken terms)) → first ≡ saturated (so_far + size)
        → next ≡ saturated (first + length key)
        → next ≡ saturated (base + sum_by (λ (t : Term). size + length t.0) (take after.taken terms))
    key_more key key_is size base so_far first next so first_is next_is =
        let here : length key ≡ length (get_or terms s.taken no_term).0 = ap length (key_is ∙ ap (λ (t : RankedTerm TermInfo). t.key) come_to) in
        twice _ base (sum_by (λ (t : Term). size + length t.0) (take s.taken terms)) size (length key) first next so_far so first_is next_is
        ∙ ap (λ n. saturated (base + (sum_by (λ (t : Term). size + length t.0) (take s.taken terms) + (size + n)))) here
        ∙ ap (λ n. saturated (base + n)) (sym (sum_more (λ (t : Term). size + length t.0)))

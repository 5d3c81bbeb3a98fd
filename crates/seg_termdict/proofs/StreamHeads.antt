-- A streamer that has come to a term, as the terms from this one on, and the order of the terms that it iterates over.
use Rattle.std.proofs.Common.{◌≡◌, ℕ, zero, suc, ◌+◌, ◌-◌, ◌<◌, ◌≤◌, Bool, true, false, cond, List, [], ◌∷◌, map, length, take, drop, get_or, refl, sym, ap, subst, ◌∙◌, arith}
use Rattle.std.specs.Prelude.{nat_lt}
use Rattle.std.specs.List.{AllByRecursion, enumerate_from}
use Rattle.std.specs.List.Sorted.{IsStrictlySortedBy}
use Rattle.std.specs.declared.cmp.Ordering.TheVariants.{Less}
use Rattle.std.proofs.lemmas.Bool.{lt-ltb, ltb-true, false≢true, cond-true}
use Rattle.std.proofs.lemmas.List.{length-drop, drop_more, drop_all}
use Rattle.seg_common.specs.declared.term_info.TermInfo.{TermInfo}
use Rattle.seg_termdict.specs.SortedTerms.{RankedTerm, key_cmp}
use Rattle.seg_termdict.specs.MergedTerms.{keys_in}
use Rattle.seg_termdict.specs.Dictionary.{Term}
use Rattle.seg_termdict.specs.TermStreams.{Stream, ranked_terms, no_ranked, current, advanced}
use Rattle.seg_termdict.specs.TermRanges.{between}
use Rattle.seg_termdict.specs.MergedStreams.{Ascends}
use Rattle.seg_termdict.proofs.RankedTerms.{ranked_of}

-- the terms from the one on that a streamer has come to
abbrev pub from_current : Stream → List (RankedTerm TermInfo)
from_current s = drop (s.taken - 1) s.terms

-- a streamer that has come to a term
abbrev pub HasTerm : Stream → Type 0
HasTerm s = (0 < s.taken) × (s.taken ≤ length s.terms)

pub head_is : (s : Stream) → HasTerm s → from_current s ≡ current s ∷ drop s.taken s.terms
head_is s h =
    let lt : s.taken - 1 < length s.terms = omega (arith, h.0, h.1) in
    let e : s.taken - 1 + 1 ≡ s.taken = omega (arith, h.0) in
    let f : s.taken ≡ suc (s.taken - 1) = omega (arith, h.0) in
    let c : current s ≡ get_or s.terms (s.taken - 1) no_ranked = ap (λ (k : ℕ). get_or (no_ranked ∷ s.terms) k no_ranked) f in
    drop_more s.terms (s.taken - 1) no_ranked lt
    ∙ ap (λ t. t ∷ drop (s.taken - 1 + 1) s.terms) (sym c)
    ∙ ap (λ (k : ℕ). current s ∷ drop k s.terms) e

-- and how it is seen
pub seen_as : (s : Stream) (stands : Bool) (view : List (RankedTerm TermInfo)) → (stands ≡ true → HasTerm s) → stands ≡ true → cond stands (from_current s) [] ≡ view → current s ∷ drop s.taken s.terms ≡ view
seen_as s stands view has h is = sym (head_is s (has h)) ∙ sym (cond-true stands (from_current s) [] h) ∙ is

pub stands_is : (s : Stream) (stands : Bool) → (stands ≡ true → HasTerm s) → stands ≡ nat_lt 0 (length (cond stands (from_current s) []))
stands_is s true h =
    let has : HasTerm s = h refl in
    sym (lt-ltb 0 (length (from_current s)) (omega (arith, has.0, has.1, length-drop (s.taken - 1) s.terms)))
stands_is s false h = refl

pub stands_from : (s : Stream) (stands : Bool) → 0 < length (cond stands (from_current s) []) → stands ≡ true
stands_from s true lt = refl
stands_from s false lt = absurd (omega (arith, lt))

-- one step on
pub after_advance : (s after : Stream) (more : Bool) → more ≡ nat_lt s.taken (length s.terms) → after ≡ advanced s → cond more (from_current after) [] ≡ drop s.taken s.terms
after_advance s after true e is =
    let next : Stream = record { terms = s.terms; backward = s.backward; taken = s.taken + 1 } in
    let k : s.taken + 1 - 1 ≡ s.taken = omega arith in
    ap from_current (is ∙ cond-true (nat_lt s.taken (length s.terms)) next s (sym e)) ∙ ap (λ (n : ℕ). drop n s.terms) k
after_advance s after false e is =
    let not_below : s.taken < length s.terms → ⊥ = λ lt. false≢true (e ∙ lt-ltb s.taken (length s.terms) lt) in
    sym (drop_all s.taken s.terms (omega (arith, not_below)))

-- after a step a streamer has a term, where there was one more
pub has_after : (s after : Stream) (more : Bool) → more ≡ nat_lt s.taken (length s.terms) → after ≡ advanced s → more ≡ true → HasTerm after
has_after s after more e is there =
    let next : Stream = record { terms = s.terms; backward = s.backward; taken = s.taken + 1 } in
    let lt : s.taken < length s.terms = ltb-true s.taken (length s.terms) (sym e ∙ there) in
    subst HasTerm (sym (is ∙ cond-true (nat_lt s.taken (length s.terms)) next s (sym e ∙ there))) (omega arith, omega (arith, lt))

-- ---- order

keys_from : (n : ℕ) (terms : List Term) → map (λ (t : Term). t.0) terms ≡ keys_in (map ranked_of (enumerate_from n terms))
keys_from n [] = refl
keys_from n (t ∷ ts) = ap (λ ks. t.0 ∷ ks) (keys_from (n + 1) ts)

ascends_behind : (n : ℕ) (ts : List (RankedTerm TermInfo)) → Ascends ts → Ascends (drop n ts)
unfolding IsStrictlySortedBy
ascends_behind zero ts rise = rise
ascends_behind (suc n) [] rise = rise
ascends_behind (suc n) (t ∷ ts) rise = ascends_behind n ts rise.1

all_before : (P : List ℕ → Type 0) (n : ℕ) (ts : List (RankedTerm TermInfo)) → AllByRecursion P (keys_in ts) → AllByRecursion P (keys_in (take n ts))
all_before P zero ts all = tt
all_before P (suc n) [] all = all
all_before P (suc n) (t ∷ ts) all = (all.0, all_before P n ts all.1)

ascends_before : (n : ℕ) (ts : List (RankedTerm TermInfo)) → Ascends ts → Ascends (take n ts)
unfolding IsStrictlySortedBy
ascends_before zero ts rise = tt
ascends_before (suc n) [] rise = rise
ascends_before (suc n) (t ∷ ts) rise = (all_before (λ key. key_cmp t.key key ≡ Less) n ts rise.0, ascends_before n ts rise.1)

-- what is between two places ascends with the whole
pub between_ascends : (terms : List Term) (start end : ℕ) → IsStrictlySortedBy key_cmp (map (λ (t : Term). t.0) terms) → Ascends (between false terms start end)
between_ascends terms start end rise =
    let all : Ascends (ranked_terms terms) = subst (IsStrictlySortedBy key_cmp) (keys_from 0 terms) rise in
    ascends_before (end - start) (drop start (ranked_terms terms)) (ascends_behind start (ranked_terms terms) all)

-- The laws of sorted terms, of ranges of them, and of merged terms.
use Rattle.std.specs.Prelude.{ℕ, ◌≡◌, ◌⊎◌, ◌↔◌, List, [], Bool, not, reverse, Some}
use Rattle.std.specs.FinMap.{get}
use Rattle.std.specs.declared.cmp.Ordering.TheVariants.{Less}
use Rattle.std.specs.declared.ops.Bound.{Bound}
use Rattle.std.specs.declared.ops.Bound.TheVariants.{Included, Excluded}
use Rattle.seg_termdict.specs.SortedTerms.{SortedTerms, TermRange, RankedTerm, key_cmp, term_ord, term_at, searched}
use Rattle.seg_termdict.specs.MergedTerms.{merged_terms, standings_from, if_stands}

-- a key has an ordinal exactly where it is there
abbrev pub OrdinalsArePlaces : Type 0 → Type 0
OrdinalsArePlaces Info = (terms : SortedTerms Info) (key : List ℕ) (ord : ℕ)
    → (term_ord terms key ≡ Some ord) ↔ (term_at terms ord ≡ Some key)

-- a bound at a key
abbrev pub IsBoundAt : List ℕ → Bound (List ℕ) → Type 0
IsBoundAt key bound = (bound ≡ Included key) ⊎ (bound ≡ Excluded key)

-- a range whose upper bound is at a smaller key than its lower one gives nothing
abbrev pub ReversedBoundsGiveNone : Type 0 → Type 0
ReversedBoundsGiveNone Info =
    (terms : SortedTerms Info) (accepts : List ℕ → Bool) (range : TermRange) (low high : List ℕ)
    → IsBoundAt low range.lower → IsBoundAt high range.upper → key_cmp high low ≡ Less
    → searched range accepts terms ≡ []

-- backward, a range gives the same terms in reverse
abbrev pub BackwardIsReverse : Type 0 → Type 0
BackwardIsReverse Info = (terms : SortedTerms Info) (accepts : List ℕ → Bool) (range : TermRange)
    → searched (record range { backward = not range.backward }) accepts terms ≡ reverse (searched range accepts terms)

-- merged terms have at each key the segments that have it, in order, and nothing where none has it
abbrev pub MergedTermsAnswer : Type 0 → Type 0
MergedTermsAnswer Info = (segments : List (List (RankedTerm Info))) (key : List ℕ)
    → get (merged_terms segments) key ≡ if_stands (standings_from 0 key segments)

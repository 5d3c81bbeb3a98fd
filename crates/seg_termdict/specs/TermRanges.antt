-- Ranges of the terms of a dictionary.
use Rattle.std.specs.Prelude.{◌≡◌, ℕ, ◌+◌, ◌-◌, ◌<◌, ◌≤◌, Bool, true, false, if◌then◌else◌, List, length, get_or, slice_range}
use Rattle.std.specs.FinMap.{from_sorted}
use Rattle.std.specs.Ordering.{is_lt, is_le}
use Rattle.std.specs.declared.ops.Bound.{Bound}
use Rattle.seg_common.specs.declared.term_info.TermInfo.{TermInfo}
use Rattle.seg_termdict.specs.SortedTerms.{SortedTerms, TermRange, RankedTerm, key_cmp, in_direction, all_terms_range}
use Rattle.seg_termdict.specs.Dictionary.{Term}
use Rattle.seg_termdict.specs.TermStreams.{ranked_terms, no_term}

-- the terms of a dictionary, which strictly ascend, as a map
abbrev pub sorted_terms : List Term → SortedTerms TermInfo
sorted_terms terms = from_sorted terms

-- ---- where a range begins and ends

-- a key comes before a bound, or where the bound is passed through, at or before it
abbrev pub comes_before : Bool → List ℕ → List ℕ → Bool
comes_before false bound key = is_lt (key_cmp key bound)
comes_before true bound key = is_le (key_cmp key bound)

-- the key at a place
abbrev pub key_at : List Term → ℕ → List ℕ
key_at terms i = (get_or terms i no_term).0

-- a test of keys holds of the first terms, this many, and of no other
pub record IsCut (terms : List Term) (holds : List ℕ → Bool) (n : ℕ) : Type 0 where
  pub within : n ≤ length terms
  pub before : (i : ℕ) → i < n → holds (key_at terms i) ≡ true
  pub behind : (i : ℕ) → n ≤ i → i < length terms → holds (key_at terms i) ≡ false

-- the terms from one place up to another, in a direction
abbrev pub between : Bool → List Term → ℕ → ℕ → List (RankedTerm TermInfo)
between backward terms start end = in_direction backward (slice_range (ranked_terms terms) start end)

-- the place of the nth of them, counted from 0
abbrev pub place_of : Bool → ℕ → ℕ → ℕ → ℕ
place_of backward start end nth = if backward then end - 1 - nth else start + nth

-- ---- ranges

-- the terms of a dictionary, and the range of them that is asked for
pub record Ranged : Type 0 where
  pub terms : List Term
  pub range : TermRange

abbrev pub unbounded : List Term → Ranged
unbounded terms = record { terms = terms; range = all_terms_range }

-- a lower bound was set
abbrev pub with_lower : Bound (List ℕ) → Ranged → Ranged
with_lower bound r =
    record { terms = r.terms; range = record { lower = bound; upper = r.range.upper; backward = r.range.backward } }

-- an upper bound was set
abbrev pub with_upper : Bound (List ℕ) → Ranged → Ranged
with_upper bound r =
    record { terms = r.terms; range = record { lower = r.range.lower; upper = bound; backward = r.range.backward } }

-- terms come from the greatest on
abbrev pub turned_backward : Ranged → Ranged
turned_backward r =
    record { terms = r.terms; range = record { lower = r.range.lower; upper = r.range.upper; backward = true } }

-- Terms by ascending keys, and what is read of them: at a key, at an ordinal, within bounds, and by a test of keys.
use Rattle.std.specs.Prelude.{ℕ, List, map, filter, reverse, slice_get, position, Option, Bool, true, false, ◌&&◌}
use Rattle.std.specs.List.{enumerate_from}
use Rattle.std.specs.Ordering.{nat_cmp, is_lt, is_le}
use Rattle.std.specs.declared.cmp.Ordering.{Ordering}
use Rattle.std.specs.Cmp.Lexicographic.{slice_cmp}
use Rattle.std.specs.Str.{bytes_eq}
use Rattle.std.specs.FinMap.{FinMap, keys, values, entries}
use Rattle.std.specs.declared.ops.Bound.{Bound}
use Rattle.std.specs.declared.ops.Bound.TheVariants.{Included, Excluded, Unbounded}

-- the order of keys: that of their bytes, and a key before each that it begins
abbrev pub key_cmp : List ℕ → List ℕ → Ordering
key_cmp = slice_cmp nat_cmp

-- keys that strictly ascend, each with its info
abbrev pub SortedTerms : Type 0 → Type 0
SortedTerms Info = FinMap key_cmp Info

-- the ordinal of a key: its place among the keys
abbrev pub term_ord : {Info : Type 0} → SortedTerms Info → List ℕ → Option ℕ
term_ord terms key = position (bytes_eq key) (keys terms)

-- the key at an ordinal
abbrev pub term_at : {Info : Type 0} → SortedTerms Info → ℕ → Option (List ℕ)
term_at terms ord = slice_get (keys terms) ord

-- the info at an ordinal
abbrev pub info_at : {Info : Type 0} → SortedTerms Info → ℕ → Option Info
info_at terms ord = slice_get (values terms) ord

-- ---- ranges

-- the last lower and the last upper bound that were set, and whether terms come from the greatest on
pub record TermRange : Type 0 where
  pub lower : Bound (List ℕ)
  pub upper : Bound (List ℕ)
  pub backward : Bool

-- all terms, ascending
abbrev pub all_terms_range : TermRange
all_terms_range = record { lower = Unbounded; upper = Unbounded; backward = false }

-- whether a key is at or past a lower bound
abbrev pub is_from : Bound (List ℕ) → List ℕ → Bool
is_from (Included bound) key = is_le (key_cmp bound key)
is_from (Excluded bound) key = is_lt (key_cmp bound key)
is_from Unbounded key = true

-- whether a key is at or before an upper bound
abbrev pub is_up_to : Bound (List ℕ) → List ℕ → Bool
is_up_to (Included bound) key = is_le (key_cmp key bound)
is_up_to (Excluded bound) key = is_lt (key_cmp key bound)
is_up_to Unbounded key = true

-- whether a key lies within both bounds
abbrev pub is_within : TermRange → List ℕ → Bool
is_within range key = is_from range.lower key && is_up_to range.upper key

-- an ordinal, its key and its info
pub record RankedTerm (Info : Type 0) : Type 0 where
  pub ord : ℕ
  pub key : List ℕ
  pub info : Info

-- all terms with their ordinals
abbrev pub ranked : {Info : Type 0} → SortedTerms Info → List (RankedTerm Info)
ranked terms = map (λ t. record { ord = t.0; key = t.1.0; info = t.1.1 }) (enumerate_from 0 (entries terms))

-- forward as it is, backward in reverse
abbrev pub in_direction : {X : Type 0} → Bool → List X → List X
in_direction false xs = xs
in_direction true xs = reverse xs

-- what a search in a range gives: the terms within its bounds whose keys are accepted, in its direction
abbrev pub searched : {Info : Type 0} → TermRange → (List ℕ → Bool) → SortedTerms Info → List (RankedTerm Info)
searched {Info} range accepts terms = in_direction range.backward
    (filter (λ (t : RankedTerm Info). is_within range t.key && accepts t.key) (ranked terms))

-- what a range gives: a search that accepts every key
abbrev pub streamed : {Info : Type 0} → TermRange → SortedTerms Info → List (RankedTerm Info)
streamed range terms = searched range (λ key. true) terms

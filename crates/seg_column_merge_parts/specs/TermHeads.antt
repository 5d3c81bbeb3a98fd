-- The first terms of columns that are left: each with the place of its column, and its ordinal there.
use Rattle.std.specs.Prelude.{◌≡◌, ◌⊎◌, ℕ, ◌<◌, true, false, All, IsUtf8, List, [], ◌∷◌, ◌++◌, Option, Some, None, MatchOption, Contains, length, get_or, slice_get, ◌≤◌, ◌-◌, slice_set}
use Rattle.std.specs.Cmp.Lexicographic.{slice_cmp}
use Rattle.std.specs.List.Sorted.{IsPermutation, IsStrictlySortedBy}
use Rattle.std.specs.Ordering.{nat_cmp}
use Rattle.seg_column_merge_parts.specs.HeadHeaps.{Head}
use Rattle.seg_column_merge_parts.specs.UsedTerms.{IsNextUsed, MarkedTerms, NoneUsed, no_terms}

-- ---- heads of columns

abbrev pub column_at : List MarkedTerms → ℕ → MarkedTerms
column_at columns place = get_or columns place no_terms

-- a term of a column that is used, with its place
pub record IsHead (columns : List MarkedTerms) (h : Head) : Type 0 where
  pub place : h.1 < length columns
  pub within : h.2 < length (column_at columns h.1).terms
  pub used : get_or (column_at columns h.1).used h.2 false ≡ true
  pub is : h.0 ≡ get_or (column_at columns h.1).terms h.2 []

-- the head at an ordinal, if there is one
abbrev pub heads_at : MarkedTerms → ℕ → Option ℕ → List Head
heads_at m place None = []
heads_at m place (Some ord) = (get_or m.terms ord [], place, ord) ∷ []

-- the next head of a column was put in, from an ordinal on
pub record Advances (m : MarkedTerms) (place from : ℕ) (old new : List Head) : Type 0 where
  pub ascend : IsStrictlySortedBy (slice_cmp nat_cmp) m.terms
  pub long : length m.used ≡ length m.terms
  pub next : Option ℕ
  pub is : MatchOption next (NoneUsed m.used from (length m.used)) (IsNextUsed m.used from)
  pub moves : IsPermutation (heads_at m place next ++ old) new

-- a head of its column is there, which is the same or before it
pub record Waits (heads : List Head) (h : Head) : Type 0 where
  pub head : Head
  pub there : Contains heads head
  pub same : head.1 ≡ h.1
  pub before : head.2 ≤ h.2

-- the first heads of columns
pub record AreFirstHeads (columns : List MarkedTerms) (heads : List Head) : Type 0 where
  pub each : All (IsHead columns) heads
  pub all : (h : Head) → IsHead columns h → Waits heads h

-- ---- merged terms

abbrev pub ordinal_of : List (List ℕ) → Head → ℕ
ordinal_of ordinals h = get_or (get_or ordinals h.1 []) h.2 0

-- a term is that of some head
pub record IsTermOf (columns : List MarkedTerms) (term : List ℕ) : Type 0 where
  pub head : Head
  pub is_head : IsHead columns head
  pub is : term ≡ head.0

abbrev pub IsLast : List (List ℕ) → List ℕ → Type 0
IsLast terms term = slice_get terms (length terms - 1) ≡ Some term

-- terms with one of a column after them, if it isn't the last already
abbrev pub EndsWith : MarkedTerms → List (List ℕ) → List ℕ → List (List ℕ) → Type 0
EndsWith m old term new = ((new ≡ old) × IsLast old term)
    ⊎ ((new ≡ old ++ term ∷ []) × (IsLast old term → ⊥) × (m.texts ≡ true → IsUtf8 term))

-- this many ordinals as terms, for each column
pub record AreLong (columns : List MarkedTerms) (ordinals : List (List ℕ)) : Type 0 where
  pub many : length ordinals ≡ length columns
  pub each : (place : ℕ) → length (get_or ordinals place []) ≡ length (column_at columns place).terms

-- with a number for the head
abbrev pub with_ordinal : List (List ℕ) → Head → ℕ → List (List ℕ)
with_ordinal ordinals h ordinal = slice_set ordinals h.1 (slice_set (get_or ordinals h.1 []) h.2 ordinal)

-- the used terms of columns, each once in byte order, and the ordinals of each column's terms
pub record AreMergedTerms (columns : List MarkedTerms) (terms ordinals : List (List ℕ)) : Type 0 where
  pub ascend : IsStrictlySortedBy (slice_cmp nat_cmp) terms
  pub long : AreLong columns ordinals
  pub each : All (IsTermOf columns) terms
  pub texts : All (λ m. m.texts ≡ true) columns → All IsUtf8 terms
  pub numbered : (h : Head) → IsHead columns h → slice_get terms (ordinal_of ordinals h) ≡ Some h.0

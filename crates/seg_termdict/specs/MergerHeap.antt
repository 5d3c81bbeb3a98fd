-- The first keys of the streams of a merger, and the heap that holds them.
use Rattle.std.specs.Prelude.{◌≡◌, ℕ, ◌+◌, Bool, false, List, [], ◌∷◌, ◌++◌, sum_by}
use Rattle.std.specs.Borrow.{Bor}
use Rattle.std.specs.List.{AllByRecursion}
use Rattle.std.specs.Ordering.{nat_cmp, is_lt, ordering_then}
use Rattle.std.specs.declared.cmp.Ordering.{Ordering}
use Rattle.std.specs.declared.cmp.Reverse.{Reverse}
use Rattle.seg_common.specs.declared.term_info.TermInfo.{TermInfo}
use Rattle.seg_termdict.specs.SortedTerms.{RankedTerm, key_cmp}

-- a first key, with the number of its stream
abbrev pub Front : Type 0
Front = List ℕ × ℕ

-- whether one comes before another: by its key, then by its number
abbrev pub comes_before : Front → Front → Bool
comes_before x y = is_lt (ordering_then (key_cmp x.0 y.0) (nat_cmp x.1 y.1))

-- none comes before this one
abbrev pub IsFirstFront : Front → List Front → Type 0
IsFirstFront x fronts = AllByRecursion (λ y. comes_before y x ≡ false) fronts

-- an entry of the heap
abbrev pub Entry : Type 0
Entry = Reverse (Bor (List ℕ) × ℕ)

-- the front that an entry holds
abbrev pub front_of : Entry → Front
front_of e = (e.0.0.now, e.0.1)

-- the order of entries, in which the first front is the greatest
abbrev pub greatest_first : Entry → Entry → Ordering
greatest_first a b = ordering_then (key_cmp (front_of b).0 (front_of a).0) (nat_cmp (front_of b).1 (front_of a).1)

-- the first key of a stream, if it has a term left
abbrev pub front_at : ℕ → List (RankedTerm TermInfo) → List Front
front_at segment [] = []
front_at segment (t ∷ ts) = (t.key, segment) ∷ []

-- those of streams, of which the first has the number `segment`
abbrev pub fronts_from : ℕ → List (List (RankedTerm TermInfo)) → List Front
fronts_from segment [] = []
fronts_from segment (terms ∷ streams) = front_at segment terms ++ fronts_from (segment + 1) streams

-- fronts are those of the streams, each once, in any order: every sum over them is the same
abbrev pub AreFronts : List Front → List (List (RankedTerm TermInfo)) → Type 0
AreFronts fronts streams = (f : Front → ℕ) → sum_by f fronts ≡ sum_by f (fronts_from 0 streams)

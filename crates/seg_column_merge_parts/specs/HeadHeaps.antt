-- Heads of sorted lists, and the heap that holds them.
use Rattle.std.specs.Prelude.{◌≡◌, ℕ, false, All, List, ◌∷◌}
use Rattle.std.specs.Borrow.{Bor}
use Rattle.std.specs.Cmp.Lexicographic.{slice_cmp}
use Rattle.std.specs.List.Sorted.{IsPermutation}
use Rattle.std.specs.Ordering.{nat_cmp, is_lt, ordering_then}
use Rattle.std.specs.declared.cmp.Ordering.{Ordering}
use Rattle.std.specs.declared.cmp.Reverse.{Reverse}

-- bytes, and two numbers
abbrev pub Head : Type 0
Head = List ℕ × ℕ × ℕ

abbrev pub Entry : Type 0
Entry = Reverse (Bor (List ℕ) × ℕ × ℕ)

abbrev pub head_of : Entry → Head
head_of e = (e.0.0.now, e.0.1, e.0.2)

abbrev pub head_cmp : Head → Head → Ordering
head_cmp a b = ordering_then (ordering_then (slice_cmp nat_cmp a.0 b.0) (nat_cmp a.1 b.1)) (nat_cmp a.2 b.2)

-- the order of entries, in which the least head is the greatest
abbrev pub greatest_first : Entry → Entry → Ordering
greatest_first a b = head_cmp (head_of b) (head_of a)

-- no head of a list is below one
abbrev pub IsLeast : Head → List Head → Type 0
IsLeast h heads = All (λ y. is_lt (head_cmp y h) ≡ false) heads

-- a head was taken out, and none that is left is below it
pub record Pops (old new : List Head) (h : Head) : Type 0 where
  pub moves : IsPermutation old (h ∷ new)
  pub least : IsLeast h new

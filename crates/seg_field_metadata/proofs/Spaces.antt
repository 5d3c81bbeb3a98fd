-- Spaces are of no more terms than there are.
use Rattle.std.proofs.Common.{ℕ, zero, suc, ◌<◌, ◌≤◌, Bool, true, false, cond, List, [], ◌∷◌, length, get_or, arith, subst, sym}
use Rattle.std.specs.List.{AllByRecursion, filter}
use Rattle.seg_termdict.specs.Dictionary.{Term}
use Rattle.seg_postings.specs.JsonSpaces.{AreSpaces, IsSpaceAmong, begins_with, beginning}
use Rattle.seg_postings.specs.declared.field_space.InvertedIndexFieldSpace.{InvertedIndexFieldSpace}

no_longer : (p : Term → Bool) (ts : List Term) → length (filter p ts) ≤ length ts
no_longer p [] = omega arith
no_longer p (t ∷ ts) = by (p t) (no_longer p ts)
  where
    by : (b : Bool) → length (filter p ts) ≤ length ts → length (cond b (t ∷ filter p ts) (filter p ts)) ≤ suc (length ts)
    by true rest = omega (arith, rest)
    by false rest = omega (arith, rest)

each_within : (terms : List Term) (spaces : List InvertedIndexFieldSpace) → AllByRecursion (IsSpaceAmong terms) spaces
    → (i : ℕ) (d : InvertedIndexFieldSpace) → i < length spaces → (get_or spaces i d).num_terms ≤ length terms
each_within terms [] all i d lt = absurd (omega (arith, lt))
each_within terms (s ∷ spaces) all zero d lt =
    subst (λ n. n ≤ length terms) (sym all.0.number) (no_longer (begins_with (beginning s)) terms)
each_within terms (s ∷ spaces) all (suc i) d lt = each_within terms spaces all.1 i d (omega (arith, lt))

pub within : (terms : List Term) (spaces : List InvertedIndexFieldSpace) → AreSpaces terms spaces
    → (i : ℕ) (d : InvertedIndexFieldSpace) → i < length spaces → (get_or spaces i d).num_terms ≤ length terms
within terms spaces are i d lt = each_within terms spaces are.each i d lt

-- Ranges of terms that follow on one another.
use Rattle.std.specs.Prelude.{◌≡◌, ℕ, ◌≤◌, List, [], ◌∷◌}
use Rattle.seg_termdict.specs.Dictionary.{Term}

-- each range begins where the one before it ends, the first at a place, and none ends before it begins
abbrev pub Follow : (Term → ℕ) → (Term → ℕ) → ℕ → List Term → Type 0
Follow begin end at [] = Unit {0}
Follow begin end at (t ∷ ts) = (begin t ≡ at) × (at ≤ end t) × Follow begin end (end t) ts

-- the ranges of the postings, and those of the positions, follow on one another from 0
pub record RangesFollow (terms : List Term) : Type 0 where
  pub postings : Follow (λ t. t.1.postings_start) (λ t. t.1.postings_end) 0 terms
  pub positions : Follow (λ t. t.1.positions_start) (λ t. t.1.positions_end) 0 terms

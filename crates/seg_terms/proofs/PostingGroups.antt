-- The postings of a list of occurrences: with one more, and how many.
use Rattle.std.proofs.Common.{◌≡◌, ℕ, suc, ◌≤◌, true, false, cond, List, [], ◌∷◌, ◌++◌, length, ap, ◌∙◌, refl, arith}
use Rattle.std.specs.Prelude.{◌==◌}
use Rattle.std.proofs.lemmas.Bool.Decides.{nat_tests}
use Rattle.seg_model.specs.DocumentTerms.{Recorded, presence, frequency, positions, Posting}
use Rattle.seg_terms.specs.AddedOccurrences.{to_position, with_position}
use Rattle.seg_terms.specs.declared.hit.Hit.{Hit}
use Rattle.seg_terms.specs.PostingGroups.{from_position, joined, grouped}

from_position-to_position : (q : ℕ) (r : Recorded) (p : ℕ)
    → from_position q (to_position r p) ≡ to_position (from_position q r) p
from_position-to_position q presence p = refl
from_position-to_position q (frequency n) p = refl
from_position-to_position q (positions ps) p = refl

joined-with_position : (g : Hit) (ps : List Posting) (d p : ℕ)
    → joined g (with_position ps d p) ≡ with_position (joined g ps) d p
joined-with_position g [] d p = grind (arith, nat_tests)
joined-with_position g (x ∷ []) d p = grind (arith, nat_tests, from_position-to_position g.position x.recorded p)
joined-with_position g (x ∷ y ∷ ps) d p = grind (arith, nat_tests)

pub grouped-push : (hs : List Hit) (h : Hit) → grouped (hs ++ h ∷ []) ≡ with_position (grouped hs) h.document h.position
grouped-push [] h = refl
grouped-push (g ∷ hs) h = ap (joined g) (grouped-push hs h) ∙ joined-with_position g (grouped hs) h.document h.position

joined_few : (h : Hit) (ps : List Posting) → length (joined h ps) ≤ suc (length ps)
joined_few h [] = omega arith
joined_few h (p ∷ ps) =
    elim (h.document == p.document) as (λ b. length
    (cond b (record { document = h.document; recorded = from_position h.position p.recorded } ∷ ps)
    (record { document = h.document; recorded = positions (h.position ∷ []) } ∷ p ∷ ps)) ≤ suc (suc (length ps))) [
      | true ↦ omega arith
      | false ↦ omega arith
    ]

-- postings are no more than the hits
pub grouped_few : (hs : List Hit) → length (grouped hs) ≤ length hs
grouped_few [] = omega arith
grouped_few (h ∷ hs) = let one = joined_few h (grouped hs) in let rest = grouped_few hs in omega (arith, one, rest)

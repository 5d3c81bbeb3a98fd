-- The counts of postings that hits make, and their sums.
use Rattle.std.proofs.Common.{◌≡◌, ℕ, suc, ◌+◌, ◌-◌, ◌^◌, ◌≤◌, min, true, false, cond, List, [], ◌∷◌, length, drop, Some, sym, refl, ap, ◌∙◌, arith}
use Rattle.std.specs.Prelude.{◌==◌}
use Rattle.std.specs.List.{fold, slice_get, AllByRecursion}
use Rattle.std.proofs.lemmas.List.{drop_all}
use Rattle.seg_model.specs.DocumentTerms.{Recorded, presence, frequency, positions, Posting}
use Rattle.seg_postings.specs.declared.record_kind.RecordKind.{RecordKind}
use Rattle.seg_postings.specs.declared.record_kind.RecordKind.TheVariants.{Documents, Counts, Positions}
use Rattle.seg_build.specs.FieldTerms.{kept_as, postings_as}
use Rattle.seg_terms.specs.declared.hit.Hit.{Hit}
use Rattle.seg_terms.specs.PostingGroups.{from_position, joined, grouped}
use Rattle.seg_build.specs.TokenTotal.{recorded_count, count_total}
use Rattle.seg_common.proofs.Lists.{drop-slice_get}

abbrev and_count : ℕ → Posting → ℕ
and_count a p = a + recorded_count p.recorded

-- one more at the beginning is one more at the end
later_by_one : (a : ℕ) (ps : List Posting) → fold and_count (suc a) ps ≡ suc (fold and_count a ps)
later_by_one a [] = refl
later_by_one a (p ∷ ps) =
    let e : suc a + recorded_count p.recorded ≡ suc (a + recorded_count p.recorded) = omega arith in
    ap (λ n. fold and_count n ps) e ∙ later_by_one (a + recorded_count p.recorded) ps

abbrev HasPositions : Posting → Type 0
HasPositions p = (ps : List ℕ) × (p.recorded ≡ positions ps)

one_position : (h : Hit) (p : Posting) → HasPositions p → recorded_count (from_position h.position p.recorded) ≡ suc (recorded_count p.recorded)
one_position h p k = ap (λ r. recorded_count (from_position h.position r)) k.1 ∙ ap (λ r. suc (recorded_count r)) (sym k.1)

joined_count : (a : ℕ) (h : Hit) (ps : List Posting) → AllByRecursion HasPositions ps → fold and_count a (joined h ps) ≡ suc (fold and_count a ps)
joined_count a h [] all = let e : a + 1 ≡ suc a = omega arith in e
joined_count a h (p ∷ ps) all =
    let first : a + recorded_count (from_position h.position p.recorded) ≡ suc (a + recorded_count p.recorded) = let one = one_position h p all.0 in omega (arith, one) in
    let alone : a + 1 ≡ suc a = omega arith in
    elim (h.document == p.document) as (λ b. fold and_count a (cond b (record { document = h.document; recorded = from_position h.position p.recorded } ∷ ps) (record { document = h.document; recorded = positions (h.position ∷ []) } ∷ p ∷ ps)) ≡ suc (fold and_count a (p ∷ ps))) [
      | true ↦ ap (λ n. fold and_count n ps) first ∙ later_by_one (a + recorded_count p.recorded) ps
      | false ↦ ap (λ n. fold and_count n (p ∷ ps)) alone ∙ later_by_one a (p ∷ ps)
    ]

from_has : (q : ℕ) (r : Recorded) → (ps : List ℕ) × (from_position q r ≡ positions ps)
from_has q presence = (q ∷ [], refl)
from_has q (frequency n) = (q ∷ [], refl)
from_has q (positions ps) = (q ∷ ps, refl)

joined_has : (h : Hit) (ps : List Posting) → AllByRecursion HasPositions ps → AllByRecursion HasPositions (joined h ps)
joined_has h [] all = ((h.position ∷ [], refl), tt)
joined_has h (p ∷ ps) all =
    elim (h.document == p.document) as (λ b. AllByRecursion HasPositions (cond b (record { document = h.document; recorded = from_position h.position p.recorded } ∷ ps) (record { document = h.document; recorded = positions (h.position ∷ []) } ∷ p ∷ ps))) [
      | true ↦ (from_has h.position p.recorded, all.1)
      | false ↦ ((h.position ∷ [], refl), all)
    ]

grouped_has : (hs : List Hit) → AllByRecursion HasPositions (grouped hs)
grouped_has [] = tt
grouped_has (h ∷ hs) = joined_has h (grouped hs) (grouped_has hs)

-- each hit counts
hits_count : (hs : List Hit) → count_total (grouped hs) ≡ length hs
hits_count [] = refl
hits_count (h ∷ hs) = joined_count 0 h (grouped hs) (grouped_has hs) ∙ ap suc (hits_count hs)

-- ---- as a kind keeps them

counts_kept : (kind : RecordKind) → ((r : Recorded) → recorded_count (kept_as kind r) ≡ recorded_count r) → (a : ℕ) (ps : List Posting) → fold and_count a (postings_as kind ps) ≡ fold and_count a ps
counts_kept kind same a [] = refl
counts_kept kind same a (p ∷ ps) = ap (λ n. fold and_count (a + n) (postings_as kind ps)) (same p.recorded) ∙ counts_kept kind same (a + recorded_count p.recorded) ps

same_count : (r : Recorded) → recorded_count (kept_as Counts r) ≡ recorded_count r
same_count presence = refl
same_count (frequency n) = refl
same_count (positions ps) = refl

-- where counts are kept, each hit counts
pub hits_counted : (hs : List Hit) → count_total (postings_as Counts (grouped hs)) ≡ length hs
hits_counted hs = counts_kept Counts same_count 0 (grouped hs) ∙ hits_count hs

pub hits_placed : (hs : List Hit) → count_total (postings_as Positions (grouped hs)) ≡ length hs
hits_placed hs = counts_kept Positions (λ r. refl) 0 (grouped hs) ∙ hits_count hs

documents_from : (a : ℕ) (ps : List Posting) → fold and_count a (postings_as Documents ps) ≡ a + length ps
documents_from a [] = omega arith
documents_from a (p ∷ ps) = let rest = documents_from (a + 1) ps in omega (arith, rest)

-- where documents alone are kept, each posting counts
pub documents_count : (ps : List Posting) → count_total (postings_as Documents ps) ≡ length ps
documents_count ps = documents_from 0 ps ∙ (let z : 0 + length ps ≡ length ps = omega arith in z)

-- ---- all terms

abbrev pub and_total : ℕ → List Posting → ℕ
and_total a ps = a + count_total ps

-- one more term
total_more : (total n : ℕ) (terms : List (List Posting)) (i : ℕ) (ps : List Posting) → slice_get terms i ≡ Some ps → n ≡ count_total ps → fold and_total (total + n) (drop (i + 1) terms) ≡ fold and_total total (drop i terms)
total_more total n terms i ps at many =
    ap (λ m. fold and_total (total + m) (drop (i + 1) terms)) many
    ∙ sym (ap (fold and_total total) (drop-slice_get terms i ps at))

-- a sum is what it begins with, and what comes
total_from : (total : ℕ) (terms : List (List Posting)) → fold and_total total terms ≡ total + fold and_total 0 terms
total_from total [] = omega arith
total_from total (t ∷ terms) =
    let here = total_from (total + count_total t) terms in
    let rest = total_from (0 + count_total t) terms in
    omega (arith, here, rest)

-- one more term, where the sum stays at the greatest u64
pub saturated_more : (total n next : ℕ) (terms : List (List Posting)) (i : ℕ) (ps : List Posting) → slice_get terms i ≡ Some ps → n ≡ count_total ps → next ≡ min (total + n) (2 ^ 64 - 1) → min (2 ^ 64 - 1) (fold and_total next (drop (i + 1) terms)) ≡ min (2 ^ 64 - 1) (fold and_total total (drop i terms))
saturated_more total n next terms i ps at many is =
    let all = total_more total n terms i ps at many in
    let here = total_from next (drop (i + 1) terms) in
    let whole = total_from (total + n) (drop (i + 1) terms) in
    omega (arith, all, here, whole, is)

-- after the last term
pub saturated_end : (total : ℕ) (terms : List (List Posting)) (i : ℕ) → length terms ≤ i → total ≤ 2 ^ 64 - 1 → total ≡ min (2 ^ 64 - 1) (fold and_total total (drop i terms))
saturated_end total terms i past few =
    let all : total ≡ min (2 ^ 64 - 1) total = omega (arith, few) in
    all ∙ ap (λ ts. min (2 ^ 64 - 1) (fold and_total total ts)) (sym (drop_all i terms past))

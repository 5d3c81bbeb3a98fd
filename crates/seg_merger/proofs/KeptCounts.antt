-- How many members are kept.
use Rattle.std.proofs.Common.{◌≡◌, ◌≤◌, ◌<◌, ℕ, ◌+◌, Bool, true, false, List, [], ◌∷◌, length, drop, cond, get_or, sym, ap, subst, ◌∙◌, arith}
use Rattle.std.specs.List.{AllByRecursion}
use Rattle.std.proofs.lemmas.List.{length-append, drop_more}
use Rattle.seg_model.specs.Operations.{kept}
use Rattle.seg_bits.specs.BitSets.{member_count}
use Rattle.seg_store.specs.Store.{documents_of}
use Rattle.seg_merger.specs.JoinedStore.{joined_documents}
use Rattle.seg_open.specs.OpenSegment.{IsOfSchema, OpenSegment, kept_count}
use Rattle.seg_open.proofs.Exports.{count-more}

-- a segment is one of its own schema
abbrev pub HasShape : OpenSegment → Type 0
HasShape s = IsOfSchema s.schema s

few_first : {X : Type 0} (b : Bool) (x : X) (rest : List X) (n : ℕ) → length rest ≤ n → length (cond b (x ∷ rest) rest) ≤ cond b 1 0 + n
few_first true x rest n few = omega (arith, few)
few_first false x rest n few = omega (arith, few)

-- no more are kept than are marked
kept_few : {X : Type 0} (marks : List Bool) (xs : List X) → length (kept marks xs) ≤ member_count marks
kept_few [] xs = omega arith
kept_few (b ∷ bs) [] = omega arith
kept_few (b ∷ bs) (x ∷ xs) =
    let first = count-more b bs in
    let few = few_first b x (kept bs xs) (member_count bs) (kept_few bs xs) in
    omega (arith, first, few)

pub joined_few : (parts : List OpenSegment) → length (joined_documents parts) ≤ kept_count parts
joined_few [] = omega arith
joined_few (p ∷ ps) =
    let first = kept p.alive (documents_of p.blocks) in
    let both = length-append first (joined_documents ps) in
    let few = kept_few p.alive (documents_of p.blocks) in
    let rest = joined_few ps in
    omega (arith, both, few, rest)

-- from a place on
pub count_split : (parts : List OpenSegment) (i : ℕ) (p : OpenSegment) → i < length parts → p ≡ get_or parts i p → kept_count (drop i parts) ≡ member_count p.alive + kept_count (drop (i + 1) parts)
count_split parts i p lt is = ap kept_count (drop_more parts i p lt ∙ ap (λ q. q ∷ drop (i + 1) parts) (sym is))

-- what holds of the segment at a place, and of those after it
pub all_first : (P : OpenSegment → Type 0) (parts : List OpenSegment) (i : ℕ) (p : OpenSegment) → i < length parts → p ≡ get_or parts i p → P p → AllByRecursion P (drop (i + 1) parts) → AllByRecursion P (drop i parts)
all_first P parts i p lt is first rest = subst (AllByRecursion P) (sym (drop_more parts i p lt ∙ ap (λ q. q ∷ drop (i + 1) parts) (sym is))) (first, rest)

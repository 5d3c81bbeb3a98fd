-- Numbers, taken out of a set one by one.
use Rattle.std.proofs.Common.{◌≡◌, ℕ, zero, suc, ◌<◌, Bool, true, false, List, [], ◌∷◌, map, length, drop, get_or, refl, ap, ◌∙◌, arith}
use Rattle.std.specs.Prelude.{◌||◌, ◌&&◌, ◌==◌, not}
use Rattle.seg_model.specs.DocumentTerms.{Posting}
use Rattle.seg_model.specs.Postings.{is_member}
use Rattle.seg_batches.specs.AppliedDeletes.{staying}
use Rattle.seg_batches.proofs.StayingMembers.{staying_twice, staying_all}

-- the documents of postings
abbrev pub documents_of : List Posting → List ℕ
documents_of ps = map (λ p. p.document) ps

-- whether a number passes that isn't older, or isn't among some
abbrev pub passes : (ℕ → Bool) → List ℕ → ℕ → Bool
passes older ids i = not (older i && is_member i ids)

one_and_rest : (d e r : Bool) → (not (d && (e || false)) && not (d && r)) ≡ not (d && (e || r))
one_and_rest false e r = refl
one_and_rest true true r = refl
one_and_rest true false r = refl

-- the number at a place is taken out, then those after it
pub dropped_more : (older : ℕ → Bool) (ids : List ℕ) (at d : ℕ) (s : List Bool) → at < length ids
    → staying (passes older (drop 1 (drop at ids))) (staying (passes older (get_or ids at d ∷ [])) s) ≡ staying (passes older (drop at ids)) s
dropped_more older [] at d s lt = absurd (omega (arith, lt))
dropped_more older (x ∷ ids) zero d s lt =
    staying_twice (passes older (x ∷ [])) (passes older ids) (passes older (x ∷ ids)) (λ i. one_and_rest (older i) (i == x) (is_member i ids)) s
dropped_more older (x ∷ ids) (suc at) d s lt = dropped_more older ids at d s (omega (arith, lt))

none_passes : (d : Bool) → not (d && false) ≡ true
none_passes true = refl
none_passes false = refl

-- where there are none all stay
pub none_dropped : (older : ℕ → Bool) (ids : List ℕ) (s : List Bool) → ids ≡ [] → staying (passes older ids) s ≡ s
none_dropped older ids s none =
    ap (λ xs. staying (passes older xs) s) none
    ∙ staying_all (passes older []) s (λ i lt. none_passes (older i))

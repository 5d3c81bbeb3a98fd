-- What is left of all documents where some are dropped, one after another.
use Rattle.std.proofs.Common.{◌≡◌, ℕ, zero, suc, ◌+◌, ◌<◌, List, [], ◌∷◌, Bool, true, false, not, ◌&&◌, ◌||◌, map, nat_eq, length, replicate, refl, sym, ap, ◌∙◌, arith}
use Rattle.std.specs.Prelude.{set}
use Rattle.std.specs.List.{list_any, range_with_len}
use Rattle.std.proofs.lemmas.Bool.Decides.{nat_tests}
use Rattle.std.proofs.lemmas.List.FromFn.{length-map-range_with_len}
use Rattle.std.proofs.lemmas.Bool.{eq-eqb}
use Rattle.seg_common.proofs.Numbers.{nat_eq-below}
use Rattle.seg_script.specs.Filters.{all_but}

-- marks without those at some places
abbrev pub without : List Bool → List ℕ → List Bool
without kept [] = kept
without kept (d ∷ ds) = without (set kept d false) ds

-- the marks of numbers, this many from the first
abbrev marks : (ℕ → Bool) → ℕ → ℕ → List Bool
marks p a n = map p (range_with_len a n)

stays : (x y : Bool) → y ≡ false → x ≡ (x && not y)
stays true y off = sym (ap not off)
stays false y off = refl

goes : (x y : Bool) → y ≡ true → false ≡ (x && not y)
goes true y on = sym (ap not on)
goes false y on = refl

both_go : (x y z : Bool) → ((x && not y) && not z) ≡ (x && not (y || z))
both_go true true z = refl
both_go true false z = refl
both_go false y z = refl

other : (a d : ℕ) → d < a → nat_eq a d ≡ false
other a d lt = grind (arith, nat_tests)

-- a number in front of all has no mark among them
in_front : (p : ℕ → Bool) (a n d : ℕ) → d < a → marks p a n ≡ marks (λ i. p i && not (nat_eq i d)) a n
in_front p a zero d lt = refl
in_front p a (suc n) d lt =
    let first = stays (p a) (nat_eq a d) (other a d lt) in
    let rest = in_front p (a + 1) n d (omega (arith, lt)) in
    λ j. first j ∷ rest j

-- one mark goes
one_goes : (p : ℕ → Bool) (a n d e : ℕ) → e ≡ a + d → set (marks p a n) d false ≡ marks (λ i. p i && not (nat_eq i e)) a n
one_goes p a zero d e is = refl
one_goes p a (suc n) zero e is =
    let first = goes (p a) (nat_eq a e) (eq-eqb a e (omega (arith, is))) in
    let rest = in_front p (a + 1) n e (omega (arith, is)) in
    λ j. first j ∷ rest j
one_goes p a (suc n) (suc d) e is =
    let first = stays (p a) (nat_eq a e) (nat_eq-below a e (omega (arith, is))) in
    let rest = one_goes p (a + 1) n d e (omega (arith, is)) in
    λ j. first j ∷ rest j

all_go : (p : ℕ → Bool) (n : ℕ) (ds : List ℕ) → without (marks p 0 n) ds ≡ marks (λ i. p i && not (list_any (nat_eq i) ds)) 0 n
all_go p n [] = λ j. marks (λ i. stays (p i) false refl j) 0 n
all_go p n (d ∷ ds) =
    ap (λ (kept : List Bool). without kept ds) (one_goes p 0 n d d (omega arith))
    ∙ all_go (λ i. p i && not (nat_eq i d)) n ds
    ∙ (λ j. marks (λ i. both_go (p i) (nat_eq i d) (list_any (nat_eq i) ds) j) 0 n)

all_marked : (a n : ℕ) → replicate n true ≡ marks (λ i. true) a n
all_marked a zero = refl
all_marked a (suc n) = ap (λ (kept : List Bool). true ∷ kept) (all_marked (a + 1) n)

-- all but those that are dropped
kept_is : (size : ℕ) (dropped : List ℕ) → without (replicate size true) dropped ≡ all_but size dropped
kept_is size dropped = ap (λ (kept : List Bool). without kept dropped) (all_marked 0 size) ∙ all_go (λ i. true) size dropped

-- of a full set those are left that aren't dropped
pub kept_of : (size : ℕ) (dropped : List ℕ) (kept : List Bool) → kept ≡ replicate size true → without kept dropped ≡ all_but size dropped
kept_of size dropped kept full = ap (λ (k : List Bool). without k dropped) full ∙ kept_is size dropped

-- each document is marked
pub length-all_but : (size : ℕ) (dropped : List ℕ) → length (all_but size dropped) ≡ size
length-all_but size dropped = length-map-range_with_len (λ document. not (list_any (nat_eq document) dropped)) 0 size

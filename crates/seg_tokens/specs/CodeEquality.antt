-- Whether two values are the same, as a test of their codes.
use Rattle.std.specs.Prelude.{◌≡◌, Bool, true, false, ◌&&◌, nat_eq, refl}
use Rattle.std.proofs.Common.{ap}
use Rattle.std.specs.Bool.{Decides}
use Rattle.std.specs.Cmp.{IsPartialEquivalence, IsEquivalence, decided, partial_equiv_from_equiv, on_equiv, on_per}
use Rattle.std.proofs.lemmas.Bool.Decides.{Decides-eqb, Decides-and, Decides-like, same_from_decides}
use base.Stored.{Gv, gnil, gnum, gcons, Coded}

-- two codes are the same
abbrev pub code_eq : Gv → Gv → Bool
code_eq gnil gnil = true
code_eq (gnum m) (gnum n) = nat_eq m n
code_eq (gcons a b) (gcons c d) = code_eq a c && code_eq b d
code_eq _ _ = false

-- two values have the same code
unfoldable pub same_by : {A : Type 0} → Coded A → A → A → Bool
same_by coded x y = code_eq (coded.code x) (coded.code y)

code_eq-decides : (g h : Gv) → Decides (code_eq g h) (g ≡ h)
code_eq-decides gnil gnil = (λ e. refl, λ e. refl)
code_eq-decides gnil (gnum n) = (λ e. cc, λ e. cc)
code_eq-decides gnil (gcons c d) = (λ e. cc, λ e. cc)
code_eq-decides (gnum m) gnil = (λ e. cc, λ e. cc)
code_eq-decides (gnum m) (gnum n) = Decides-like (nat_eq m n) (λ e. ap gnum e) (λ e. cc) (Decides-eqb m n)
code_eq-decides (gnum m) (gcons c d) = (λ e. cc, λ e. cc)
code_eq-decides (gcons a b) gnil = (λ e. cc, λ e. cc)
code_eq-decides (gcons a b) (gnum n) = (λ e. cc, λ e. cc)
code_eq-decides (gcons a b) (gcons c d) = Decides-like (code_eq a c && code_eq b d) (λ e i. gcons (e.0 i) (e.1 i))
    (λ e. (cc, cc)) (Decides-and (code_eq a c) (code_eq b d) (code_eq-decides a c) (code_eq-decides b d))

-- the test says that the values are equal
pub same_by-decides : {A : Type 0} (coded : Coded A) (x y : A) → Decides (same_by coded x y) (x ≡ y)
unfolding same_by
same_by-decides coded x y = Decides-like (code_eq (coded.code x) (coded.code y)) (coded.inj x y) (ap coded.code)
    (code_eq-decides (coded.code x) (coded.code y))

-- a test that says so too gives the same answer
pub same_by-is : {A : Type 0} (coded : Coded A) (answer : Bool) (x y : A)
    → Decides answer (x ≡ y) → answer ≡ same_by coded x y
same_by-is coded answer x y decides = same_from_decides answer (same_by coded x y) decides (same_by-decides coded x y)

pub same_equivalence : {A : Type 0} (coded : Coded A) → IsEquivalence (same_by coded)
same_equivalence coded = decided (same_by coded) (same_by-decides coded)

pub same_partial_equivalence : {A : Type 0} (coded : Coded A) → IsPartialEquivalence (same_by coded)
same_partial_equivalence coded = partial_equiv_from_equiv (same_equivalence coded)

pub same_equivalence_on : {K A : Type 0} (coded : Coded A) (view : K → A)
    → IsEquivalence (λ (x y : K). same_by coded (view x) (view y))
same_equivalence_on coded view = on_equiv view (same_equivalence coded)

pub same_partial_equivalence_on : {K A : Type 0} (coded : Coded A) (view : K → A)
    → IsPartialEquivalence (λ (x y : K). same_by coded (view x) (view y))
same_partial_equivalence_on coded view = on_per view (same_partial_equivalence coded)

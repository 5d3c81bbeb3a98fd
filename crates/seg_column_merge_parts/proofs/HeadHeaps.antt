-- Heads in lists, and what a heap of them gives.
use Rattle.std.proofs.Common.{◌≡◌, ◌⊎◌, zero, suc, false, List, [], ◌∷◌, map, inl, inr, refl, sym, ap, subst, ◌∙◌, arith}
use Rattle.std.specs.Prelude.{Contains}
use Rattle.std.specs.BinaryHeap.{IsUpperBound}
use Rattle.std.specs.Cmp.Lexicographic.{slice_cmp}
use Rattle.std.specs.List.{AllByRecursion}
use Rattle.std.specs.List.Sorted.{IsPermutation}
use Rattle.std.specs.Ordering.{nat_cmp, is_gt, is_lt, ordering_reverse, ordering_then}
use Rattle.std.specs.declared.cmp.Ordering.{Ordering}
use Rattle.std.specs.declared.cmp.Ordering.TheVariants.{Less, Equal, Greater}
use Rattle.std.proofs.lemmas.Bool.{false≢true}
use Rattle.std.proofs.lemmas.Cmp.{nat_list_cmp_total}
use Rattle.std.proofs.lemmas.List.Elements.{All-from_recursion}
use Rattle.std.proofs.lemmas.List.Sorted.{IsPermutation-map}
use Rattle.seg_column_merge_parts.specs.HeadHeaps.{Entry, Head, Pops, greatest_first, head_cmp, head_of}

pub there_in : {X : Type 0} (x y : X) (xs : List X) → Contains (x ∷ xs) y → (x ≡ y) ⊎ Contains xs y
there_in x y xs (zero, lt, is) = inl is
there_in x y xs (suc k, lt, is) = inr (k, omega (arith, lt), is)

not_above : (o p q : Ordering) → is_lt (ordering_then (ordering_then o p) q) ≡ false → is_gt (ordering_reverse o) ≡ false
not_above Less p q le = absurd (false≢true (sym le))
not_above Equal p q le = refl
not_above Greater p q le = refl

-- the bytes of the least head aren't above those of others
pub least_first : (h y : Head) → is_lt (head_cmp y h) ≡ false → is_gt (slice_cmp nat_cmp h.0 y.0) ≡ false
least_first h y le = ap is_gt (nat_list_cmp_total.antisymm h.0 y.0)
    ∙ not_above (slice_cmp nat_cmp y.0 h.0) (nat_cmp y.1 h.1) (nat_cmp y.2 h.2) le

least_of : (x : Entry) (ys : List Entry) → IsUpperBound greatest_first x ys
    → AllByRecursion (λ y. is_lt (head_cmp y (head_of x)) ≡ false) (map head_of ys)
least_of x [] bound = tt
least_of x (y ∷ ys) bound = (bound.0, least_of x ys bound.1)

module _ (heads : List Head) (xs ys : List Entry) (seen : map head_of xs ≡ heads) (x : Entry) where
  pub pushed : IsPermutation (x ∷ xs) ys → IsPermutation (head_of x ∷ heads) (map head_of ys)
  pushed moves = subst (λ (hs : List Head). IsPermutation (head_of x ∷ hs) (map head_of ys)) seen
      (IsPermutation-map head_of (x ∷ xs) ys moves)

  pub popped : IsPermutation xs (x ∷ ys) → IsUpperBound greatest_first x ys → Pops heads (map head_of ys) (head_of x)
  popped moves bound = record {
    moves = subst (λ (hs : List Head). IsPermutation hs (head_of x ∷ map head_of ys)) seen
        (IsPermutation-map head_of xs (x ∷ ys) moves);
    least = All-from_recursion (λ (y : Head). is_lt (head_cmp y (head_of x)) ≡ false) (map head_of ys)
        (least_of x ys bound);
  }

-- What a sort by a key leaves.
use Rattle.std.proofs.Common.{◌≡◌, List, Ordering, ap}
use denote.Param.Members.{Mut}
use denote.Ref.{Bor}
use Rattle.std.specs.Cmp.{IsStrictWeakOrder, IsTotalOrder}
use Rattle.std.specs.Fn.{Called, ComparesAs}
use Rattle.std.specs.Ordering.{is_lt}
use Rattle.std.specs.List.Sorted.{IsSortedBy}
use Rattle.std.proofs.lemmas.Fn.{always_returns_same}
use Rattle.std.proofs.lemmas.List.Sorted.{ranks_by}

pub sorted_by : {X K F : Type 0} {R : K → K → Ordering} (total : IsTotalOrder R) (key : X → K)
    {g : Mut F (Bor X × (Bor X × Unit {0})) Ordering} {f : F} (ys : List X)
    → ((lt : X → X → Rattle.std.proofs.Common.Bool) → IsStrictWeakOrder lt → ComparesAs g lt f → IsSortedBy lt ys)
    → ((a : Bor X × (Bor X × Unit {0})) (r : Ordering) (f' : F) → Called g f a r f'
    → (r ≡ R (key a.0.now) (key a.1.0.now)) × (f' ≡ f))
    → IsSortedBy (λ x y. is_lt (R (key x) (key y))) ys
sorted_by {R = R} total key {g = g} {f = f} ys up h = up (λ x y. is_lt (R (key x) (key y)))
    (ranks_by total key)
    (always_returns_same g (λ a r. is_lt r ≡ is_lt (R (key a.0.now) (key a.1.0.now))) f
    (λ a r f' k. (ap is_lt (h a r f' k).0, (h a r f' k).1)))

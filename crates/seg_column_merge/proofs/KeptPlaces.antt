-- The rows that are kept, place by place.
use Rattle.std.proofs.Common.{◌≡◌, ℕ, Bool, true, false, ◌||◌, List, [], ◌∷◌, map, refl, sym, ap, ◌∙◌, arith}
use Rattle.std.specs.Prelude.{◌&&◌, nat_eq}
use Rattle.std.specs.List.{AllByRecursion, list_any}
use Rattle.std.proofs.lemmas.Bool.{false≢true, or_left, or_right}
use Rattle.std.proofs.lemmas.Bool.Decides.{nat_tests}
use Rattle.seg_common.proofs.Numbers.{nat_eq-itself}
use Rattle.seg_column_file.specs.KeptRows.{is_kept}
use Rattle.seg_column_file.specs.RowOrders.{Place, IsRow}

-- each of some places is among them
pub record IsKept (counts : List ℕ) (places : List Place) (p : Place) : Type 0 where
  pub row : IsRow counts p
  pub kept : is_kept places p.0 p.1 ≡ true

module _ (counts : List ℕ) (all : List Place) where
  from_front : (ps : List Place) → AllByRecursion (IsRow counts) ps
      → ((file row : ℕ) → is_kept ps file row ≡ true → is_kept all file row ≡ true)
      → AllByRecursion (IsKept counts all) ps
  from_front [] there among = tt
  from_front (p ∷ ps) there among = (
    record {
      row = there.0;
      kept = among p.0 p.1 (or_left (nat_eq p.0 p.0 && nat_eq p.1 p.1) (is_kept ps p.0 p.1)
          ((λ j. nat_eq-itself p.0 j && nat_eq p.1 p.1) ∙ nat_eq-itself p.1));
    },
    from_front ps there.1 (λ file row is. among file row
        (or_right (nat_eq file p.0 && nat_eq row p.1) (is_kept ps file row) is)),
  )

  pub all_kept : AllByRecursion (IsRow counts) all → AllByRecursion (IsKept counts all) all
  all_kept there = from_front all there (λ file row is. is)

-- ---- numbers of a row

pub map_where : {Y : Type 0} (f g : ℕ → Y) (xs : List ℕ) → ((x : ℕ) → list_any (nat_eq x) xs ≡ true → f x ≡ g x)
    → map f xs ≡ map g xs
map_where f g [] same = refl
map_where f g (x ∷ xs) same =
    λ j. same x (or_left (nat_eq x x) (list_any (nat_eq x) xs) (nat_eq-itself x)) j
    ∷ map_where f g xs (λ y is. same y (or_right (nat_eq y x) (list_any (nat_eq y) xs) is)) j

pub all_where : (P : ℕ → Type 0) (xs : List ℕ) → ((x : ℕ) → list_any (nat_eq x) xs ≡ true → P x) → AllByRecursion P xs
all_where P [] is = tt
all_where P (x ∷ xs) is = (
  is x (or_left (nat_eq x x) (list_any (nat_eq x) xs) (nat_eq-itself x)),
  all_where P xs (λ y any. is y (or_right (nat_eq y x) (list_any (nat_eq y) xs) any)),
)

-- a number of a row is among those that a function gives
pub any_image : (f : ℕ → ℕ) (xs : List ℕ) (x k : ℕ) → f x ≡ k → list_any (nat_eq x) xs ≡ true
    → list_any (nat_eq k) (map f xs) ≡ true
any_image f [] x k is any = absurd (false≢true any)
any_image f (y ∷ ys) x k is any = by (λ rest. any_image f ys x k is rest) (nat_eq x y) refl any
  where
    by : (list_any (nat_eq x) ys ≡ true → list_any (nat_eq k) (map f ys) ≡ true) → (b : Bool) → nat_eq x y ≡ b
        → (b || list_any (nat_eq x) ys) ≡ true
        → (nat_eq k (f y) || list_any (nat_eq k) (map f ys)) ≡ true
    by later true e rest =
        let same : x ≡ y = grind (arith, nat_tests, e) in
        or_left (nat_eq k (f y)) (list_any (nat_eq k) (map f ys))
        (ap (nat_eq k) (sym (ap f same) ∙ is) ∙ nat_eq-itself k)
    by later false e rest = or_right (nat_eq k (f y)) (list_any (nat_eq k) (map f ys)) (later rest)

-- a test that follows from another one, of places that are kept
pub any_follows : (P : Place → Type 0) (f g : Place → Bool) (ps : List Place) → AllByRecursion P ps
    → ((p : Place) → P p → f p ≡ true → g p ≡ true) → list_any f ps ≡ true → list_any g ps ≡ true
any_follows P f g [] all so any = absurd (false≢true any)
any_follows P f g (p ∷ ps) all so any = by (λ rest. any_follows P f g ps all.1 so rest) (f p) refl any
  where
    by : (list_any f ps ≡ true → list_any g ps ≡ true) → (b : Bool) → f p ≡ b → (b || list_any f ps) ≡ true
        → (g p || list_any g ps) ≡ true
    by later true e rest = or_left (g p) (list_any g ps) (so p all.0 e)
    by later false e rest = or_right (g p) (list_any g ps) (later rest)

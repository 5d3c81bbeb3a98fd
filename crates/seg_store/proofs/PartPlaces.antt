-- Parts by their places.
use Rattle.std.proofs.Common.{◌≡◌, ℕ, zero, suc, ◌+◌, ◌-◌, ◌<◌, ◌≤◌, Bool, true, List, [], ◌∷◌, ◌++◌, length, take, drop, Some, refl, sym, ap, ◌∙◌, arith, slice_range, drop-drop}
use Rattle.std.specs.List.{slice_get, list_all}
use Rattle.std.proofs.lemmas.Bool.{and_parts}
use Rattle.std.proofs.lemmas.List.{take-append-drop, length-take-le, length-drop}
use Rattle.std.proofs.lemmas.Option.{none-some, same_Some}
use Rattle.seg_common.proofs.Lists.{range-front}
use Rattle.seg_store.specs.Ends.{are_ends, cut_from, start_of}
use Rattle.seg_store.proofs.CutEnds.{ends-next}

-- ---- lists

pub get-left : {X : Type 0} (xs ys : List X) (i : ℕ) → i < length xs → slice_get (xs ++ ys) i ≡ slice_get xs i
get-left [] ys i lt = absurd (omega (arith, lt))
get-left (x ∷ xs) ys zero lt = refl
get-left (x ∷ xs) ys (suc i) lt = get-left xs ys i (omega (arith, lt))

pub get-right : {X : Type 0} (xs ys : List X) (i k : ℕ) → k ≡ length xs + i → slice_get (xs ++ ys) k ≡ slice_get ys i
get-right [] ys i k is = let same : k ≡ i = omega (arith, is) in ap (slice_get ys) same
get-right (x ∷ xs) ys i zero is = absurd (omega (arith, is))
get-right (x ∷ xs) ys i (suc k) is = get-right xs ys i k (omega (arith, is))

pub passes_at : {X : Type 0} (test : X → Bool) (xs : List X) (i : ℕ) (x : X) → list_all test xs ≡ true → slice_get xs i ≡ Some x → test x ≡ true
passes_at test [] i x all is = absurd (none-some x is)
passes_at test (y ∷ ys) zero x all is = ap test (sym (same_Some y x is)) ∙ (and_parts (test y) (list_all test ys) all).0
passes_at test (y ∷ ys) (suc i) x all is = passes_at test ys i x (and_parts (test y) (list_all test ys) all).1 is

-- ---- ranges

pub range_in_take : (k : ℕ) (bytes : List ℕ) (s e : ℕ) → s ≤ e → e ≤ length (take k bytes) → slice_range (take k bytes) s e ≡ slice_range bytes s e
range_in_take k bytes s e se h = sym (range-front (take k bytes) (drop k bytes) s e se h) ∙ ap (λ l. slice_range l s e) (take-append-drop k bytes)

pub range_in_range : (bytes : List ℕ) (from to s e : ℕ) → from ≤ to → to ≤ length bytes → s ≤ e → e ≤ to - from → slice_range (slice_range bytes from to) s e ≡ slice_range bytes (from + s) (from + e)
range_in_range bytes from to s e ft h se k =
    let size : length (take (to - from) (drop from bytes)) ≡ to - from = length-take-le (to - from) (drop from bytes) (omega (arith, length-drop from bytes)) in
    let same : e - s ≡ from + e - (from + s) = omega arith in
    range_in_take (to - from) (drop from bytes) s e se (omega (arith, size, k))
    ∙ ap (take (e - s)) (drop-drop s from bytes)
    ∙ ap (λ n. take n (drop (from + s) bytes)) same

-- ---- parts

pub record IsPartAt (start total : ℕ) (ends bytes : List ℕ) (i e : ℕ) : Type 0 where
  pub from : start_of start ends i ≤ e
  pub within : e ≤ total
  pub cut : slice_get (cut_from start ends bytes) i ≡ Some (slice_range bytes (start_of start ends i) e)

pub part_at : (start total : ℕ) (ends bytes : List ℕ) (i e : ℕ) → are_ends start total ends ≡ true → slice_get ends i ≡ Some e → IsPartAt start total ends bytes i e
part_at start total [] bytes i e h is = absurd (none-some e is)
part_at start total (x ∷ xs) bytes zero e h is =
    let n = ends-next start total x xs h in
    let same = same_Some x e is in
    record { from = omega (arith, n.from, same); within = omega (arith, n.within, same); cut = ap (λ y. Some (slice_range bytes start y)) same }
part_at start total (x ∷ xs) bytes (suc i) e h is =
    let p = part_at x total xs bytes i e (ends-next start total x xs h).others is in
    record { from = p.from; within = p.within; cut = p.cut }

pub starts_after : (start : ℕ) (ends : List ℕ) (i e : ℕ) → slice_get ends i ≡ Some e → start_of start ends (suc i) ≡ e
starts_after start [] i e is = absurd (none-some e is)
starts_after start (x ∷ xs) zero e is = same_Some x e is
starts_after start (x ∷ xs) (suc i) e is = starts_after x xs i e is

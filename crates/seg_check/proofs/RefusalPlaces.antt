-- First places in a list that is seen through a function.
use Rattle.std.proofs.Common.{◌≡◌, ◌+◌, Bool, cond, List, [], ◌∷◌, length, map, Some, None, refl, sym, ap, ◌∙◌}
use Rattle.std.specs.Prelude.{position, nat_lt, not}
use Rattle.std.specs.List.{position_or_len}
use Rattle.std.proofs.lemmas.List.{length-map}

place_seen : {X Y : Type 0} (test : Y → Bool) (f : X → Y) (xs : List X) → position_or_len (λ x. test (f x)) xs ≡ position_or_len test (map f xs)
place_seen test f [] = refl
place_seen test f (x ∷ xs) = ap (λ n. cond (not (test (f x))) (1 + n) 0) (place_seen test f xs)

pub position_seen : {X Y : Type 0} (test : Y → Bool) (f : X → Y) (xs : List X) → position (λ x. test (f x)) xs ≡ position test (map f xs)
position_seen test f xs =
    ap (λ n. cond (nat_lt n (length xs)) (Some n) None) (place_seen test f xs)
    ∙ ap (λ n. cond (nat_lt (position_or_len test (map f xs)) n) (Some (position_or_len test (map f xs))) None) (sym (length-map xs f))

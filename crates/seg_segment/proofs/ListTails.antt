-- What is left of a list after a place, and the entry at a place with its number.
use Rattle.std.proofs.Common.{◌≡◌, ℕ, zero, suc, ◌+◌, ◌<◌, List, [], ◌∷◌, Some, length, get_or, drop, add-one, drop-cons, sym, ap, ◌∙◌, arith}
use Rattle.std.specs.List.{enumerate_from, slice_get}
use Rattle.std.proofs.lemmas.Option.{none-some, same_Some}
use Rattle.seg_values.specs.declared.schema.FieldEntry.{FieldEntry}

pub drop-item : {X : Type 0} (xs : List X) (i : ℕ) (x : X) → i < length xs → x ≡ get_or xs i x → drop i xs ≡ x ∷ drop (i + 1) xs
drop-item xs i x lt is = drop-cons xs i x lt ∙ ap (λ y. y ∷ drop (suc i) xs) (sym is) ∙ ap (λ j. x ∷ drop j xs) (sym (add-one i))

-- an entry with its number
pub entry_at : (n k : ℕ) (es : List FieldEntry) (e : FieldEntry) → slice_get es k ≡ Some e → (i : ℕ) → n + k ≡ i
    → slice_get (enumerate_from n es) k ≡ Some (i, e)
entry_at n k [] e is i at = absurd (none-some e is)
entry_at n zero (x ∷ es) e is i at =
    let place : n ≡ i = omega (arith, at) in
    ap (λ y. Some (n, y)) (same_Some x e is) ∙ ap (λ j. Some (j, e)) place
entry_at n (suc k) (x ∷ es) e is i at = entry_at (n + 1) k es e is i (omega (arith, at))

-- Bytes of values that are added one after the other.
use Rattle.std.proofs.Common.{◌≡◌, ℕ, ◌+◌, List, [], ◌∷◌, ◌++◌, length, map, refl, sym, ap, ◌∙◌, append_assoc, arith}
use Rattle.std.specs.Prelude.{OnOk, Result, Ok, Err, cond, is_ok}
use Rattle.std.specs.List.{flat_map}
use Rattle.std.specs.Int.{w64, to_le_bytes}
use Rattle.seg_column_format.specs.ColumnBytes.{ends_from, number_bytes, total}

-- one more value
pub put_next : {X : Type 0} (code : X → List ℕ) (out start : List ℕ) (old new : List X) (x : X) (after : List ℕ)
    → old ≡ x ∷ new → after ≡ out ++ code x → out ++ flat_map code old ≡ start → after ++ flat_map code new ≡ start
put_next code out start old new x after is more all =
    ap (λ (l : List ℕ). l ++ flat_map code new) more ∙ append_assoc out (code x) (flat_map code new)
    ∙ ap (λ l. out ++ flat_map code l) (sym is) ∙ all

-- the bytes of values that are made of others
pub flat_map-map : {X Y : Type 0} (code : Y → List ℕ) (f : X → Y) (xs : List X)
    → flat_map code (map f xs) ≡ flat_map (λ x. code (f x)) xs
flat_map-map code f [] = refl
flat_map-map code f (x ∷ xs) = ap (λ l. code (f x) ++ l) (flat_map-map code f xs)

-- one more end
pub end_next : (out start : List ℕ) (end next : ℕ) (old new : List (List (List ℕ))) (row : List (List ℕ))
    (after : List ℕ)
    → old ≡ row ∷ new → next ≡ end + length row → after ≡ out ++ to_le_bytes w64 next
    → out ++ number_bytes (ends_from end old) ≡ start → after ++ number_bytes (ends_from next new) ≡ start
end_next out start end next old new row after is more put all =
    ap (λ (l : List ℕ). l ++ number_bytes (ends_from next new)) put
    ∙ append_assoc out (to_le_bytes w64 next) (number_bytes (ends_from next new))
    ∙ ap (λ n. out ++ (to_le_bytes w64 n ++ number_bytes (ends_from n new))) more
    ∙ ap (λ l. out ++ number_bytes (ends_from end l)) (sym is) ∙ all

pub total_next : (end next all : ℕ) (old new : List (List (List ℕ))) (row : List (List ℕ))
    → old ≡ row ∷ new → next ≡ end + length row → end + total old ≡ all → next + total new ≡ all
total_next end next all old new row is more sum =
    let counted : total old ≡ length row + total new = ap total is in
    omega (arith, more, counted, sum)

-- both parts of a column
pub both_parts : (out ends values between after : List ℕ) → between ≡ out ++ ends → after ≡ between ++ values
    → after ≡ out ++ (ends ++ values)
both_parts out ends values between after first second =
    second ∙ ap (λ (l : List ℕ). l ++ values) first ∙ append_assoc out ends values

-- ---- results

pub on_ok_cond : {T E : Type 0} (r : Result T E) (new more old : List ℕ) → new ≡ cond (is_ok r) more old
    → OnOk r (new ≡ more)
on_ok_cond (Ok x) new more old h = h
on_ok_cond (Err e) new more old h = tt

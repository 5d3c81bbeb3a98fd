-- Columns with a value.
use Rattle.std.proofs.Common.{◌≡◌, ℕ, zero, suc, ◌<◌, ◌≤◌, false, ◌||◌, List, [], ◌∷◌, length, map, get_or, refl, arith}
use Rattle.std.specs.List.{list_any}
use Rattle.seg_model.specs.Columns.{ColumnValue, is_filled}
use Rattle.seg_column_format.specs.SchemaColumns.{has_values}

mapped_row : {X : Type 0} (value : X → ColumnValue) (xs : List X) → has_values xs ≡ is_filled (map value xs)
mapped_row value [] = refl
mapped_row value (x ∷ xs) = refl

pub mapped_rows : {X : Type 0} (value : X → ColumnValue) (rows : List (List X))
    → list_any has_values rows ≡ list_any is_filled (map (map value) rows)
mapped_rows value [] = refl
mapped_rows value (row ∷ rows) = (λ j. mapped_row value row j || mapped_rows value rows j)

-- no row has a value
pub none_filled : {X : Type 0} (rows : List (List X)) (count : ℕ) → length rows ≤ count
    → ((i : ℕ) → i < count → has_values (get_or rows i []) ≡ false) → list_any has_values rows ≡ false
none_filled [] count past none = refl
none_filled (row ∷ rows) zero past none = absurd (omega (arith, past))
none_filled (row ∷ rows) (suc count) past none =
    (λ j. (none 0 (omega arith) j || none_filled rows count (omega (arith, past)) (λ i lt. none (suc i) (omega (arith, lt))) j))

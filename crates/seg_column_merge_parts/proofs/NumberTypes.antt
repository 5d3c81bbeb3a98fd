-- The type of the numbers of a path, by their range and by the model.
use Rattle.std.proofs.Common.{◌≡◌, ℕ, ℤ, pos, negsuc, Bool, true, false, not, ◌||◌, List, [], ◌∷◌, map, Option, Some, None, refl, sym, ap, ◌∙◌, arith}
use Rattle.std.specs.Prelude.{◌&&◌, nat_lt, if◌then◌else◌}
use Rattle.std.specs.List.{list_any, list_all}
use Rattle.std.specs.Int.{is_negative}
use Rattle.std.proofs.lemmas.Bool.Decides.{nat_tests}
use Rattle.std.proofs.Math.Bool.{not-not}
use Rattle.seg_common.proofs.Lists.{list_any-map, list_any-same}
use Rattle.seg_common.specs.declared.column_type.ColumnType.{ColumnType}
use Rattle.seg_common.specs.declared.column_type.ColumnType.TheVariants.{I64, U64}
use Rattle.seg_model.specs.Columns.{ColumnValue, number, fits_i64, free_number_type, is_not_negative}
use Rattle.seg_column_merge_parts.specs.declared.number_range.NumberRange.{NumberRange}
use Rattle.seg_column_merge_parts.specs.NumberRanges.{is_large, type_of_range}

and_not : (a b : Bool) → (a && not b) ≡ not (not a || b)
and_not true b = refl
and_not false b = refl

module _ {X : Type 0} (f : X → Bool) where
  -- all pass where none fails
  all_pass : (xs : List X) → list_all f xs ≡ not (list_any (λ x. not (f x)) xs)
  all_pass [] = refl
  all_pass (x ∷ xs) = ap (λ b. f x && b) (all_pass xs) ∙ and_not (f x) (list_any (λ x. not (f x)) xs)

  some_fail : (xs : List X) → not (list_all f xs) ≡ list_any (λ x. not (f x)) xs
  some_fail xs = ap not (all_pass xs) ∙ not-not (list_any (λ x. not (f x)) xs)

-- all of all rows pass where none of any fails
rows_pass : {X : Type 0} (f : X → Bool) (rows : List (List X))
    → list_all (list_all f) rows ≡ not (list_any (list_any (λ x. not (f x))) rows)
rows_pass f rows =
    all_pass (list_all f) rows
    ∙ ap not (list_any-same (λ row. not (list_all f row)) (list_any (λ x. not (f x))) (some_fail f) rows)

-- the choice by the range, and that of the model
abbrev by_range : Bool → Bool → Option ColumnType
by_range large negative = if large then (if negative then None else Some U64) else Some I64

abbrev by_rows : Bool → Bool → Option ColumnType
by_rows fit stand = if fit then Some I64 else (if stand then Some U64 else None)

same_choice : (large negative : Bool) → by_range large negative ≡ by_rows (not large) (not negative)
same_choice true true = refl
same_choice true false = refl
same_choice false negative = refl

-- the range that rows have tells the type of their numbers
pub type_of_rows : (range : NumberRange) (rows : List (List ColumnValue))
    → range.large ≡ list_any (list_any (λ v. not (fits_i64 v))) rows
    → range.negative ≡ list_any (list_any (λ v. not (is_not_negative v))) rows
    → type_of_range range ≡ free_number_type rows
type_of_rows range rows large negative =
    let fit : not range.large ≡ list_all (list_all fits_i64) rows = ap not large ∙ sym (rows_pass fits_i64 rows) in
    let stand : not range.negative ≡ list_all (list_all is_not_negative) rows =
    ap not negative ∙ sym (rows_pass is_not_negative rows) in
    same_choice range.large range.negative ∙ (λ i. by_rows (fit i) (stand i))

-- ---- the numbers of the columns of files

negative_same : (z : ℤ) → not (is_not_negative (number z)) ≡ is_negative z
negative_same (pos n) = let none : false ≡ nat_lt n 0 = grind (arith, nat_tests) in none
negative_same (negsuc n) = refl

pub negative_signed : (zs : List ℤ)
    → list_any (λ v. not (is_not_negative v)) (map number zs) ≡ list_any is_negative zs
negative_signed zs =
    list_any-map (λ v. not (is_not_negative v)) number zs
    ∙ list_any-same (λ z. not (is_not_negative (number z))) is_negative negative_same zs

pub large_unsigned : (ns : List ℕ)
    → list_any (λ v. not (fits_i64 v)) (map (λ n. number (pos n)) ns) ≡ list_any is_large ns
large_unsigned ns = list_any-map (λ v. not (fits_i64 v)) (λ n. number (pos n)) ns

pub negative_unsigned : (ns : List ℕ) → list_any (λ v. not (is_not_negative v)) (map (λ n. number (pos n)) ns) ≡ false
negative_unsigned [] = refl
negative_unsigned (n ∷ ns) = negative_unsigned ns

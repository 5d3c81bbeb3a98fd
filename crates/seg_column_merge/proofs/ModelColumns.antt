-- Which column the model has at a key, by the rows of its path and kind.
use Rattle.std.proofs.Common.{◌≡◌, ℕ, Bool, true, false, ◌||◌, List, [], ◌∷◌, map, Option, Some, None, refl, sym, ap, ◌∙◌, arith}
use Rattle.std.specs.Prelude.{◌&&◌, String, if◌then◌else◌, nat_eq, not}
use Rattle.std.specs.declared.alloc.Global.{Global}
use Rattle.std.specs.List.{AllByRecursion, list_any}
use Rattle.std.proofs.lemmas.Bool.{false≢true, or_from, true≢false}
use Rattle.std.proofs.lemmas.Bool.Decides.{nat_tests}
use Rattle.seg_common.specs.declared.column_type.ColumnType.{ColumnType}
use Rattle.seg_common.specs.declared.column_type.ColumnType.TheVariants.{I64, U64, Bytes, Str, Bool as Boolean, IpAddr, DateTime}
use Rattle.seg_model.specs.Columns.{ColumnKey, ColumnValue, column_at, free_number_type, if_there, is_declared, is_filled, is_mixed, is_number, is_type, number_type, type_place, without_values}
use Rattle.seg_model.proofs.Exports.{is_filled-without_values}
use Rattle.seg_column_file.specs.ColumnFiles.{ColumnFile}
use Rattle.seg_column_merge.specs.Cells.{cells, is_absent, is_required, rows_with}
use Rattle.seg_column_merge.specs.MergedColumns.{required_key, rows_at}
use Rattle.seg_column_file.specs.RowOrders.{Place}
use Rattle.seg_column_merge_parts.specs.Tables.{Row, all_rows, kind_of}
use Rattle.seg_column_merge.proofs.MergedCells.{rows_are}
use Rattle.seg_column_merge.proofs.RequiredColumns.{declared_is, first_tells}

-- what is at a key of a type, where the column has another one or this
abbrev pub at_type : Option ColumnType → ColumnType → List (List ColumnValue) → Option (List (List ColumnValue))
at_type None u values = None
at_type (Some t) u values = if nat_eq (type_place u) (type_place t) then Some values else None

-- ---- what is at a key of numbers, by what is declared

abbrev pub at_number : Bool → Option ColumnType → ColumnType → List (List ColumnValue)
    → Option (List (List ColumnValue))
at_number declared type u values = if_there declared (if is_type u type then values else without_values values)

-- where one is declared
declared_number : (t u : ColumnType) (values : List (List ColumnValue)) (declared : Bool)
    → declared ≡ nat_eq (type_place u) (type_place t)
    → at_number declared (Some t) u values ≡ at_type (Some t) u values
declared_number t u values declared is = ap (λ (d : Bool). at_number d (Some t) u values) is
    ∙ by (nat_eq (type_place u) (type_place t))
  where
    by : (b : Bool) → if_there b (if b then values else without_values values) ≡ (if b then Some values else None)
    by true = refl
    by false = ap (λ (f : Bool). if f then Some (without_values values) else None) (is_filled-without_values values)

-- where none is
free_number : (type : Option ColumnType) (u : ColumnType) (values : List (List ColumnValue)) (filled : Bool)
    → list_any is_filled values ≡ filled
    → at_number false type u values ≡ (if filled then at_type type u values else None)
free_number None u values filled is =
    ap (λ (f : Bool). if f then Some (without_values values) else None) (is_filled-without_values values) ∙ by filled
  where
    by : (b : Bool) → let none : Option (List (List ColumnValue)) = None in none ≡ (if b then none else none)
    by true = refl
    by false = refl
free_number (Some t) u values filled is = by (nat_eq (type_place u) (type_place t)) filled is
  where
    by : (b f : Bool) → list_any is_filled values ≡ f
        → if_there false (if b then values else without_values values)
        ≡ (if f then (if b then Some values else None) else None)
    by true true is = ap (λ (x : Bool). if x then Some values else None) is
    by true false is = ap (λ (x : Bool). if x then Some values else None) is
    by false true is = ap (λ (x : Bool). if x then Some (without_values values) else None) (is_filled-without_values values)
    by false false is = ap (λ (x : Bool). if x then Some (without_values values) else None) (is_filled-without_values values)

-- ---- the types of required rows

same_type : (u t : ColumnType) (rest : List Row) → AllByRecursion (λ s. s.type ≡ t) rest
    → nat_eq (type_place u) (type_place t) ≡ false → list_any (is_required u) rest ≡ false
same_type u t [] all other = refl
same_type u t (s ∷ ss) all other =
    or_from (is_required u s) (list_any (is_required u) ss)
    (ap (λ (v : ColumnType). is_absent s.column && nat_eq (type_place u) (type_place v)) all.0
    ∙ ap (λ (b : Bool). is_absent s.column && b) other ∙ and_false (is_absent s.column))
    (same_type u t ss all.1 other)
  where
    and_false : (b : Bool) → (b && false) ≡ false
    and_false true = refl
    and_false false = refl

required_is : (u : ColumnType) (r : Row) (rest : List Row) → is_absent r.column ≡ true
    → AllByRecursion (λ s. s.type ≡ r.type) rest
    → list_any (is_required u) (r ∷ rest) ≡ nat_eq (type_place u) (type_place r.type)
required_is u r rest absent all =
    ap (λ (b : Bool). (b && nat_eq (type_place u) (type_place r.type)) || list_any (is_required u) rest) absent
    ∙ by (nat_eq (type_place u) (type_place r.type)) refl
  where
    by : (b : Bool) → nat_eq (type_place u) (type_place r.type) ≡ b
        → (nat_eq (type_place u) (type_place r.type) || list_any (is_required u) rest)
        ≡ nat_eq (type_place u) (type_place r.type)
    by true e =
        (λ j. e j || list_any (is_required u) rest) ∙ sym e
    by false e =
        (λ j. e j || list_any (is_required u) rest) ∙ same_type u r.type rest all e ∙ sym e

-- ---- at a key

module _ (required : List (String Global × ColumnType)) (files : List ColumnFile) (places : List Place) where
  abbrev pub declared : ColumnKey → Bool
  declared q = is_declared (map required_key required) q

  module _ (q : ColumnKey) where
    abbrev pub rows : List Row
    rows = rows_with q.path (kind_of q.type) (all_rows required files)

    abbrev pub values : List (List ColumnValue)
    values = cells rows places

    abbrev pub type_of_numbers : Option ColumnType
    type_of_numbers = number_type (map required_key required) q.path values

    same_values : rows_at files places q ≡ values
    same_values = rows_are q required files places

    -- what the model has
    abbrev pub found : Option (List (List ColumnValue))
    found = column_at (map required_key required) q (rows_at files places q)

    abbrev pub mixed : Bool
    mixed = is_mixed (map required_key required) q (rows_at files places q)

    found_is : found ≡ column_at (map required_key required) q values
    found_is = ap (column_at (map required_key required) q) same_values

    declared_of : (u : ColumnType) → kind_of u ≡ kind_of q.type
        → declared (record { path = q.path; type = u }) ≡ list_any (is_required u) rows
    declared_of u same =
        declared_is (record { path = q.path; type = u }) required files
        ∙ ap (λ (k : ℕ). list_any (is_required u) (rows_with q.path k (all_rows required files))) same

    -- ---- values of other types

    module _ (other : is_number q.type ≡ false) where
      plain : found ≡ if_there (declared q) values
      plain = found_is
          ∙ ap (λ (b : Bool). if_there (declared q)
          (if not b || is_type q.type type_of_numbers then values else without_values values)) other

      pub not_mixed : mixed ≡ false
      not_mixed =
          ap (λ (b : Bool). b && not (is_type I64 (number_type (map required_key required) q.path
          (rows_at files places q))
          || is_type U64 (number_type (map required_key required) q.path (rows_at files places q)))) other

    -- ---- numbers

    module _ (number : is_number q.type ≡ true) where
      of_number : found ≡ at_number (declared q) type_of_numbers q.type values
      of_number = found_is
          ∙ ap (λ (b : Bool). if_there (declared q)
          (if not b || is_type q.type type_of_numbers then values else without_values values)) number

      pub mixed_is : mixed ≡ not (is_type I64 type_of_numbers || is_type U64 type_of_numbers)
      mixed_is =
          ap (is_mixed (map required_key required) q) same_values
          ∙ ap (λ (b : Bool). b && not (is_type I64 type_of_numbers || is_type U64 type_of_numbers)) number

      kind_zero : kind_of q.type ≡ 0
      kind_zero = by q.type number
        where
          by : (t : ColumnType) → is_number t ≡ true → kind_of t ≡ 0
          by I64 n = refl
          by U64 n = refl
          by _ n = absurd (false≢true n)

      type_by : (a b : Bool) → list_any (is_required I64) rows ≡ a → list_any (is_required U64) rows ≡ b
          → type_of_numbers ≡ (if a then Some I64 else (if b then Some U64 else free_number_type values))
      type_by a b is_a is_b = λ j.
          if (declared_of I64 (sym kind_zero) ∙ is_a) j then Some I64
          else (if (declared_of U64 (sym kind_zero) ∙ is_b) j then Some U64 else free_number_type values)

  -- ---- a group of rows

  module _ (q : ColumnKey) (r : Row) (rest : List Row)
      (is : rows_with q.path (kind_of q.type) (all_rows required files) ≡ r ∷ rest)
      (same_kind : kind_of r.type ≡ kind_of q.type) where
    abbrev pub group_values : List (List ColumnValue)
    group_values = cells (rows_with q.path (kind_of q.type) (all_rows required files)) places

    -- types of one kind that aren't numbers are one
    one_type : (t u : ColumnType) → kind_of t ≡ kind_of u → is_number u ≡ false
        → nat_eq (type_place u) (type_place t) ≡ true
    one_type t u e other = by t u (grind (arith, nat_tests, e)) other
      where
        by : (t u : ColumnType) → nat_eq (kind_of t) (kind_of u) ≡ true → is_number u ≡ false
            → nat_eq (type_place u) (type_place t) ≡ true
        by I64 I64 e other = absurd (true≢false other)
        by I64 U64 e other = absurd (true≢false other)
        by I64 _ e other = absurd (false≢true e)
        by U64 I64 e other = absurd (true≢false other)
        by U64 U64 e other = absurd (true≢false other)
        by U64 _ e other = absurd (false≢true e)
        by Bytes Bytes e other = refl
        by Bytes _ e other = absurd (false≢true e)
        by Str Str e other = refl
        by Str _ e other = absurd (false≢true e)
        by Boolean Boolean e other = refl
        by Boolean _ e other = absurd (false≢true e)
        by IpAddr IpAddr e other = refl
        by IpAddr _ e other = absurd (false≢true e)
        by DateTime DateTime e other = refl
        by DateTime _ e other = absurd (false≢true e)

    declared_here : declared q ≡ list_any (is_required q.type) (r ∷ rest)
    declared_here = declared_of q q.type refl ∙ ap (list_any (is_required q.type)) is

    none_required : is_absent r.column ≡ false → (u : ColumnType)
        → list_any (is_required u) (rows_with q.path (kind_of q.type) (all_rows required files)) ≡ false
    none_required present u = first_tells q.path (kind_of q.type) required files r rest is present u

    -- ---- where the first row is required

    module _ (absent : is_absent r.column ≡ true) (all : AllByRecursion (λ s. s.type ≡ r.type) rest) where
      required_at : (u : ColumnType)
          → list_any (is_required u) (rows_with q.path (kind_of q.type) (all_rows required files))
          ≡ nat_eq (type_place u) (type_place r.type)
      required_at u = ap (list_any (is_required u)) is ∙ required_is u r rest absent all

      type_required : is_number q.type ≡ true → type_of_numbers q ≡ Some r.type
      type_required number =
          type_by q number (nat_eq 0 (type_place r.type)) (nat_eq 1 (type_place r.type)) (required_at I64)
          (required_at U64)
          ∙ by r.type (same_kind ∙ kind_zero q number)
        where
          by : (t : ColumnType) → kind_of t ≡ 0
              → (if nat_eq 0 (type_place t) then Some I64
              else (if nat_eq 1 (type_place t) then Some U64 else free_number_type group_values)) ≡ Some t
          by I64 e = refl
          by U64 e = refl
          by Bytes e = absurd (omega (arith, e))
          by Str e = absurd (omega (arith, e))
          by Boolean e = absurd (omega (arith, e))
          by IpAddr e = absurd (omega (arith, e))
          by DateTime e = absurd (omega (arith, e))

      pub required_number : is_number q.type ≡ true → found q ≡ at_type (Some r.type) q.type group_values
      required_number number =
          of_number q number
          ∙ ap (λ (t : Option ColumnType). at_number (declared q) t q.type group_values) (type_required number)
          ∙ declared_number r.type q.type group_values (declared q) (declared_of q q.type refl ∙ required_at q.type)

      pub required_other : is_number q.type ≡ false → found q ≡ at_type (Some r.type) q.type group_values
      required_other other =
          let same : nat_eq (type_place q.type) (type_place r.type) ≡ true = one_type r.type q.type same_kind other in
          plain q other
          ∙ ap (λ (d : Bool). if_there d group_values) (declared_of q q.type refl ∙ required_at q.type ∙ same)
          ∙ sym (ap (λ (b : Bool). if b then Some group_values else None) same)

      pub mixed_required : mixed q ≡ false
      mixed_required = by (is_number q.type) refl
        where
          is_one : (t : ColumnType) → kind_of t ≡ 0 → not (is_type I64 (Some t) || is_type U64 (Some t)) ≡ false
          is_one I64 e = refl
          is_one U64 e = refl
          is_one Bytes e = absurd (omega (arith, e))
          is_one Str e = absurd (omega (arith, e))
          is_one Boolean e = absurd (omega (arith, e))
          is_one IpAddr e = absurd (omega (arith, e))
          is_one DateTime e = absurd (omega (arith, e))

          by : (b : Bool) → is_number q.type ≡ b → mixed q ≡ false
          by true number =
              mixed_is q number
              ∙ ap (λ (t : Option ColumnType). not (is_type I64 t || is_type U64 t)) (type_required number)
              ∙ is_one r.type (same_kind ∙ kind_zero q number)
          by false other = not_mixed q other

    -- ---- where none is

    module _ (present : is_absent r.column ≡ false) where
      pub type_free : is_number q.type ≡ true → type_of_numbers q ≡ free_number_type group_values
      type_free number = type_by q number false false (none_required present I64) (none_required present U64)

      pub free_of : (filled : Bool) → list_any is_filled group_values ≡ filled → is_number q.type ≡ true
          → found q ≡ (if filled then at_type (free_number_type group_values) q.type group_values else None)
      free_of filled is_filled number =
          of_number q number
          ∙ (λ j. at_number ((declared_of q q.type refl ∙ none_required present q.type) j)
          (type_free number j) q.type group_values)
          ∙ free_number (free_number_type group_values) q.type group_values filled is_filled

      pub other_of : (filled : Bool) → list_any is_filled group_values ≡ filled → is_number q.type ≡ false
          → found q ≡ (if filled then at_type (Some r.type) q.type group_values else None)
      other_of filled is_filled other =
          let same : nat_eq (type_place q.type) (type_place r.type) ≡ true = one_type r.type q.type same_kind other in
          plain q other
          ∙ (λ j. if_there ((declared_of q q.type refl ∙ none_required present q.type) j) group_values)
          ∙ ap (λ (f : Bool). if f then Some group_values else None) is_filled
          ∙ by filled same
        where
          by : (f : Bool) → nat_eq (type_place q.type) (type_place r.type) ≡ true
              → (if f then Some group_values else None) ≡
              (if f then at_type (Some r.type) q.type group_values else None)
          by true same = sym (ap (λ (b : Bool). if b then Some group_values else None) same)
          by false same = refl

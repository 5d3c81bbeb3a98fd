-- What is decided of the rows of one path and kind is what the model has at its keys.
use Rattle.std.proofs.Common.{◌≡◌, Bool, true, false, ◌||◌, List, ◌∷◌, Option, Some, None, refl, sym, ap, ◌∙◌}
use Rattle.std.specs.Prelude.{String, if◌then◌else◌, not}
use Rattle.std.specs.declared.alloc.Global.{Global}
use Rattle.std.specs.List.{AllByRecursion, list_all, list_any}
use Rattle.std.proofs.lemmas.Option.{none-some, same_Some}
use Rattle.seg_common.specs.declared.column_type.ColumnType.{ColumnType}
use Rattle.seg_common.specs.declared.column_type.ColumnType.TheVariants.{I64, U64}
use Rattle.seg_model.proofs.Exports.{all_fit}
use Rattle.seg_model.specs.Columns.{ColumnKey, ColumnValue, fits_i64, free_number_type, is_filled, is_not_negative, is_number, is_type}
use Rattle.seg_column_file.specs.ColumnFiles.{ColumnFile}
use Rattle.seg_column_merge.specs.Cells.{is_absent, rows_with}
use Rattle.seg_column_merge.specs.Decisions.{as_there, merged_type}
use Rattle.seg_column_file.specs.RowOrders.{Place}
use Rattle.seg_column_merge_parts.specs.Tables.{Row, all_rows, kind_of}
use Rattle.seg_column_merge.proofs.ModelColumns.{at_type, found, free_of, group_values, mixed, mixed_is, mixed_required, not_mixed, other_of, required_number, required_other, type_free}
use Rattle.seg_column_merge.proofs.MergedTypes.{same_kind_number}

-- numbers have one of two types, or none
free_kind : (values : List (List ColumnValue)) (x : ColumnType) → free_number_type values ≡ Some x
    → not (is_type I64 (Some x) || is_type U64 (Some x)) ≡ false
free_kind values x is = by (list_all (list_all fits_i64) values) (list_all (list_all is_not_negative) values) is
  where
    by : (a b : Bool) → (if a then Some I64 else (if b then Some U64 else None)) ≡ Some x
        → not (is_type I64 (Some x) || is_type U64 (Some x)) ≡ false
    by true b e = ap (λ (t : ColumnType). not (is_type I64 (Some t) || is_type U64 (Some t))) (sym (same_Some I64 x e))
    by false true e = ap (λ (t : ColumnType). not (is_type I64 (Some t) || is_type U64 (Some t)))
        (sym (same_Some U64 x e))
    by false false e = absurd (none-some x e)

module _ (required : List (String Global × ColumnType)) (files : List ColumnFile) (places : List Place) (q : ColumnKey)
    (r : Row) (rest : List Row) (is : rows_with q.path (kind_of q.type) (all_rows required files) ≡ r ∷ rest)
    (same_kind : kind_of r.type ≡ kind_of q.type)
    (types : is_absent r.column ≡ true → AllByRecursion (λ s. s.type ≡ r.type) rest) where
  abbrev values : List (List ColumnValue)
  values = group_values required files places q r rest is same_kind

  abbrev found_here : Option (List (List ColumnValue))
  found_here = found required files places q

  abbrev mixed_here : Bool
  mixed_here = mixed required files places q

  number_same : is_number r.type ≡ is_number q.type
  number_same = same_kind_number r.type q.type same_kind

  -- the decision, by what it goes by
  abbrev choice : Bool → Bool → Bool → Option (Option ColumnType)
  choice absent filled number =
      if absent then Some (Some r.type)
      else (if filled then (if number then as_there (free_number_type values) else Some (Some r.type)) else Some None)

  record IsDecided (t : Option ColumnType) : Type 0 where
    has : found_here ≡ at_type t q.type values
    clear : mixed_here ≡ false

  by_choice : (absent filled number : Bool) → is_absent r.column ≡ absent → list_any is_filled values ≡ filled
      → is_number q.type ≡ number → (t : Option ColumnType) → choice absent filled number ≡ Some t → IsDecided t
  by_choice true filled true a f n t e = record {
    has = required_number required files places q r rest is same_kind a (types a) n
        ∙ ap (λ (x : Option ColumnType). at_type x q.type values) (same_Some (Some r.type) t e);
    clear = mixed_required required files places q r rest is same_kind a (types a);
  }
  by_choice true filled false a f n t e = record {
    has = required_other required files places q r rest is same_kind a (types a) n
        ∙ ap (λ (x : Option ColumnType). at_type x q.type values) (same_Some (Some r.type) t e);
    clear = mixed_required required files places q r rest is same_kind a (types a);
  }
  by_choice false true true a f n t e = by_free (free_number_type values) refl e
    where
      by_free : (free : Option ColumnType) → free_number_type values ≡ free → as_there free ≡ Some t → IsDecided t
      by_free None free e = absurd (none-some t e)
      by_free (Some x) free e = record {
        has = free_of required files places q r rest is same_kind a true f n
            ∙ ap (λ (y : Option ColumnType). at_type y q.type values) (free ∙ same_Some (Some x) t e);
        clear = mixed_is required files places q n
            ∙ ap (λ (y : Option ColumnType). not (is_type I64 y || is_type U64 y))
            (type_free required files places q r rest is same_kind a n ∙ free)
            ∙ free_kind values x free;
      }
  by_choice false true false a f n t e = record {
    has = other_of required files places q r rest is same_kind a true f n
        ∙ ap (λ (x : Option ColumnType). at_type x q.type values) (same_Some (Some r.type) t e);
    clear = not_mixed required files places q n;
  }
  by_choice false false true a f n t e = record {
    has = free_of required files places q r rest is same_kind a false f n
        ∙ ap (λ (x : Option ColumnType). at_type x q.type values) (same_Some None t e);
    clear = mixed_is required files places q n
        ∙ ap (λ (y : Option ColumnType). not (is_type I64 y || is_type U64 y))
        (type_free required files places q r rest is same_kind a n
        ∙ ap (λ (b : Bool). if b then Some I64
        else (if list_all (list_all is_not_negative) values then Some U64 else None)) (all_fit values f));
  }
  by_choice false false false a f n t e = record {
    has = other_of required files places q r rest is same_kind a false f n
        ∙ ap (λ (x : Option ColumnType). at_type x q.type values) (same_Some None t e);
    clear = not_mixed required files places q n;
  }

  choice_is : merged_type (r ∷ rest) values ≡ choice (is_absent r.column) (list_any is_filled values) (is_number q.type)
  choice_is =
      ap (λ (n : Bool). choice (is_absent r.column) (list_any is_filled values) n) number_same

  decided : (t : Option ColumnType) → merged_type (r ∷ rest) values ≡ Some t → IsDecided t
  decided t e = by_choice (is_absent r.column) (list_any is_filled values) (is_number q.type) refl refl refl t
      (sym choice_is ∙ e)

  pub model_has : (t : Option ColumnType) → merged_type (r ∷ rest) values ≡ Some t
      → found_here ≡ at_type t q.type values
  model_has t e = (decided t e).has

  pub model_unmixed : (t : Option ColumnType) → merged_type (r ∷ rest) values ≡ Some t → mixed_here ≡ false
  model_unmixed t e = (decided t e).clear

  -- where nothing is decided
  undecided : (absent filled number : Bool) → is_absent r.column ≡ absent → list_any is_filled values ≡ filled
      → is_number q.type ≡ number → choice absent filled number ≡ None → mixed_here ≡ true
  undecided true filled number a f n e = absurd (none-some (Some r.type) (sym e))
  undecided false true true a f n e = by_free (free_number_type values) refl e
    where
      by_free : (free : Option ColumnType) → free_number_type values ≡ free → as_there free ≡ None → mixed_here ≡ true
      by_free None free e =
          mixed_is required files places q n
          ∙ ap (λ (y : Option ColumnType). not (is_type I64 y || is_type U64 y))
          (type_free required files places q r rest is same_kind a n ∙ free)
      by_free (Some x) free e = absurd (none-some (Some x) (sym e))
  undecided false true false a f n e = absurd (none-some (Some r.type) (sym e))
  undecided false false number a f n e =
      let nothing : Option ColumnType = None in
      absurd (none-some nothing (sym e))

  pub model_mixed : merged_type (r ∷ rest) values ≡ None → mixed_here ≡ true
  model_mixed e = undecided (is_absent r.column) (list_any is_filled values) (is_number q.type) refl refl refl
      (sym choice_is ∙ e)

-- What the type of a column tells of its values.
use Rattle.std.proofs.Common.{◌≡◌, ℕ, ◌<◌, ◌^◌, Bool, true, false, cond, List, [], ◌∷◌, map, Option, Some, None, sym, refl, ap, subst, ◌∙◌, arith}
use Rattle.std.specs.Prelude.{◌&&◌, not, nat_lt}
use Rattle.std.specs.List.{AllByRecursion, list_all}
use Rattle.std.proofs.lemmas.Bool.{false≢true}
use Rattle.std.proofs.lemmas.Bool.Decides.{nat_tests}
use Rattle.std.specs.Cmp.{first_so, second_so}
use Rattle.std.proofs.lemmas.Option.{same_Some}
use Rattle.std.specs.Option.{option_or}
use Rattle.seg_common.specs.declared.column_type.ColumnType.{ColumnType}
use Rattle.seg_common.specs.declared.column_type.ColumnType.TheVariants as types
use Rattle.seg_model.specs.Columns.{ColumnValue, fits_i64, is_not_negative}
use Rattle.seg_column_writer.specs.ValueKinds.{kind_of}
use Rattle.seg_column_writer.specs.RecordedColumns.{type_of_values}
use Rattle.seg_column_writer.specs.ColumnRecords.{RowedValue}
use Rattle.seg_column_writer.specs.RowValues.{fits_signed, fits_unsigned}
use Rattle.seg_column_writer.specs.SoundColumns.{AreSound, IsDeclared, MarksTell, rowed}
use Rattle.seg_column_writer.specs.declared.row_value.RowValue.{RowValue}
use Rattle.seg_column_writer.specs.declared.value_kind.ValueKind.{ValueKind}
use Rattle.seg_column_writer.specs.declared.value_kind.ValueKind.TheVariants.{Number, Bytes, Str, Bool as Boolean, IpAddr, DateTime}
use Rattle.seg_column_writer.proofs.SoundColumns.{signed_test, unsigned_test}

-- ---- the kind

free_kind : (kind : ValueKind) (vs : List ColumnValue) (type : ColumnType) → type_of_values kind vs ≡ Some type
    → kind ≡ kind_of type
free_kind Number vs type e = by (list_all (list_all fits_i64) (vs ∷ [])) (list_all (list_all is_not_negative) (vs ∷ [])) e
  where
    by : (a b : Bool) → cond a (Some types.I64) (cond b (Some types.U64) None) ≡ Some type → Number ≡ kind_of type
    by true b e = ap kind_of (same_Some types.I64 type e)
    by false true e = ap kind_of (same_Some types.U64 type e)
    by false false e = cc
free_kind Bytes vs type e = ap kind_of (same_Some types.Bytes type e)
free_kind Str vs type e = ap kind_of (same_Some types.Str type e)
free_kind Boolean vs type e = ap kind_of (same_Some types.Bool type e)
free_kind IpAddr vs type e = ap kind_of (same_Some types.IpAddr type e)
free_kind DateTime vs type e = ap kind_of (same_Some types.DateTime type e)

declared_kind : (kind : ValueKind) (type : ColumnType) (signed unsigned : Bool)
    → IsDeclared kind (Some type) signed unsigned → kind ≡ kind_of type
declared_kind kind types.I64 signed unsigned is = is.0
declared_kind kind types.U64 signed unsigned is = is.0
declared_kind kind types.Bytes signed unsigned is = is
declared_kind kind types.Str signed unsigned is = is
declared_kind kind types.Bool signed unsigned is = is
declared_kind kind types.IpAddr signed unsigned is = is
declared_kind kind types.DateTime signed unsigned is = is

typed_kind : (kind : ValueKind) (declared : Option ColumnType) (signed unsigned : Bool) (vs : List ColumnValue)
    (type : ColumnType) → IsDeclared kind declared signed unsigned
    → option_or declared (type_of_values kind vs) ≡ Some type → kind ≡ kind_of type
typed_kind kind None signed unsigned vs type is e = free_kind kind vs type e
typed_kind kind (Some other) signed unsigned vs type is e =
    declared_kind kind other signed unsigned is ∙ ap kind_of (same_Some other type e)

-- ---- numbers

abbrev values_of : ValueKind → List (List ℕ) → List RowValue → List ColumnValue
values_of kind terms values = map (λ (v : RowedValue). v.value) (map (rowed kind terms) values)

signed_values : (terms : List (List ℕ)) (values : List RowValue)
    → list_all fits_i64 (values_of Number terms values) ≡ list_all fits_signed values
signed_values terms [] = refl
signed_values terms (v ∷ values) = λ j. signed_test v.negative v.number j && signed_values terms values j

unsigned_values : (terms : List (List ℕ)) (values : List RowValue)
    → list_all is_not_negative (values_of Number terms values) ≡ list_all fits_unsigned values
unsigned_values terms [] = refl
unsigned_values terms (v ∷ values) = λ j. unsigned_test v.negative v.number j && unsigned_values terms values j

free_signed : (vs : List ColumnValue) → type_of_values Number vs ≡ Some types.I64 → list_all fits_i64 vs ≡ true
free_signed vs e =
    by (list_all fits_i64 vs && true) (list_all is_not_negative vs && true) refl e
  where
    by : (a b : Bool) → (list_all fits_i64 vs && true) ≡ a
        → cond a (Some types.I64) (cond b (Some types.U64) None) ≡ Some types.I64 → list_all fits_i64 vs ≡ true
    by true b is e = first_so (list_all fits_i64 vs) true is
    by false true is e = cc
    by false false is e = cc

free_unsigned : (vs : List ColumnValue) → type_of_values Number vs ≡ Some types.U64 → list_all is_not_negative vs ≡ true
free_unsigned vs e =
    by (list_all fits_i64 vs && true) (list_all is_not_negative vs && true) refl e
  where
    by : (a b : Bool) → (list_all is_not_negative vs && true) ≡ b
        → cond a (Some types.I64) (cond b (Some types.U64) None) ≡ Some types.U64 → list_all is_not_negative vs ≡ true
    by true b is e = cc
    by false true is e = first_so (list_all is_not_negative vs) true is
    by false false is e = cc

module _ (kind : ValueKind) (signed unsigned : Bool) (values : List RowValue) (terms : List (List ℕ))
    (marks : MarksTell kind signed unsigned values) where
  marked : kind ≡ Number → MarksTell Number signed unsigned values
  marked is = subst (λ (k : ValueKind). MarksTell k signed unsigned values) is marks

  signed_all : (declared : Option ColumnType) → IsDeclared kind declared signed unsigned
      → option_or declared (type_of_values kind (values_of kind terms values)) ≡ Some types.I64
      → list_all fits_signed values ≡ true
  signed_all None is e =
      let number : kind ≡ Number = free_kind kind (values_of kind terms values) types.I64 e in
      sym (signed_values terms values)
      ∙ free_signed (values_of Number terms values)
      (subst (λ (k : ValueKind). type_of_values k (values_of k terms values) ≡ Some types.I64) number e)
  signed_all (Some other) is e =
      let here = subst (λ (t : ColumnType). IsDeclared kind (Some t) signed unsigned) (same_Some other types.I64 e) is in
      sym (marked here.0).0 ∙ here.1

  unsigned_all : (declared : Option ColumnType) → IsDeclared kind declared signed unsigned
      → option_or declared (type_of_values kind (values_of kind terms values)) ≡ Some types.U64
      → list_all fits_unsigned values ≡ true
  unsigned_all None is e =
      let number : kind ≡ Number = free_kind kind (values_of kind terms values) types.U64 e in
      sym (unsigned_values terms values)
      ∙ free_unsigned (values_of Number terms values)
      (subst (λ (k : ValueKind). type_of_values k (values_of k terms values) ≡ Some types.U64) number e)
  unsigned_all (Some other) is e =
      let here = subst (λ (t : ColumnType). IsDeclared kind (Some t) signed unsigned) (same_Some other types.U64 e) is in
      sym (marked here.0).1 ∙ here.1

-- ---- of each value

-- a number from -2^63 on that is below 2^63, in a column of such; one that isn't negative in a column of the others
abbrev pub IsOfType : ColumnType → RowValue → Type 0
IsOfType types.I64 v = v.number < 2 ^ 63
IsOfType types.U64 v = v.negative ≡ false
IsOfType _ v = Unit {0}

each_signed : (values : List RowValue) → list_all fits_signed values ≡ true → AllByRecursion (IsOfType types.I64) values
each_signed [] e = tt
each_signed (v ∷ values) e =
    let here : nat_lt v.number (2 ^ 63) ≡ true = first_so (fits_signed v) (list_all fits_signed values) e in
    (grind (arith, nat_tests, here), each_signed values (second_so (fits_signed v) (list_all fits_signed values) e))

each_unsigned : (values : List RowValue) → list_all fits_unsigned values ≡ true
    → AllByRecursion (IsOfType types.U64) values
each_unsigned [] e = tt
each_unsigned (v ∷ values) e = (
  positive v.negative (first_so (fits_unsigned v) (list_all fits_unsigned values) e),
  each_unsigned values (second_so (fits_unsigned v) (list_all fits_unsigned values) e),
)
  where
    positive : (b : Bool) → not b ≡ true → b ≡ false
    positive true e = absurd (false≢true e)
    positive false e = refl

any_type : {P : RowValue → Type 0} → ((v : RowValue) → P v) → (values : List RowValue) → AllByRecursion P values
any_type each [] = tt
any_type each (v ∷ values) = (each v, any_type each values)

module _ (kind : ValueKind) (declared : Option ColumnType) (signed unsigned : Bool) (values : List RowValue)
    (terms : List (List ℕ)) (sound : AreSound kind declared signed unsigned values terms) (type : ColumnType)
    (typed : option_or declared (type_of_values kind (values_of kind terms values)) ≡ Some type) where
  pub kind_is : kind ≡ kind_of type
  kind_is = typed_kind kind declared signed unsigned (values_of kind terms values) type sound.declared_is typed

  of_type : (other : ColumnType) → type ≡ other → AllByRecursion (IsOfType other) values
  of_type types.I64 e = each_signed values
      (signed_all kind signed unsigned values terms sound.marks declared sound.declared_is (typed ∙ ap Some e))
  of_type types.U64 e = each_unsigned values
      (unsigned_all kind signed unsigned values terms sound.marks declared sound.declared_is (typed ∙ ap Some e))
  of_type types.Bytes e = any_type (λ v. tt) values
  of_type types.Str e = any_type (λ v. tt) values
  of_type types.Bool e = any_type (λ v. tt) values
  of_type types.IpAddr e = any_type (λ v. tt) values
  of_type types.DateTime e = any_type (λ v. tt) values

  pub each_of_type : AllByRecursion (IsOfType type) values
  each_of_type = of_type type refl

  pub each_fits : AllByRecursion (λ (v : RowValue). type ≡ types.I64 → v.number < 2 ^ 63) values
  each_fits = by values each_of_type
    where
      by : (vs : List RowValue) → AllByRecursion (IsOfType type) vs
          → AllByRecursion (λ (v : RowValue). type ≡ types.I64 → v.number < 2 ^ 63) vs
      by [] each = tt
      by (v ∷ vs) each = (λ e. subst (λ (t : ColumnType). IsOfType t v) e each.0, by vs each.1)

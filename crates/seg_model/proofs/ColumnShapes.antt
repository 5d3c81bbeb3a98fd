-- Columns of full shape.
use Rattle.std.proofs.Common.{◌≡◌, ℕ, Bool, true, false, cond, List, [], ◌∷◌, length, Some, None, Option, sym, refl, ap, ◌∙◌, subst}
use Rattle.std.specs.Prelude.{◌||◌, not, is_some}
use mathlib.Core.Bool.{true≢false}
use Rattle.std.specs.List.{list_any}
use Rattle.std.specs.FinMap.{get}
use Rattle.seg_common.specs.declared.column_type.ColumnType.{ColumnType}
use Rattle.seg_common.specs.declared.column_type.ColumnType.TheVariants.{I64, U64, Bytes, Str, Bool as Boolean, IpAddr, DateTime}
use Rattle.seg_model.specs.Fields.{Schema}
use Rattle.seg_model.specs.Columns.{ColumnValue, ColumnKey, Columns, declared_columns, is_declared, number_type, free_number_type, is_number, is_type, without_values, rows_of, is_filled, if_there}
use Rattle.seg_model.specs.Shape.{IsJsonPath, is_json_type, IsFreeColumn, AreRowsOf}
use Rattle.seg_model.proofs.JoinedColumns.{AreColumns, length-rows_of, is_filled-without_values}

abbrev Rows : Type 0
Rows = List (List ColumnValue)

-- a key that no declared column has; of numbers neither
abbrev pub IsUndeclared : List ColumnKey → List ℕ → ColumnType → Type 0
IsUndeclared declared path I64 = (is_declared declared (record { path = path; type = I64 }) ≡ false) × (is_declared declared (record { path = path; type = U64 }) ≡ false)
IsUndeclared declared path U64 = (is_declared declared (record { path = path; type = I64 }) ≡ false) × (is_declared declared (record { path = path; type = U64 }) ≡ false)
IsUndeclared declared path type = is_declared declared (record { path = path; type = type }) ≡ false

is_some-if_there : (d : Bool) (rows : Rows) → is_some (if_there d rows) ≡ (d || list_any is_filled rows)
is_some-if_there d rows = by (d || list_any is_filled rows)
  where
    by : (b : Bool) → is_some (cond b (Some rows) None) ≡ b
    by true = refl
    by false = refl

some_if_there : (d : Bool) (rows got : Rows) → if_there d rows ≡ Some got → got ≡ rows
some_if_there d rows got e = by (d || list_any is_filled rows) e
  where
    by : (b : Bool) → cond b (Some rows) None ≡ Some got → got ≡ rows
    by true e = cc
    by false e = absurd (true≢false (sym (ap is_some e)))

AreRowsOf-without_values : (type : ColumnType) (rows : Rows) → AreRowsOf type (without_values rows)
AreRowsOf-without_values type [] = tt
AreRowsOf-without_values type (r ∷ rows) = (tt, AreRowsOf-without_values type rows)

AreRowsOf-rows_of : (declared : List ColumnKey) (k : ColumnKey) (rows : Rows) → AreRowsOf k.type rows → AreRowsOf k.type (rows_of declared k rows)
AreRowsOf-rows_of declared k rows h = by (not (is_number k.type) || is_type k.type (number_type declared k.path rows))
  where
    by : (b : Bool) → AreRowsOf k.type (cond b rows (without_values rows))
    by true = h
    by false = AreRowsOf-without_values k.type rows

filled_rows_of : (declared : List ColumnKey) (k : ColumnKey) (rows : Rows) → list_any is_filled (rows_of declared k rows) ≡ true → list_any is_filled rows ≡ true
filled_rows_of declared k rows h = by (not (is_number k.type) || is_type k.type (number_type declared k.path rows)) h
  where
    by : (b : Bool) → list_any is_filled (cond b rows (without_values rows)) ≡ true → list_any is_filled rows ≡ true
    by true h = h
    by false h = absurd (true≢false (sym h ∙ is_filled-without_values rows))

-- a column of numbers that is not declared has the type of its numbers
has_number_type : (declared : List ColumnKey) (t : Bool) (rows : Rows) → is_some (if_there false (cond t rows (without_values rows))) ≡ true → t ≡ true
has_number_type declared true rows h = refl
has_number_type declared false rows h = absurd (true≢false (sym h ∙ is_some-if_there false (without_values rows) ∙ is_filled-without_values rows))

not_both : (nt : Option ColumnType) → is_type I64 nt ≡ true → is_type U64 nt ≡ true → ⊥
not_both None h k = true≢false (sym h)
not_both (Some I64) h k = true≢false (sym k)
not_both (Some U64) h k = true≢false (sym h)
not_both (Some Bytes) h k = true≢false (sym h)
not_both (Some Str) h k = true≢false (sym h)
not_both (Some Boolean) h k = true≢false (sym h)
not_both (Some IpAddr) h k = true≢false (sym h)
not_both (Some DateTime) h k = true≢false (sym h)

module _ (schema : Schema) (at : ColumnKey → Rows) (cs : Columns) (n : ℕ) (are : AreColumns (declared_columns schema) at cs) (numbers : (path : List ℕ) → at (record { path = path; type = I64 }) ≡ at (record { path = path; type = U64 })) where
  pub declared_there : (k : ColumnKey) → is_declared (declared_columns schema) k ≡ true → is_some (get cs k) ≡ true
  declared_there k d = ap is_some (are.gets k) ∙ is_some-if_there (is_declared (declared_columns schema) k) (rows_of (declared_columns schema) k (at k)) ∙ ap (λ b. b || list_any is_filled (rows_of (declared_columns schema) k (at k))) d

  rows_are : (k : ColumnKey) (rows : Rows) → get cs k ≡ Some rows → rows ≡ rows_of (declared_columns schema) k (at k)
  rows_are k rows e = some_if_there (is_declared (declared_columns schema) k) _ rows (sym (are.gets k) ∙ e)

  pub rows_shaped : ((k : ColumnKey) → length (at k) ≡ n) → ((k : ColumnKey) → AreRowsOf k.type (at k)) → (k : ColumnKey) (rows : Rows) → get cs k ≡ Some rows → (length rows ≡ n) × AreRowsOf k.type rows
  rows_shaped long typed k rows e =
      let is = rows_are k rows e in
      (ap length is ∙ length-rows_of (declared_columns schema) k (at k) ∙ long k, subst (AreRowsOf k.type) (sym is) (AreRowsOf-rows_of (declared_columns schema) k (at k) (typed k)))

  there : (k : ColumnKey) → is_some (get cs k) ≡ true → is_some (if_there (is_declared (declared_columns schema) k) (rows_of (declared_columns schema) k (at k))) ≡ true
  there k h = sym (ap is_some (are.gets k)) ∙ h

  type_of_i64 : (path : List ℕ) → is_some (get cs (record { path = path; type = I64 })) ≡ true → is_declared (declared_columns schema) (record { path = path; type = I64 }) ≡ false → is_type I64 (number_type (declared_columns schema) path (at (record { path = path; type = I64 }))) ≡ true
  type_of_i64 path h d = has_number_type (declared_columns schema) _ (at (record { path = path; type = I64 })) (sym (ap (λ b. is_some (if_there b (rows_of (declared_columns schema) (record { path = path; type = I64 }) (at (record { path = path; type = I64 }))))) d) ∙ there (record { path = path; type = I64 }) h)

  type_of_u64 : (path : List ℕ) → is_some (get cs (record { path = path; type = U64 })) ≡ true → is_declared (declared_columns schema) (record { path = path; type = U64 }) ≡ false → is_type U64 (number_type (declared_columns schema) path (at (record { path = path; type = U64 }))) ≡ true
  type_of_u64 path h d = has_number_type (declared_columns schema) _ (at (record { path = path; type = U64 })) (sym (ap (λ b. is_some (if_there b (rows_of (declared_columns schema) (record { path = path; type = U64 }) (at (record { path = path; type = U64 }))))) d) ∙ there (record { path = path; type = U64 }) h)

  -- where the numbers of a path are declared as I64, an undeclared column U64 is not there, and the other way round
  i64_undeclared : (path : List ℕ) → is_some (get cs (record { path = path; type = U64 })) ≡ true → is_declared (declared_columns schema) (record { path = path; type = U64 }) ≡ false → is_declared (declared_columns schema) (record { path = path; type = I64 }) ≡ false
  i64_undeclared path h d = by (is_declared (declared_columns schema) (record { path = path; type = I64 })) refl (type_of_u64 path h d)
    where
      by : (b : Bool) → is_declared (declared_columns schema) (record { path = path; type = I64 }) ≡ b → is_type U64 (number_type (declared_columns schema) path (at (record { path = path; type = U64 }))) ≡ true → b ≡ false
      by true e t = absurd (true≢false (sym t ∙ ap (λ b. is_type U64 (cond b (Some I64) (cond (is_declared (declared_columns schema) (record { path = path; type = U64 })) (Some U64) (free_number_type (at (record { path = path; type = U64 })))))) e))
      by false e t = refl

  u64_undeclared : (path : List ℕ) → is_some (get cs (record { path = path; type = I64 })) ≡ true → is_declared (declared_columns schema) (record { path = path; type = I64 }) ≡ false → is_declared (declared_columns schema) (record { path = path; type = U64 }) ≡ false
  u64_undeclared path h d = by (is_declared (declared_columns schema) (record { path = path; type = U64 })) refl (type_of_i64 path h d)
    where
      by : (b : Bool) → is_declared (declared_columns schema) (record { path = path; type = U64 }) ≡ b → is_type I64 (number_type (declared_columns schema) path (at (record { path = path; type = I64 }))) ≡ true → b ≡ false
      by true e t = absurd (true≢false (sym t ∙ (λ i. is_type I64 (cond (d i) (Some I64) (cond (e i) (Some U64) (free_number_type (at (record { path = path; type = I64 }))))))))
      by false e t = refl

  pub one_type : (path : List ℕ) → is_some (get cs (record { path = path; type = I64 })) ≡ true → is_some (get cs (record { path = path; type = U64 })) ≡ true → (is_declared (declared_columns schema) (record { path = path; type = I64 }) ≡ true) × (is_declared (declared_columns schema) (record { path = path; type = U64 }) ≡ true)
  one_type path h k = by (is_declared (declared_columns schema) (record { path = path; type = I64 })) (is_declared (declared_columns schema) (record { path = path; type = U64 })) refl refl
    where
      by : (a b : Bool) → is_declared (declared_columns schema) (record { path = path; type = I64 }) ≡ a → is_declared (declared_columns schema) (record { path = path; type = U64 }) ≡ b → (a ≡ true) × (b ≡ true)
      by true true d e = (refl, refl)
      by true false d e = absurd (true≢false (sym d ∙ i64_undeclared path k e))
      by false true d e = absurd (true≢false (sym e ∙ u64_undeclared path h d))
      by false false d e = absurd (not_both (number_type (declared_columns schema) path (at (record { path = path; type = I64 }))) (type_of_i64 path h d) (ap (λ rows. is_type U64 (number_type (declared_columns schema) path rows)) (numbers path) ∙ type_of_u64 path k e))

  undeclared : (path : List ℕ) (type : ColumnType) → is_some (get cs (record { path = path; type = type })) ≡ true → is_declared (declared_columns schema) (record { path = path; type = type }) ≡ false → IsUndeclared (declared_columns schema) path type
  undeclared path I64 h d = (d, u64_undeclared path h d)
  undeclared path U64 h d = (i64_undeclared path h d, d)
  undeclared path Bytes h d = d
  undeclared path Str h d = d
  undeclared path Boolean h d = d
  undeclared path IpAddr h d = d
  undeclared path DateTime h d = d

  pub free_shaped : ((path : List ℕ) (type : ColumnType) → IsUndeclared (declared_columns schema) path type → list_any is_filled (at (record { path = path; type = type })) ≡ true → IsJsonPath schema path × (is_json_type type ≡ true)) → (k : ColumnKey) (rows : Rows) → get cs k ≡ Some rows → is_declared (declared_columns schema) k ≡ false → IsFreeColumn schema k rows
  free_shaped paths k rows e d =
      let some : is_some (get cs k) ≡ true = ap is_some e in
      let is = rows_are k rows e in
      let has_value : list_any is_filled (rows_of (declared_columns schema) k (at k)) ≡ true = sym (is_some-if_there false (rows_of (declared_columns schema) k (at k))) ∙ sym (ap (λ b. is_some (if_there b (rows_of (declared_columns schema) k (at k)))) d) ∙ there k some in
      let told = paths k.path k.type (undeclared k.path k.type some d) (filled_rows_of (declared_columns schema) k (at k) has_value) in
      record { filled = ap (list_any is_filled) is ∙ has_value; path = told.0; typed = told.1 }

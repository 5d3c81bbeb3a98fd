-- What a call about a name answers.
use Rattle.std.specs.Prelude.{◌≡◌, ◌⊎◌, ℕ, List, Option, Some, None, Result, MatchResult}
use Rattle.seg_values.specs.declared.error.TantivyError.{TantivyError}
use Rattle.seg_values.specs.declared.error.TantivyError.TheVariants.{OutOfMemory, InvalidArgument, SchemaError}
use Rattle.seg_values.specs.declared.error.ArgumentCause.TheVariants.{NotFast}
use Rattle.seg_values.specs.declared.error.SchemaCause.TheVariants.{NoColumn}
use Rattle.seg_columns.specs.DynamicColumns.{StoredColumn}
use Rattle.seg_fastfield.specs.ColumnNames.{StandsFor, FindsNotFast}
use Rattle.seg_fastfield.specs.OpenFastFields.{FastFields, columns_at}

-- an answer that goes by the path that a name stands for
pub record GoesBy {T : Type 0} (fields : FastFields) (name : List ℕ) (given : Option (List ℕ) → T → Type 0)
    (answer : T) : Type 0 where
  pub path : Option (List ℕ)
  pub stands : StandsFor fields.schema name None path
  pub is : given path answer

-- refused where the field isn't fast, else for want of memory
abbrev pub IsRefused : FastFields → List ℕ → TantivyError → Type 0
IsRefused fields name e = ((e ≡ InvalidArgument NotFast) × FindsNotFast fields.schema name None) ⊎ (e ≡ OutOfMemory)

abbrev pub Answers : {T : Type 0} → FastFields → List ℕ → (Option (List ℕ) → T → Type 0)
    → Result T TantivyError → Type 0
Answers fields name given result = MatchResult result (GoesBy fields name given) (IsRefused fields name)

-- an answer by the columns of the path alone
abbrev pub AnswersBy : {T : Type 0} → FastFields → List ℕ → (List StoredColumn → T) → Result T TantivyError → Type 0
AnswersBy fields name answer result = Answers fields name (λ path x. x ≡ answer (columns_at fields.file path)) result

-- a column that has to be there: else there is none of its type
abbrev pub Needs : {T : Type 0} → FastFields → List ℕ → (List StoredColumn → Option T) → Result T TantivyError → Type 0
Needs fields name answer result = MatchResult result
    (GoesBy fields name (λ path x. Some x ≡ answer (columns_at fields.file path)))
    (λ e. IsRefused fields name e
    ⊎ ((e ≡ SchemaError NoColumn)
    × GoesBy fields name (λ path (_ : Unit {0}). answer (columns_at fields.file path) ≡ None) tt))

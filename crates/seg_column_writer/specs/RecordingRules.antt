-- What may be recorded, and what it makes of the columns.
use Rattle.std.specs.Prelude.{◌≡◌, ◌⊎◌, ℕ, zero, suc, List, [], ◌∷◌, true, Some, All}
use Rattle.std.specs.List.{AllByRecursion}
use Rattle.seg_common.specs.declared.column_type.ColumnType.{ColumnType}
use Rattle.seg_model.specs.Columns.{ColumnValue}
use Rattle.seg_column_writer.specs.ValueKinds.{kind_of}
use Rattle.seg_column_writer.specs.ColumnRecords.{Accepts, ColumnRecord, HasReached, Recording, changed_at, is_named, place_of, with_column, with_value}
use Rattle.seg_column_writer.specs.RowValues.{term_value, value_of}
use Rattle.seg_column_writer.specs.SoundColumns.{Fits, IsTermOf}
use Rattle.seg_column_writer.specs.declared.row_value.RowValue.{RowValue}
use Rattle.seg_column_writer.specs.declared.value_kind.ValueKind.{ValueKind}

-- ---- by the place of a column

-- there is a column at this place, and of it this holds
abbrev pub At : (Recording → Type 0) → ℕ → List ColumnRecord → Type 0
At P place [] = ⊥
At P zero (c ∷ cs) = P c.recording
At P (suc place) (c ∷ cs) = At P place cs

-- a column is of a kind, has no value of a later row, and accepts a value
pub record CanTake (kind : ValueKind) (row : ℕ) (value : ColumnValue) (r : Recording) : Type 0 where
  pub kind_is : r.kind ≡ kind
  pub reached : HasReached row r
  pub accepts : Accepts r.declared value

-- its kind is that of a type, which accepts the values that it has
pub record CanDeclare (type : ColumnType) (r : Recording) : Type 0 where
  pub kind : r.kind ≡ kind_of type
  pub accepts : All (λ v. Accepts (Some type) v.value) r.values

-- ---- by the name of a column

-- what holds of the column of a name, if there is one
abbrev pub IfNamed : List ℕ → ValueKind → (Recording → Type 0) → List ColumnRecord → Type 0
IfNamed path kind P columns = AllByRecursion (λ c. is_named path kind c ≡ true → P c.recording) columns

-- a value of a row may be recorded under a name: no value of its column is of a later row, and the column accepts it
abbrev pub MayRecord : List ℕ → ValueKind → ℕ → ColumnValue → List ColumnRecord → Type 0
MayRecord path kind row value columns = IfNamed path kind (λ r. HasReached row r × Accepts r.declared value) columns

-- a name may be declared as a type: this accepts the values that its column has
abbrev pub MayDeclare : List ℕ → ColumnType → List ColumnRecord → Type 0
MayDeclare path type columns =
    IfNamed path (kind_of type) (λ r. All (λ v. Accepts (Some type) v.value) r.values) columns

-- the columns with a change of the one of a name, which may be new
abbrev pub with_change : List ℕ → ValueKind → (Recording → Recording) → List ColumnRecord → List ColumnRecord
with_change path kind change columns = changed_at change (place_of columns path kind) (with_column columns path kind)

-- with one more value
abbrev pub with_recorded : List ℕ → ValueKind → ℕ → ColumnValue → List ColumnRecord → List ColumnRecord
with_recorded path kind row value columns = with_change path kind (with_value row value) columns

-- as they are, or with a column of a name that has no value
abbrev pub AreKeptBut : List ℕ → ValueKind → List ColumnRecord → List ColumnRecord → Type 0
AreKeptBut path kind old new = (new ≡ old) ⊎ (new ≡ with_column old path kind)

-- ---- by the parts of a value

-- a column takes a value that isn't kept by its term
pub record CanPush (v : RowValue) (r : Recording) : Type 0 where
  pub reached : HasReached v.row r
  pub fits : Fits r.kind 0 v
  pub accepts : Accepts r.declared (value_of r.kind [] v)

abbrev pub pushed : RowValue → Recording → Recording
pushed v r = with_value v.row (value_of r.kind [] v) r

-- a column takes a term
pub record CanPushTerm (row : ℕ) (term : List ℕ) (r : Recording) : Type 0 where
  pub reached : HasReached row r
  pub is : IsTermOf r.kind term

abbrev pub pushed_term : ℕ → List ℕ → Recording → Recording
pushed_term row term r = with_value row (term_value r.kind term) r

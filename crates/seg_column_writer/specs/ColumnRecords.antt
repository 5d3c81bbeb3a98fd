-- What was declared and recorded, column by column.
use Rattle.std.specs.Prelude.{◌≡◌, ℕ, zero, suc, ◌+◌, ◌≤◌, ◌&&◌, List, [], ◌∷◌, ◌++◌, length, Bool, true, false, Option, None, Some, if◌then◌else◌, nat_eq, All}
use Rattle.std.specs.List.{list_any, position_or_len}
use Rattle.std.specs.Str.{bytes_eq}
use Rattle.seg_common.specs.declared.column_type.ColumnType.{ColumnType}
use Rattle.seg_common.specs.declared.column_type.ColumnType.TheVariants as types
use Rattle.seg_model.specs.Columns.{ColumnValue, fits_i64, is_not_negative}
use Rattle.seg_column_writer.specs.ValueKinds.{kind_place}
use Rattle.seg_column_writer.specs.declared.value_kind.ValueKind.{ValueKind}

-- a value of a row
pub record RowedValue : Type 0 where
  pub row : ℕ
  pub value : ColumnValue

-- what is recorded in a column: the kind of its values, its declared type, whether the values of a row are to be
-- sorted, and the values in the order in which they came
pub record Recording : Type 0 where
  pub kind : ValueKind
  pub declared : Option ColumnType
  pub sorts : Bool
  pub values : List RowedValue

-- with one more value
abbrev pub with_value : ℕ → ColumnValue → Recording → Recording
with_value row value c = record {
  kind = c.kind;
  declared = c.declared;
  sorts = c.sorts;
  values = c.values ++ record { row = row; value = value } ∷ [];
}

-- as it is declared
abbrev pub with_type : ColumnType → Bool → Recording → Recording
with_type type sorts c = record { kind = c.kind; declared = Some type; sorts = sorts; values = c.values }

-- no value is of a later row
abbrev pub HasReached : ℕ → Recording → Type 0
HasReached row c = All (λ v. v.row ≤ row) c.values

-- a column of numbers of a declared type takes numbers of this type
abbrev pub Accepts : Option ColumnType → ColumnValue → Type 0
Accepts (Some types.I64) value = fits_i64 value ≡ true
Accepts (Some types.U64) value = is_not_negative value ≡ true
Accepts _ value = Unit {0}

-- ---- all columns

-- a column with its path
pub record ColumnRecord : Type 0 where
  pub path : List ℕ
  pub recording : Recording

-- whether a column has this path and kind
abbrev pub is_named : List ℕ → ValueKind → ColumnRecord → Bool
is_named path kind c = nat_eq (kind_place kind) (kind_place c.recording.kind) && bytes_eq path c.path

-- the place of a column, or that of the next one
abbrev pub place_of : List ColumnRecord → List ℕ → ValueKind → ℕ
place_of columns path kind = position_or_len (is_named path kind) columns

-- the columns with one that may be among them
abbrev pub with_column : List ColumnRecord → List ℕ → ValueKind → List ColumnRecord
with_column columns path kind =
    if list_any (is_named path kind) columns then columns
    else columns ++ record {
      path = path;
      recording = record { kind = kind; declared = None; sorts = false; values = [] };
    } ∷ []

-- the columns with a change of the one at a place
abbrev pub changed_at : (Recording → Recording) → ℕ → List ColumnRecord → List ColumnRecord
changed_at change i [] = []
changed_at change zero (c ∷ cs) = record { path = c.path; recording = change c.recording } ∷ cs
changed_at change (suc i) (c ∷ cs) = c ∷ changed_at change i cs

-- how many values there are
abbrev pub value_count : List ColumnRecord → ℕ
value_count [] = 0
value_count (c ∷ cs) = length c.recording.values + value_count cs

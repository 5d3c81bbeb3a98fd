-- Columns whose values come row by row.
use Rattle.std.specs.Prelude.{◌≡◌, ℕ, List, Bool, true, Option}
use Rattle.std.specs.List.{AllByRecursion, list_any}
use Rattle.seg_common.specs.declared.column_type.ColumnType.{ColumnType}
use Rattle.seg_column_writer.specs.ColumnRecords.{ColumnRecord, is_named, place_of}
use Rattle.seg_column_writer.specs.TypedColumns.{IsWithin}
use Rattle.seg_column_writer.specs.declared.value_kind.ValueKind.{ValueKind}

-- the type that is declared of a path and a kind, if one is
abbrev pub Declared : Type 0
Declared = List ℕ → ValueKind → Option ColumnType

-- no value is of a row beyond this many, and what is declared is what this says
pub record IsBelow (declared : Declared) (count : ℕ) (c : ColumnRecord) : Type 0 where
  pub within : IsWithin count c.recording
  pub declared_is : c.recording.declared ≡ declared c.path c.recording.kind

abbrev pub AreBelow : Declared → ℕ → List ColumnRecord → Type 0
AreBelow declared count columns = AllByRecursion (IsBelow declared count) columns

-- whether there is a column of this name
abbrev pub has_column : List ℕ → ValueKind → List ColumnRecord → Bool
has_column path kind columns = list_any (is_named path kind) columns

-- each column that was there is there still, at its place
abbrev pub AreThere : List ColumnRecord → List ColumnRecord → Type 0
AreThere old new = (path : List ℕ) (kind : ValueKind) → has_column path kind old ≡ true
    → (has_column path kind new ≡ true) × (place_of new path kind ≡ place_of old path kind)

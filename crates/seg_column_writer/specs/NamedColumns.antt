-- Columns so far, by their names.
use Rattle.std.specs.Prelude.{◌≡◌, ℕ, ◌*◌, ◌^◌, ◌-◌, List, [], ◌∷◌, ◌++◌, Bool, get_or, set, false, nat_eq, None, if◌then◌else◌, min, IsUtf8}
use Rattle.std.specs.List.{list_any}
use Rattle.seg_column_format.specs.CompositeKeys.{Composite, key_eq}
use Rattle.seg_column_writer.specs.ValueKinds.{kind_place}
use Rattle.seg_column_writer.specs.ColumnRecords.{ColumnRecord, Recording, value_count}
use Rattle.seg_column_writer.specs.declared.known_columns.KnownColumns.{KnownColumns}
use Rattle.seg_column_writer.specs.declared.value_kind.ValueKind.{ValueKind}
use Rattle.seg_column_writer.specs.declared.value_kind.ValueKind.TheVariants.{Number}

-- the place of a kind, and a path
abbrev pub PathKind : Type 0
PathKind = Composite ℕ

abbrev pub name_eq : PathKind → PathKind → Bool
name_eq = key_eq nat_eq

-- columns with their paths
abbrev pub named : List PathKind → List Recording → List ColumnRecord
named [] recordings = []
named (n ∷ names) [] = []
named (n ∷ names) (r ∷ recordings) = record { path = n.bytes; recording = r } ∷ named names recordings

-- a name is that of a column: it tells the kind of its values, and has a text as path
pub record IsName (n : PathKind) (r : Recording) : Type 0 where
  pub kind : n.head ≡ kind_place r.kind
  pub utf8 : IsUtf8 n.bytes

-- a name for each column
abbrev pub AreNamed : List PathKind → List Recording → Type 0
AreNamed [] [] = Unit {0}
AreNamed [] (r ∷ recordings) = ⊥
AreNamed (n ∷ names) [] = ⊥
AreNamed (n ∷ names) (r ∷ recordings) = IsName n r × AreNamed names recordings

abbrev pub IsSound : KnownColumns → Type 0
IsSound known = AreNamed known.names.keys known.columns.items

abbrev pub records_in : KnownColumns → List ColumnRecord
records_in known = named known.names.keys known.columns.items

-- a column without a value
abbrev pub without_value : ValueKind → Recording
without_value kind = record { kind = kind; declared = None; sorts = false; values = [] }

-- what is recorded of the column at a place, or nothing
abbrev pub column_in : List Recording → ℕ → Recording
column_in columns place = get_or columns place (without_value Number)

-- a column of this name is among the columns, and else came at the end
pub record IsPlaced (name : PathKind) (kind : ValueKind) (old new : KnownColumns) : Type 0 where
  pub names : new.names.keys ≡ (if list_any (name_eq name) old.names.keys then old.names.keys
      else old.names.keys ++ name ∷ [])
  pub columns : new.columns.items ≡ (if list_any (name_eq name) old.names.keys then old.columns.items
      else old.columns.items ++ without_value kind ∷ [])

pub record AreKept (old new : KnownColumns) : Type 0 where
  pub names : new.names.keys ≡ old.names.keys
  pub columns : new.columns.items ≡ old.columns.items

-- the column at a place changed
pub record IsChanged (change : Recording → Recording) (place : ℕ) (old new : KnownColumns) : Type 0 where
  pub names : new.names.keys ≡ old.names.keys
  pub columns : new.columns.items ≡ set old.columns.items place (change (column_in old.columns.items place))

-- 16 bytes for each value
abbrev pub usage_of : List ColumnRecord → ℕ
usage_of columns = min (2 ^ 64 - 1) (16 * value_count columns)

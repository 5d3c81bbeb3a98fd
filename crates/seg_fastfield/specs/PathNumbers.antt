-- The columns of paths that are known by the numbers of the paths.
use Rattle.std.specs.Prelude.{◌≡◌, ℕ, ◌<◌, ◌≤◌, List, [], length, Option, None, Some}
use Rattle.std.specs.List.{slice_index_or}
use Rattle.seg_column_writer.specs.ColumnRecords.{ColumnRecord}
use Rattle.seg_column_writer.specs.declared.value_kind.ValueKind.{ValueKind}
use Rattle.seg_column_writer.specs.declared.value_kind.ValueKind.TheVariants.{Number, Bytes, Str, Bool as Boolean, IpAddr, DateTime}
use Rattle.seg_column_writer.specs.declared.writer.ColumnId.{ColumnId}
use Rattle.seg_fastfield.specs.FieldColumns.{IsColumnOf}
use Rattle.seg_fastfield.specs.declared.kind_columns.KindColumns.{KindColumns}
use Rattle.seg_fastfield.specs.declared.path_columns.PathColumns.{PathColumns}

-- ---- by the kind of values

abbrev pub id_of : KindColumns → ValueKind → Option ColumnId
id_of ks Number = ks.number
id_of ks Bytes = ks.bytes
id_of ks Str = ks.text
id_of ks Boolean = ks.boolean
id_of ks IpAddr = ks.address
id_of ks DateTime = ks.moment

-- none is known
abbrev pub unknown : KindColumns
unknown = record { number = None; bytes = None; text = None; boolean = None; address = None; moment = None }

-- with the column of a kind
abbrev pub with_id : KindColumns → ValueKind → ColumnId → KindColumns
with_id ks Number id = record {
  number = Some id;
  bytes = ks.bytes;
  text = ks.text;
  boolean = ks.boolean;
  address = ks.address;
  moment = ks.moment;
}
with_id ks Bytes id = record {
  number = ks.number;
  bytes = Some id;
  text = ks.text;
  boolean = ks.boolean;
  address = ks.address;
  moment = ks.moment;
}
with_id ks Str id = record {
  number = ks.number;
  bytes = ks.bytes;
  text = Some id;
  boolean = ks.boolean;
  address = ks.address;
  moment = ks.moment;
}
with_id ks Boolean id = record {
  number = ks.number;
  bytes = ks.bytes;
  text = ks.text;
  boolean = Some id;
  address = ks.address;
  moment = ks.moment;
}
with_id ks IpAddr id = record {
  number = ks.number;
  bytes = ks.bytes;
  text = ks.text;
  boolean = ks.boolean;
  address = Some id;
  moment = ks.moment;
}
with_id ks DateTime id = record {
  number = ks.number;
  bytes = ks.bytes;
  text = ks.text;
  boolean = ks.boolean;
  address = ks.address;
  moment = Some id;
}

-- ---- by the number of a path

-- the number of a path, where it has one, is its place among the paths
abbrev pub IsNumberOf : List (List ℕ) → Option ℕ → List ℕ → Type 0
IsNumberOf paths None path = Unit {0}
IsNumberOf paths (Some number) path = (number < length paths) × (slice_index_or paths number [] ≡ path)

-- each column that is known is that of its path and its kind
pub record AreColumnsOf (known : PathColumns) (columns : List ColumnRecord) : Type 0 where
  pub within : length known.columns.items ≤ length known.paths
  pub each : (number : ℕ) (kind : ValueKind)
      → IsColumnOf (id_of (slice_index_or known.columns.items number unknown) kind)
      (slice_index_or known.paths number []) kind columns

-- each path that had a number has it still
abbrev pub AreNumbersKept : List (List ℕ) → List (List ℕ) → Type 0
AreNumbersKept old new = (number : Option ℕ) (path : List ℕ) → IsNumberOf old number path → IsNumberOf new number path

-- what is known, and the number of a path
abbrev pub IsKnownAt : PathColumns → Option ℕ → List ℕ → List ColumnRecord → Type 0
IsKnownAt known number path columns = AreColumnsOf known columns × IsNumberOf known.paths number path

-- what is known of columns that may be more, with the numbers that were there
abbrev pub IsKnownStill : PathColumns → PathColumns → List ColumnRecord → Type 0
IsKnownStill old new columns = AreColumnsOf new columns × AreNumbersKept old.paths new.paths

-- paths may be more, and what is known of columns is as right as it was
pub record HasPathsMore (old new : PathColumns) : Type 0 where
  pub numbers : AreNumbersKept old.paths new.paths
  pub known : (columns : List ColumnRecord) → AreColumnsOf old columns → AreColumnsOf new columns

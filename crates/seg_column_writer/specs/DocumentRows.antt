-- What documents record, one row for each.
use Rattle.std.specs.Prelude.{◌≡◌, ℕ, ◌+◌, List, [], ◌∷◌, Bool, true, false, if◌then◌else◌}
use Rattle.seg_model.specs.Columns.{ColumnKey, ColumnValue, FastValue, number, bytes_value, text_value, boolean_value, ip_value, date_value, values_at}
use Rattle.seg_column_writer.specs.ValueKinds.{kind_of}
use Rattle.seg_column_writer.specs.RecordedColumns.{in_order}
use Rattle.seg_column_writer.specs.ColumnRecords.{ColumnRecord, is_named}
use Rattle.seg_column_writer.specs.RecordingRules.{with_recorded}
use Rattle.seg_column_writer.specs.declared.value_kind.ValueKind.{ValueKind}
use Rattle.seg_column_writer.specs.declared.value_kind.ValueKind.TheVariants.{Number, Bytes, Str, Bool as Boolean, IpAddr, DateTime}

abbrev pub kind_of_value : ColumnValue → ValueKind
kind_of_value (number z) = Number
kind_of_value (bytes_value b) = Bytes
kind_of_value (text_value s) = Str
kind_of_value (boolean_value b) = Boolean
kind_of_value (ip_value a) = IpAddr
kind_of_value (date_value z) = DateTime

-- the columns with values of a row, each under its path
abbrev pub with_values : ℕ → List FastValue → List ColumnRecord → List ColumnRecord
with_values row [] columns = columns
with_values row (v ∷ vs) columns = with_values row vs (with_recorded v.path (kind_of_value v.value) row v.value columns)

-- with those of the rows from one on
abbrev pub with_rows : ℕ → List (List FastValue) → List ColumnRecord → List ColumnRecord
with_rows row [] columns = columns
with_rows row (d ∷ ds) columns = with_rows (row + 1) ds (with_values row d columns)

-- whether the values of a row are put in order at a key
abbrev pub sorts_at : List ColumnRecord → ColumnKey → Bool
sorts_at [] key = false
sorts_at (c ∷ cs) key = if is_named key.path (kind_of key.type) c then c.recording.sorts else sorts_at cs key

abbrev pub arranged : Bool → List ColumnValue → List ColumnValue
arranged sorts values = if sorts then in_order values else values

-- documents have at each key what was recorded, in order where that is asked
abbrev pub AreArranged : List ColumnRecord → List (List FastValue) → List (List FastValue) → Type 0
AreArranged columns [] [] = Unit {0}
AreArranged columns [] (d ∷ ds) = ⊥
AreArranged columns (r ∷ rs) [] = ⊥
AreArranged columns (r ∷ rs) (d ∷ ds) =
    ((key : ColumnKey) → values_at key d ≡ arranged (sorts_at columns key) (values_at key r))
    × AreArranged columns rs ds

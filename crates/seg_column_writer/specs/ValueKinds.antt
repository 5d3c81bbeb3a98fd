-- Kinds of values, and the types of their columns.
use Rattle.std.specs.Prelude.{ℕ}
use Rattle.seg_common.specs.declared.column_type.ColumnType.{ColumnType}
use Rattle.seg_common.specs.declared.column_type.ColumnType.TheVariants as types
use Rattle.seg_column_writer.specs.declared.value_kind.ValueKind.{ValueKind}
use Rattle.seg_column_writer.specs.declared.value_kind.ValueKind.TheVariants.{Number, Bytes, Str, Bool as Boolean, IpAddr, DateTime}

-- the kind of the values of a type
abbrev pub kind_of : ColumnType → ValueKind
kind_of types.I64 = Number
kind_of types.U64 = Number
kind_of types.Bytes = Bytes
kind_of types.Str = Str
kind_of types.Bool = Boolean
kind_of types.IpAddr = IpAddr
kind_of types.DateTime = DateTime

-- the place of a kind in their order
abbrev pub kind_place : ValueKind → ℕ
kind_place Number = 0
kind_place Bytes = 1
kind_place Str = 2
kind_place Boolean = 3
kind_place IpAddr = 4
kind_place DateTime = 5

-- The types of fields by their kinds.
use Rattle.seg_values.specs.declared.schema.FieldKind.{FieldKind}
use Rattle.seg_values.specs.declared.schema.FieldKind.TheVariants as kinds
use Rattle.seg_values.specs.declared.field_type.FieldType.{FieldType}
use Rattle.seg_values.specs.declared.field_type.FieldType.TheVariants as types

-- the type of the values of a field of a kind
abbrev pub type_of : FieldKind → FieldType
type_of kinds.Text = types.Str
type_of kinds.U64 = types.U64
type_of kinds.I64 = types.I64
type_of kinds.Bool = types.Bool
type_of kinds.Date = types.Date
type_of kinds.Facet = types.Facet
type_of kinds.Bytes = types.Bytes
type_of kinds.IpAddr = types.IpAddr
type_of kinds.Json = types.Json

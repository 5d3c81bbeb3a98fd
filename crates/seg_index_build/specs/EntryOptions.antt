-- The options of a field, but for its texts.
use Rattle.std.specs.Prelude.{Bool}
use Rattle.seg_common.specs.declared.precision.DateTimePrecision.{DateTimePrecision}
use Rattle.seg_values.specs.declared.schema.FieldEntry.{FieldEntry}
use Rattle.seg_values.specs.declared.schema.FieldKind.{FieldKind}
use Rattle.seg_values.specs.declared.schema.IndexOption.{IndexOption}

-- what a field is, but for its name and tokenizers
pub record Options : Type 0 where
  pub kind : FieldKind
  pub index : IndexOption
  pub precision : DateTimePrecision
  pub stored : Bool
  pub norms : Bool
  pub fast : Bool
  pub expand_dots : Bool

abbrev pub options_of : FieldEntry → Options
options_of e = record {
  kind = e.kind;
  index = e.index;
  precision = e.precision;
  stored = e.stored;
  norms = e.norms;
  fast = e.fast;
  expand_dots = e.expand_dots;
}

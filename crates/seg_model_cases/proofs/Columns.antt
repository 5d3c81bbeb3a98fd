-- Cases of columns.
use Rattle.std.proofs.Common.{refl}
use Rattle.seg_model_cases.specs.Columns.{ColumnCases}

pub column_cases : ColumnCases
column_cases = record {
  texts = refl;
  leaves = refl;
  precisions = refl;
  root = refl;
  numbers = refl;
}

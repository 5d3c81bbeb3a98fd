use Rattle.seg_column_merge.proofs.MergedCells.{rows_are}
use Rattle.seg_column_merge.proofs.RequiredColumns.{declared_is, first_tells}
use Rattle.seg_column_merge.proofs.laws.merged_rows_by_kind.Goals as goal

pub returns-clause-rows : goal.returns-clause-rows
returns-clause-rows c = λ q required files places. rows_are q required files places

pub returns-clause-required : goal.returns-clause-required
returns-clause-required c = λ q required files. declared_is q required files

pub returns-clause-first : goal.returns-clause-first
returns-clause-first c = λ path kind required files r rest is present type.
    first_tells path kind required files r rest is present type

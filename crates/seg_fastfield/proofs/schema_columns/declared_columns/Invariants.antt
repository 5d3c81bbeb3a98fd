use Rattle.std.proofs.Common.{◌≡◌, ◌++◌, true, drop}
use Rattle.seg_values.specs.DistinctLists.{all_distinct}
use Rattle.seg_values.specs.SchemaRules.{same_name}
use Rattle.seg_fastfield.specs.DeclaredColumns.{first_columns}
use Rattle.seg_fastfield.proofs.LoopTurns.{AreNew}
use Rattle.seg_fastfield.proofs.schema_columns.declared_columns.Given as goal

-- the columns so far, with those of the fields that are left, are all
abbrev pub invariant-loop-entry : goal.invariant-loop-entry
invariant-loop-entry l = record {
  columns : l.columns ++ first_columns (drop l.entry-index l.schema) ≡ first_columns l.schema;
  new : AreNew (drop l.entry-index l.schema) l.columns;
  distinct : all_distinct same_name (drop l.entry-index l.schema) ≡ true;
}

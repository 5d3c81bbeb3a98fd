use Rattle.std.proofs.Common.{◌≡◌, ◌||◌, ℕ, false, get_or, length, Some}
use Rattle.std.specs.List.{list_all, slice_get}
use Rattle.seg_values.specs.declared.schema.FieldEntry.{FieldEntry}
use Rattle.seg_column_format.specs.SchemaColumns.{has_column, is_suited}
use Rattle.seg_column_format.proofs.schema_columns.all_suit.Given as goal

abbrev pub invariant-loop-path : goal.invariant-loop-path
invariant-loop-path l = record {
  can : (goal.iterator-loop-path).can_next l.path-iterator;
  finite : (goal.iterator-loop-path).is_finite l.path-iterator;
  as_many : length l.found.items ≡ length l.schema;
  suited : list_all (is_suited l.schema) l.path-iterator ≡ list_all (is_suited l.schema) l.columnar.columns;
  marks : (i : ℕ) (e : FieldEntry) → slice_get l.schema i ≡ Some e
      → (get_or l.found.items i false || has_column l.path-iterator e) ≡ has_column l.columnar.columns e;
}

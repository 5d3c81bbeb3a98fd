use Rattle.std.proofs.Common.{◌++◌, List, map}
use Rattle.seg_field_metadata.specs.MetadataEntries.{Entry, entry_of}
use Rattle.seg_field_metadata.specs.ColumnMetadata.{ColumnsSay}
use Rattle.seg_field_metadata.specs.ListedNames.{EscapedName, HasNames}
use Rattle.seg_field_metadata.proofs.column_entries.column_entries.Given as goal

-- what was added, with what those that are left say, is what all say
abbrev pub invariant-loop-path : goal.invariant-loop-path
invariant-loop-path l = record {
  can : (goal.iterator-loop-path).can_next l.path-iterator;
  finite : (goal.iterator-loop-path).is_finite l.path-iterator;
  so_far : (names : List EscapedName) → HasNames l.names.by_dotted names → (rest : List Entry)
      → ColumnsSay l.schema names l.path-iterator rest
      → ColumnsSay l.schema names l.columnar.columns (map entry_of l.entries.items ++ rest);
}

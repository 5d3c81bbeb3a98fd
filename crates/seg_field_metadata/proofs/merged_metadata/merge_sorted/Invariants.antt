use Rattle.std.proofs.Common.{◌≡◌, ◌++◌, true, map, None}
use Rattle.seg_field_metadata.specs.MetadataEntries.{entry_of}
use Rattle.seg_field_metadata.specs.GroupedEntries.{grouped}
use Rattle.seg_field_metadata.specs.MergedMetadata.{sizes_fit}
use Rattle.seg_field_metadata.proofs.merged_metadata.merge_sorted.Given as goal

abbrev pub invariant-loop-next : goal.invariant-loop-next
invariant-loop-next l = record {
  are : map entry_of l.merged.items ++ grouped l.last (map entry_of l.next-iterator.rest.items)
      ≡ grouped None (map entry_of l.fn.sorted.items);
  fit : sizes_fit (map entry_of l.merged.items) ≡ true;
}

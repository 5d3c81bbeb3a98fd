use Rattle.std.proofs.Common.{◌≡◌, ◌++◌, List, length, map, take}
use Rattle.std.specs.List.{flat_map}
use Rattle.seg_postings.specs.OpenedFields.{dictionary_terms}
use Rattle.seg_postings.specs.JsonSpaces.{AreSpaces}
use Rattle.seg_field_metadata.specs.MetadataEntries.{entry_of}
use Rattle.seg_field_metadata.specs.IndexedFieldMetadata.{space_entry}
use Rattle.seg_field_metadata.specs.ListedNames.{EscapedName, HasNames}
use Rattle.seg_field_metadata.proofs.FieldAdditions.{names_of}
use Rattle.seg_field_metadata.proofs.field_entries.add_spaces.Given as goal

-- those of the spaces so far are added
abbrev pub invariant-loop-space : goal.invariant-loop-space
invariant-loop-space l = record {
  are : AreSpaces (dictionary_terms l.opened) l.space-items;
  as_many : l.all ≡ length (dictionary_terms l.opened);
  added : map entry_of l.entries.items
      ≡ map entry_of l.initial.entries.items ++ map (space_entry l.entry (dictionary_terms l.opened)) (take l.space-index l.space-items);
  named : (names : List EscapedName) → HasNames l.initial.names.by_dotted names
      → HasNames l.names.by_dotted (names ++ flat_map (names_of l.entry) (take l.space-index l.space-items));
}

use Rattle.std.proofs.Common.{map}
use Rattle.seg_field_metadata.specs.MetadataEntries.{entry_of}
use Rattle.seg_field_metadata.proofs.FieldTurns.{SoFar}
use Rattle.seg_field_metadata.proofs.metadata.entries_by_place.Given as goal

abbrev pub invariant-loop-place : goal.invariant-loop-place
invariant-loop-place l = SoFar l.fields l.reader.fields l.place (map entry_of l.entries.items) l.names.by_dotted

-- Entries in the order of their keys, and those of one key together.
use Rattle.std.specs.Prelude.{List, [], ◌∷◌, Option, Some, None, if◌then◌else◌}
use Rattle.seg_field_metadata.specs.MetadataEntries.{Entry, entry_of, together}
use Rattle.seg_field_metadata.specs.MergedMetadata.{has_key}
use Rattle.seg_field_metadata.specs.declared.field_metadata.FieldMetadata.{FieldMetadata}

-- after an entry to which those of its key that come next are added
abbrev pub grouped_after : Entry → List Entry → List Entry
grouped_after p [] = p ∷ []
grouped_after p (e ∷ es) =
    if has_key p.0 e then grouped_after (p.0, together (p.1 ∷ e.1 ∷ [])) es else p ∷ grouped_after e es

-- after one, where there is one
abbrev pub grouped : Option FieldMetadata → List Entry → List Entry
grouped None [] = []
grouped None (e ∷ es) = grouped_after e es
grouped (Some m) es = grouped_after (entry_of m) es

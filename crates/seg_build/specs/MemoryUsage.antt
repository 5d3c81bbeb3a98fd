-- How much memory a writer says that it has taken: a formula over its documents, by which a budget is kept.
use Rattle.std.specs.Prelude.{ℕ, ◌+◌, ◌*◌, List, map, filter, length}
use Rattle.seg_values.specs.Tree.{Document}
use Rattle.seg_model.specs.Columns.{fast_values}
use Rattle.seg_model.specs.Fields.{Schema, Analyzer, fields, has_lengths}
use Rattle.seg_model.specs.Occurrences.{occurrences}
use Rattle.seg_values.specs.StoredBytes.{stored_form}
use Rattle.seg_check.specs.IndexedValues.{IndexedContent}
pub use Rattle.seg_fastfield.specs.MemoryUsage.{total}
use Rattle.seg_store.specs.WriterBlocks.{byte_count}
use Rattle.seg_build.specs.AddedValues.{count_in}

-- how often terms occur in a document, in all its fields
abbrev pub occurrence_count : Schema → Analyzer → Document → ℕ
occurrence_count schema analyzer document =
    total (λ f. length (occurrences schema analyzer document f.0)) (fields schema)

-- how often terms occur in values
abbrev pub value_count : List (ℕ × IndexedContent) → ℕ
value_count values = total (λ v. count_in v.1) values

-- how many fields have lengths
abbrev pub length_fields : Schema → ℕ
length_fields schema = length (filter has_lengths schema)

-- the bytes of the stored documents, 16 for each occurrence of a term and for each value in a fast field, and one for
-- each document and field with lengths
abbrev pub memory_usage : Schema → Analyzer → List Document → ℕ
memory_usage schema analyzer documents =
    byte_count (map (stored_form schema) documents) + 16 * total (occurrence_count schema analyzer) documents
    + 16 * total length (map (fast_values schema analyzer) documents) + length documents * length_fields schema

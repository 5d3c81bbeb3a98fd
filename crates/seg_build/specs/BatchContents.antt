-- What is kept of documents once they are indexed.
use Rattle.std.specs.Prelude.{◌≡◌, ℕ, List, map, Option, Some, None, if◌then◌else◌}
use Rattle.seg_values.specs.Tree.{Document}
use Rattle.seg_model.specs.Fields.{Schema, Analyzer, has_lengths, fields}
use Rattle.seg_model.specs.Norms.{field_norms}
use Rattle.seg_build.specs.FieldTerms.{fields_of}
use Rattle.seg_build.specs.declared.fields.IndexedBatch.{IndexedBatch}

-- the length ids of each field of documents; nothing of a field without lengths
abbrev pub kept_norms : Schema → Analyzer → List Document → List (Option (List ℕ))
kept_norms schema analyzer documents =
    map (λ f. if has_lengths f.1 then Some (field_norms analyzer documents f) else None) (fields schema)

-- the terms of each field of the documents, as it records them, and their length ids
pub record IsBatchOf (schema : Schema) (analyzer : Analyzer) (documents : List Document)
    (batch : IndexedBatch) : Type 0 where
  pub fields : batch.fields ≡ fields_of schema analyzer documents
  pub norms : batch.norms ≡ Some (kept_norms schema analyzer documents)

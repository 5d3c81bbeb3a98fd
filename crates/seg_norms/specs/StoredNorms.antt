-- What is read from the file of length ids.
use Rattle.std.specs.Prelude.{◌≡◌, ℕ, ◌<◌, List, [], length, map, unwrap_or, true, false, Some}
use Rattle.std.specs.List.{slice_get, slice_index_or, AllByRecursion}
use Rattle.seg_values.specs.declared.schema.FieldEntry.{FieldEntry}
use Rattle.seg_model.specs.Fields.{Schema, has_lengths, fields}
use Rattle.seg_directory.specs.CompositeFiles.{Part, field_of}
use Rattle.seg_norms.specs.FieldNorms.{fields_with_lengths, norms_parts}

-- each field that has a part, and how many ids are in it
abbrev pub lengths_of_parts : List Part → List (ℕ × ℕ)
lengths_of_parts parts = map (λ p. (p.0, length p.1)) parts

-- each field that has lengths, and as many ids as documents
abbrev pub lengths_for : Schema → ℕ → List (ℕ × ℕ)
lengths_for schema documents = map (λ f. (f, documents)) (fields_with_lengths schema)

-- the ids of each field of a schema, as its part has them; none where there is no part of it
abbrev pub norms_of : Schema → List Part → List (List ℕ)
norms_of schema parts = map (λ f. unwrap_or (field_of parts f.0) []) (fields schema)

-- each is a byte
abbrev pub AreIds : List ℕ → Type 0
AreIds ids = AllByRecursion (λ id. id < 256) ids

-- and so are those of each part
abbrev pub HaveIds : List Part → Type 0
HaveIds parts = AllByRecursion (λ p. AreIds p.1) parts

-- ids for each field of a schema: one for each document where it has lengths, else none
pub record AreNorms (schema : Schema) (documents : ℕ) (norms : List (List ℕ)) : Type 0 where
  pub per_field : length norms ≡ length schema
  pub norms_are : (field : ℕ) (entry : FieldEntry) → slice_get schema field ≡ Some entry → has_lengths entry ≡ true
      → (length (slice_index_or norms field []) ≡ documents) × AreIds (slice_index_or norms field [])
  pub no_norms : (field : ℕ) (entry : FieldEntry) → slice_get schema field ≡ Some entry → has_lengths entry ≡ false
      → slice_index_or norms field [] ≡ []

-- the parts of a file are those of such ids, and each field has the ids of its part
pub record HoldNorms (schema : Schema) (documents : ℕ) (parts : List Part) (norms : List (List ℕ)) : Type 0 where
  pub are : AreNorms schema documents norms
  pub parts_are : parts ≡ norms_parts schema norms
  pub each : (field : ℕ) → field < length schema → slice_index_or norms field [] ≡ unwrap_or (field_of parts field) []

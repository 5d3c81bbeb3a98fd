-- Stored documents whose pairs have stored fields.
use Rattle.std.specs.Prelude.{ℕ, Bool, List}
use Rattle.std.specs.List.{slice_get, list_all}
use Rattle.seg_values.specs.Tree.{Document}
use Rattle.seg_values.specs.Schemas.{Schema, is_field}

-- whether a field is in the schema and stored
abbrev pub is_stored_field : Schema → ℕ → Bool
is_stored_field schema field = is_field (λ e. e.stored) (slice_get schema field)

-- whether each pair of each document has a field that passes a test
abbrev pub have_fields : (ℕ → Bool) → List Document → Bool
have_fields test documents = list_all (list_all (λ p. test p.0)) documents

-- whether each pair of each document has a field that is in the schema and stored
abbrev pub have_stored_fields : Schema → List Document → Bool
have_stored_fields schema documents = have_fields (is_stored_field schema) documents

-- The length ids of the fields of a segment: while documents are added, and in their file.
use Rattle.std.specs.Prelude.{ℕ, zero, suc, ◌-◌, List, [], ◌∷◌, ◌++◌, length, map, replicate, Option, Some, None, option_map, if◌then◌else◌}
use Rattle.std.specs.List.{flat_map, slice_index_or}
use Rattle.seg_model.specs.Fields.{Schema, has_lengths, fields}
use Rattle.seg_model.specs.Norms.{length_id}
use Rattle.seg_directory.specs.CompositeFiles.{Part}

-- what is kept of each field of a schema before any document: no ids, or nothing where it has no lengths
abbrev pub no_norms : Schema → List (Option (List ℕ))
no_norms schema = map (λ e. if has_lengths e then Some [] else None) schema

-- ids, with a 0 for each further document below `documents`
abbrev pub filled : ℕ → List ℕ → List ℕ
filled documents ids = ids ++ replicate (documents - length ids) 0

-- the id of a document's length, after a 0 for each document before it that has none
abbrev pub with_length : ℕ → ℕ → List ℕ → List ℕ
with_length document length ids = filled document ids ++ length_id length ∷ []

-- a change of the ids of one field
abbrev pub at_field : ℕ → (List ℕ → List ℕ) → List (Option (List ℕ)) → List (Option (List ℕ))
at_field field change [] = []
at_field zero change (f ∷ fs) = option_map change f ∷ fs
at_field (suc field) change (f ∷ fs) = f ∷ at_field field change fs

-- the fields that have lengths
abbrev pub fields_with_lengths : Schema → List ℕ
fields_with_lengths schema = flat_map (λ f. if has_lengths f.1 then f.0 ∷ [] else []) (fields schema)

-- the parts of the file: the ids of each field that has lengths
abbrev pub norms_parts : Schema → List (List ℕ) → List Part
norms_parts schema norms = map (λ f. (f, slice_index_or norms f [])) (fields_with_lengths schema)

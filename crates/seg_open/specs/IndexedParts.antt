-- A composite file with a part for each field that is indexed.
use Rattle.std.specs.Prelude.{◌≡◌, ℕ, List, map, Some}
use Rattle.seg_model.specs.Fields.{Schema}
use Rattle.seg_directory.specs.CompositeFiles.{Part, composite}
use Rattle.seg_segment.specs.TermFiles.{indexed_fields}

-- the fields that have a part
abbrev pub part_fields : List Part → List ℕ
part_fields parts = map (λ p. p.0) parts

-- bytes have these parts, one for each field of a schema that is indexed, and no other
pub record HaveIndexedParts (schema : Schema) (bytes : List ℕ) (parts : List Part) : Type 0 where
  pub file : composite bytes ≡ Some parts
  pub fields : part_fields parts ≡ indexed_fields schema

-- bytes have no such parts
abbrev pub LackIndexedParts : Schema → List ℕ → Type 0
LackIndexedParts schema bytes = (parts : List Part) → HaveIndexedParts schema bytes parts → ⊥

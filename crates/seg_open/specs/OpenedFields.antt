-- The fields of a schema whose parts are opened.
use Rattle.std.specs.Prelude.{◌≡◌, ℕ, List, length, true, false, Option, Some, None}
use Rattle.std.specs.List.{slice_get}
use Rattle.seg_values.specs.declared.schema.FieldEntry.{FieldEntry}
use Rattle.seg_model.specs.Fields.{Schema, is_indexed}
use Rattle.seg_directory.specs.CompositeFiles.{Part}
use Rattle.seg_postings.specs.OpenedFields.{OpenField}
use Rattle.seg_open.specs.OpenedFieldParts.{IsOpened}

-- a field is opened where it is indexed, and none stands for it elsewhere
abbrev pub IsPlaceOpened : FieldEntry → ℕ → ℕ → List Part → List Part → List Part → Option OpenField → Type 0
IsPlaceOpened entry field documents terms postings positions None = is_indexed entry ≡ false
IsPlaceOpened entry field documents terms postings positions (Some opened) = (is_indexed entry ≡ true)
    × IsOpened entry field documents terms postings positions opened

-- so is each of the first fields of a schema
abbrev pub EachIsOpened : Schema → ℕ → List Part → List Part → List Part → List (Option OpenField) → Type 0
EachIsOpened schema documents terms postings positions fields =
    (field : ℕ) (entry : FieldEntry) (opened : Option OpenField) → slice_get schema field ≡ Some entry
    → slice_get fields field ≡ Some opened → IsPlaceOpened entry field documents terms postings positions opened

-- one place for each field of a schema, opened where the field is indexed
pub record AreOpened (schema : Schema) (documents : ℕ) (terms postings positions : List Part)
    (fields : List (Option OpenField)) : Type 0 where
  pub per_field : length fields ≡ length schema
  pub each : EachIsOpened schema documents terms postings positions fields

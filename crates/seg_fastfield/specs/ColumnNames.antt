-- Columns by the names that queries have for them.
use Rattle.std.specs.Prelude.{◌≡◌, ℕ, List, [], ◌∷◌, Bool, true, false, Option, Some, None, slice_get, if◌then◌else◌}
use Rattle.seg_values.specs.declared.schema.FieldEntry.{FieldEntry}
use Rattle.seg_values.specs.JsonPathTexts.{path_keys}
use Rattle.seg_values.specs.NameSearch.{Finds}
use Rattle.seg_model.specs.Columns.{json_column_path}
use Rattle.seg_model.specs.Fields.{is_json}

-- the path of the columns that a path in a field names: the field's own name, and below a JSON field that of its keys
abbrev pub column_path : FieldEntry → List ℕ → Option (List ℕ)
column_path entry [] = Some entry.name
column_path entry (b ∷ path) =
    if is_json entry.kind then Some (json_column_path entry (path_keys (b ∷ path))) else None

-- that of a field which may be there
abbrev pub path_in : Option FieldEntry → List ℕ → Option (List ℕ)
path_in None path = None
path_in (Some entry) path = column_path entry path

abbrev pub is_fast : Option FieldEntry → Bool
is_fast None = false
is_fast (Some entry) = entry.fast

-- that of what a search for a name found
abbrev pub found_path : List FieldEntry → Option (ℕ × List ℕ) → Option (List ℕ)
found_path schema None = None
found_path schema (Some found) = path_in (slice_get schema found.0) found.1

-- the search found a field that isn't fast
abbrev pub IsNotFast : List FieldEntry → Option (ℕ × List ℕ) → Type 0
IsNotFast schema None = ⊥
IsNotFast schema (Some found) = is_fast (slice_get schema found.0) ≡ false

abbrev pub MayBeFast : List FieldEntry → Option (ℕ × List ℕ) → Type 0
MayBeFast schema None = Unit {0}
MayBeFast schema (Some found) = is_fast (slice_get schema found.0) ≡ true

-- a name stands for the columns of a path, or for none: it finds no field, or a fast one
pub record StandsFor (schema : List FieldEntry) (name : List ℕ) (default : Option ℕ)
    (path : Option (List ℕ)) : Type 0 where
  pub found : Option (ℕ × List ℕ)
  pub finds : Finds schema name default found
  pub fast : MayBeFast schema found
  pub path_is : path ≡ found_path schema found

-- a name finds a field that isn't fast
pub record FindsNotFast (schema : List FieldEntry) (name : List ℕ) (default : Option ℕ) : Type 0 where
  pub found : Option (ℕ × List ℕ)
  pub finds : Finds schema name default found
  pub slow : IsNotFast schema found

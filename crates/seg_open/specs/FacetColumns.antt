-- The columns of facet fields, by their names.
use Rattle.std.specs.Prelude.{◌≡◌, ◌⊎◌, ℕ, List, Bool, true, false, Option, Some, None}
use Rattle.std.specs.List.{slice_get}
use Rattle.std.specs.Option.{option_map}
use Rattle.seg_model.specs.DocumentCheck.{first_of}
use Rattle.seg_values.specs.FieldNames.{field_named}
use Rattle.seg_values.specs.declared.error.SchemaCause.TheVariants.{NotFacet}
use Rattle.seg_values.specs.declared.error.TantivyError.{TantivyError}
use Rattle.seg_values.specs.declared.error.TantivyError.TheVariants.{FieldNotFound, OutOfMemory, SchemaError}
use Rattle.seg_columns.specs.TermColumns.{TermColumn}
use Rattle.seg_fastfield.specs.OpenFastFields.{columns_at, str_column}
use Rattle.seg_model.specs.Fields.{Schema, is_facet}
use Rattle.seg_open.specs.OpenSegment.{OpenSegment}

-- whether the field at a place, if there is one, has facets
abbrev pub has_facets_at : Schema → Option ℕ → Option Bool
has_facets_at schema None = None
has_facets_at schema (Some field) = option_map (λ e. is_facet e.kind) (slice_get schema field)

-- whether the field of a name has facets, if there is one
abbrev pub has_facets : Schema → List ℕ → Option Bool
has_facets schema name = has_facets_at schema (field_named schema name)

-- the column of the texts of a name, if it has one
abbrev pub text_column : OpenSegment → List ℕ → Option TermColumn
text_column s name = first_of (λ c. str_column c.column) (columns_at s.columns (Some name))

-- the field of a name has facets, and the column has their texts
abbrev pub IsFacetColumn : OpenSegment → List ℕ → TermColumn → Type 0
IsFacetColumn s name column = (has_facets s.schema name ≡ Some true) × (text_column s name ≡ Some column)

-- why there is none: no field has the name, or one without facets; or there is no memory
abbrev pub LacksFacets : Schema → List ℕ → TantivyError → Type 0
LacksFacets schema name e =
    ((e ≡ FieldNotFound) × (has_facets schema name ≡ None))
    ⊎ (((e ≡ SchemaError NotFacet) × (has_facets schema name ≡ Some false))
    ⊎ (e ≡ OutOfMemory))

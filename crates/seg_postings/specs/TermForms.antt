-- The form of the terms of a field, by what the field is.
use Rattle.std.specs.Prelude.{◌≡◌, ℕ, ◌&&◌, Bool, true, List}
use Rattle.std.specs.List.{list_all}
use Rattle.std.specs.Str.{is_utf8}
use Rattle.seg_values.specs.declared.schema.FieldKind.{FieldKind}
use Rattle.seg_values.specs.declared.schema.FieldKind.TheVariants.{Facet, Json}
use Rattle.seg_model.specs.DocumentTerms.{type_code}
use Rattle.seg_model.specs.Shape.{is_type_code, path_part}
use Rattle.seg_termdict.specs.Dictionary.{Term, IsDictionary, terms_of}

-- whether bytes are a term of such a field: of JSON a path in UTF-8, a byte 0 and a type code, of facets UTF-8
abbrev pub has_form : FieldKind → List ℕ → Bool
has_form Json bytes = is_utf8 (path_part bytes) && is_type_code (type_code bytes)
has_form Facet bytes = is_utf8 bytes
has_form _ bytes = true

-- whether the key of a term is
abbrev pub is_formed : FieldKind → Term → Bool
is_formed kind t = has_form kind t.0

-- bytes are a dictionary of terms of such a field
pub record IsDictionaryOf (kind : FieldKind) (bytes : List ℕ) : Type 0 where
  pub is_dictionary : IsDictionary bytes
  pub formed : list_all (is_formed kind) (terms_of bytes) ≡ true

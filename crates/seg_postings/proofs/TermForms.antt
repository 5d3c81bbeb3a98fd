-- The form of terms, as a test and as contents of full shape ask for it.
use Rattle.std.proofs.Common.{◌≡◌, ◌≢◌, ℕ, Bool, true, false, List, [], ◌∷◌, refl}
use Rattle.std.specs.List.{list_all}
use Rattle.std.specs.Str.{IsUtf8, is_utf8}
use Rattle.std.proofs.lemmas.Bool.{and_from, and_parts, false≢true}
use Rattle.std.proofs.lemmas.Str.{IsUtf8-from_is_utf8, is_utf8-from_IsUtf8}
use Rattle.seg_values.specs.declared.schema.FieldEntry.{FieldEntry}
use Rattle.seg_values.specs.declared.schema.FieldKind.{FieldKind}
use Rattle.seg_values.specs.declared.schema.FieldKind.TheVariants.{Facet, Json}
use Rattle.seg_model.specs.Fields.{is_facet, is_json}
use Rattle.seg_model.specs.DocumentTerms.{type_code}
use Rattle.seg_model.specs.Shape.{IsTermOf, is_type_code, path_part}
use Rattle.seg_termdict.specs.Dictionary.{Term}
use Rattle.seg_postings.specs.TermForms.{has_form, is_formed}

-- ---- as contents of full shape ask for it

json_form : (kind : FieldKind) (bytes : List ℕ) → has_form kind bytes ≡ true → is_json kind ≡ true → IsUtf8 (path_part bytes) × (is_type_code (type_code bytes) ≡ true)
json_form Json bytes form json =
    let both = and_parts (is_utf8 (path_part bytes)) (is_type_code (type_code bytes)) form in
    (IsUtf8-from_is_utf8 (path_part bytes) both.0, both.1)
json_form other bytes form json = absurd (false≢true json)

facet_form : (kind : FieldKind) (bytes : List ℕ) → has_form kind bytes ≡ true → is_facet kind ≡ true → IsUtf8 bytes
facet_form Facet bytes form facet = IsUtf8-from_is_utf8 bytes form
facet_form other bytes form facet = absurd (false≢true facet)

pub term_formed : (entry : FieldEntry) (bytes : List ℕ) → has_form entry.kind bytes ≡ true → IsTermOf entry bytes
term_formed entry bytes form = record { json = λ j. json_form entry.kind bytes form j; facet = λ f. facet_form entry.kind bytes form f }

form_from : (kind : FieldKind) (bytes : List ℕ) → (is_json kind ≡ true → IsUtf8 (path_part bytes) × (is_type_code (type_code bytes) ≡ true)) → (is_facet kind ≡ true → IsUtf8 bytes) → has_form kind bytes ≡ true
form_from Json bytes json facet =
    let both = json refl in
    and_from (is_utf8 (path_part bytes)) (is_type_code (type_code bytes)) (is_utf8-from_IsUtf8 (path_part bytes) both.0) both.1
form_from Facet bytes json facet = is_utf8-from_IsUtf8 bytes (facet refl)
form_from other bytes json facet = refl

pub form_of_term : (entry : FieldEntry) (bytes : List ℕ) → IsTermOf entry bytes → has_form entry.kind bytes ≡ true
form_of_term entry bytes is = form_from entry.kind bytes is.json is.facet

-- ---- as it is tested

pub no_text : (bytes : List ℕ) → (IsUtf8 bytes → ⊥) → is_utf8 bytes ≡ false
no_text bytes none = by (is_utf8 bytes) refl
  where
    by : (b : Bool) → is_utf8 bytes ≡ b → b ≡ false
    by true is = absurd (none (IsUtf8-from_is_utf8 bytes is))
    by false is = refl

-- most kinds of field ask for no form
no_form : (kind : FieldKind) (bytes : List ℕ) → kind ≢ Json → kind ≢ Facet → has_form kind bytes ≡ true
no_form Json bytes json facet = absurd (json refl)
no_form Facet bytes json facet = absurd (facet refl)
no_form other bytes json facet = refl

pub none_asked : (kind : FieldKind) (terms : List Term) → kind ≢ Json → kind ≢ Facet → list_all (is_formed kind) terms ≡ true
none_asked kind [] json facet = refl
none_asked kind (t ∷ terms) json facet = and_from (is_formed kind t) (list_all (is_formed kind) terms) (no_form kind t.0 json facet) (none_asked kind terms json facet)

-- Fields that are opened have terms where the schema says that they are indexed.
use Rattle.std.proofs.Common.{◌≡◌, ℕ, suc, List, [], ◌∷◌, length, map, Option, Some, None, refl, sym, arith}
use Rattle.std.specs.Prelude.{is_some}
use Rattle.std.specs.List.{slice_get}
use Rattle.seg_values.specs.declared.schema.FieldEntry.{FieldEntry}
use Rattle.seg_model.specs.Fields.{Schema, is_indexed}
use Rattle.seg_directory.specs.CompositeFiles.{Part}
use Rattle.seg_postings.specs.OpenedFields.{OpenField}
use Rattle.seg_open.specs.OpenedFields.{IsPlaceOpened, AreOpened}

-- two lists of one length that agree at each place
same_places : (schema : Schema) (fields : List (Option OpenField)) → length fields ≡ length schema → ((i : ℕ) (entry : FieldEntry) (o : Option OpenField) → slice_get schema i ≡ Some entry → slice_get fields i ≡ Some o → is_some o ≡ is_indexed entry) → map is_some fields ≡ map is_indexed schema
same_places [] [] long each = refl
same_places [] (o ∷ fields) long each = absurd (omega (arith, long))
same_places (e ∷ schema) [] long each = absurd (omega (arith, long))
same_places (e ∷ schema) (o ∷ fields) long each =
    let one : is_some o ≡ is_indexed e = each 0 e o refl refl in
    let rest : map is_some fields ≡ map is_indexed schema = same_places schema fields (omega (arith, long)) (λ i entry p at is. each (suc i) entry p at is) in
    λ j. one j ∷ rest j

place_opened : (entry : FieldEntry) (field documents : ℕ) (terms postings positions : List Part) (o : Option OpenField) → IsPlaceOpened entry field documents terms postings positions o → is_some o ≡ is_indexed entry
place_opened entry field documents terms postings positions None is = sym is
place_opened entry field documents terms postings positions (Some f) is = sym is.0

pub open_places : (schema : Schema) (documents : ℕ) (terms postings positions : List Part) (fields : List (Option OpenField)) → AreOpened schema documents terms postings positions fields → map is_some fields ≡ map is_indexed schema
open_places schema documents terms postings positions fields are =
    same_places schema fields are.per_field (λ i entry o at is. place_opened entry i documents terms postings positions o (are.each i entry o at is))

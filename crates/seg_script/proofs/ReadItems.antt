-- What is read of a list's items, one after another.
use Rattle.std.proofs.Common.{◌≡◌, ◌≢◌, List, [], ◌∷◌, length, String, Global, None, refl}
use Rattle.serde_json.specs.Data.{object}
use Rattle.serde_json.specs.View.{items_view, members_view}
use Rattle.serde_json.specs.declared.value.Value.{Value}
use Rattle.seg_values.specs.declared.schema.FieldEntry.{FieldEntry}
use Rattle.seg_script.specs.Operations.{operation_from}
use Rattle.seg_script.specs.Pairs.{two_or_three}

-- a list of other than two or three values
pub not_two_or_three : (vs : List Value) → length vs ≢ 2 → length vs ≢ 3 → two_or_three (items_view vs) ≡ None
not_two_or_three [] h k = refl
not_two_or_three (v ∷ []) h k = refl
not_two_or_three (v ∷ w ∷ []) h k = absurd (h refl)
not_two_or_three (v ∷ w ∷ x ∷ []) h k = absurd (k refl)
not_two_or_three (v ∷ w ∷ x ∷ y ∷ vs) h k = refl

-- an object of other than one member is no operation
pub not_one : (schema : List FieldEntry) (ms : List (String Global × Value)) → length ms ≢ 1 → operation_from schema (object (members_view ms)) ≡ None
not_one schema [] h = refl
not_one schema (m ∷ []) h = absurd (h refl)
not_one schema (m ∷ n ∷ ms) h = refl

-- Pairs of a document whose values are kept, or not.
use Rattle.std.proofs.Common.{◌≡◌, ℕ, true, false, cond, [], ◌∷◌, ◌++◌, map, Some, None, Option, refl, sym, ap, ◌∙◌, subst, append-nil}
use Rattle.std.specs.List.{slice_get, AllByRecursion}
use Rattle.std.proofs.lemmas.List.{map-append}
use Rattle.std.proofs.lemmas.List.Elements.{filter-append}
use Rattle.std.specs.Prelude.{IfSome}
use Rattle.seg_common.proofs.Lists.{all_push}
use Rattle.seg_values.specs.Tree.{Tree, Document}
use Rattle.seg_values.specs.declared.schema.FieldEntry.{FieldEntry}
use Rattle.seg_model.specs.Fields.{Schema, Analyzer, is_indexed, is_field}
use Rattle.seg_check.specs.DocumentFields.{AllStand, HasCut}
use Rattle.seg_check.specs.IndexedValues.{HasPlainKeys, IsPlainIn, content_by, content_of, content_at, content_there, indexed_part, value_in, value_of, document_values}
use Rattle.seg_check.specs.declared.indexed_value.IndexedValue.{IndexedValue}
use Rattle.seg_check.specs.declared.positions.CutDocument.{CutDocument}
use Rattle.seg_check.proofs.DocumentFields.{not-indexed}

module _ (schema : Schema) (analyzer : Analyzer) (came : Document) (field : ℕ) (t : Tree) where
  no-value : is_field is_indexed (slice_get schema field) ≡ false → document_values schema analyzer (came ++ (field, t) ∷ []) ≡ document_values schema analyzer came
  no-value e = ap (map (value_of schema analyzer)) (
      filter-append (λ (p : ℕ × Tree). is_field is_indexed (slice_get schema p.0)) came ((field, t) ∷ [])
      ∙ ap (λ b. indexed_part schema came ++ cond b ((field, t) ∷ []) []) e
      ∙ append-nil (indexed_part schema came))

  -- a pair in a field that is not indexed, or is not there
  pub cut-passed : (document : Document) (cut : CutDocument) → ((entry : FieldEntry) → slice_get schema field ≡ Some entry → is_indexed entry ≡ false) → HasCut schema analyzer document came cut → HasCut schema analyzer document (came ++ (field, t) ∷ []) cut
  cut-passed document cut out has = record {
    values = has.values ∙ sym (no-value (by_case (slice_get schema field) refl));
    keys = has.keys;
    totals = not-indexed schema analyzer cut.totals came field t has.totals out;
  }
    where
      by_case : (o : Option FieldEntry) → slice_get schema field ≡ o → is_field is_indexed o ≡ false
      by_case None at = refl
      by_case (Some entry) at = out entry at

  one-value : is_field is_indexed (slice_get schema field) ≡ true → document_values schema analyzer (came ++ (field, t) ∷ []) ≡ document_values schema analyzer came ++ value_of schema analyzer (field, t) ∷ []
  one-value e =
      ap (map (value_of schema analyzer)) (
      filter-append (λ (p : ℕ × Tree). is_field is_indexed (slice_get schema p.0)) came ((field, t) ∷ [])
      ∙ ap (λ b. indexed_part schema came ++ cond b ((field, t) ∷ []) []) e)
      ∙ map-append (value_of schema analyzer) (indexed_part schema came) ((field, t) ∷ [])

  -- a pair in an indexed field, of which the value is kept
  pub cut-kept : (document : Document) (old new : CutDocument) (v : IndexedValue) (entry : FieldEntry) → slice_get schema field ≡ Some entry → is_indexed entry ≡ true → new.values.items ≡ old.values.items ++ v ∷ [] → v.field ≡ field → slice_get document v.at ≡ Some (field, t) → content_by v.form t ≡ content_of analyzer entry t → HasPlainKeys v.form t → AllStand schema analyzer new.totals (came ++ (field, t) ∷ []) → HasCut schema analyzer document came old → HasCut schema analyzer document (came ++ (field, t) ∷ []) new
  cut-kept document old new v entry here indexed put in_field at content keys totals has =
      let gives : content_there v.form (slice_get document v.at) ≡ content_at analyzer t (slice_get schema field) =
      ap (content_there v.form) at ∙ content ∙ sym (ap (content_at analyzer t) here) in
      let one : value_in document v ≡ value_of schema analyzer (field, t) = λ i. (in_field i, gives i) in
      record {
        values =
            ap (map (value_in document)) put
            ∙ map-append (value_in document) old.values.items (v ∷ [])
            ∙ ap (λ x. map (value_in document) old.values.items ++ x ∷ []) one
            ∙ ap (λ l. l ++ value_of schema analyzer (field, t) ∷ []) has.values
            ∙ sym (one-value (ap (is_field is_indexed) here ∙ indexed));
        keys = subst (AllByRecursion (IsPlainIn document)) (sym put) (all_push (IsPlainIn document) old.values.items v has.keys
            (subst (λ (o : Option (ℕ × Tree)). IfSome o (λ p. HasPlainKeys v.form p.1)) (sym at) keys));
        totals = totals;
      }

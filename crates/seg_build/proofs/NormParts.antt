-- The parts of the file of length ids.
use Rattle.std.proofs.Common.{◌≡◌, ℕ, true, false, cond, List, [], ◌∷◌, map, Some, None, Option, option_map, refl, sym, ap, ◌∙◌}
use Rattle.std.specs.Prelude.{option_and_then, unwrap_or}
use Rattle.std.specs.List.{slice_get, slice_index_or}
use Rattle.std.proofs.lemmas.Option.{slice_get-map, unwrap_or-slice_get}
use Rattle.seg_values.specs.declared.schema.FieldEntry.{FieldEntry}
use Rattle.seg_values.specs.Tree.{Document}
use Rattle.seg_model.specs.Fields.{Schema, Analyzer, has_lengths, values_of, fields}
use Rattle.seg_model.specs.Norms.{length_id, field_norms, field_length, all_norms}
use Rattle.seg_norms.specs.FieldNorms.{fields_with_lengths, norms_parts}
use Rattle.seg_segment.specs.WrittenLengths.{parts_with}
use Rattle.seg_build.specs.BatchContents.{kept_norms}
use Rattle.seg_build.specs.NormsFile.{kept_ids}

module _ (schema : Schema) (analyzer : Analyzer) (documents : List Document) where
  -- what is kept of a field, and its ids
  ids_at : (o : Option (ℕ × FieldEntry)) → unwrap_or (option_and_then (λ (f : Option (List ℕ)). f) (option_map (λ (f : ℕ × FieldEntry). cond (has_lengths f.1) (Some (field_norms analyzer documents f)) None) o)) [] ≡ unwrap_or (option_map (field_norms analyzer documents) o) []
  ids_at None = refl
  ids_at (Some f) = elim (has_lengths f.1) as (λ b. unwrap_or (cond b (Some (cond b (map (λ d. length_id (field_length analyzer f.1 (values_of f.0 d))) documents) [])) None) [] ≡ cond b (map (λ d. length_id (field_length analyzer f.1 (values_of f.0 d))) documents) []) [ true ↦ refl | false ↦ refl ]

  kept_ids_are : (k : ℕ) → kept_ids (Some (kept_norms schema analyzer documents)) k ≡ slice_index_or (all_norms schema analyzer documents) k []
  kept_ids_are k =
      ap (λ o. unwrap_or (option_and_then (λ (f : Option (List ℕ)). f) o) []) (slice_get-map (λ (f : ℕ × FieldEntry). cond (has_lengths f.1) (Some (field_norms analyzer documents f)) None) (fields schema) k)
      ∙ ids_at (slice_get (fields schema) k)
      ∙ ap (λ o. unwrap_or o []) (sym (slice_get-map (field_norms analyzer documents) (fields schema) k))
      ∙ unwrap_or-slice_get (all_norms schema analyzer documents) k []

  parts_are : (fs : List ℕ) → parts_with (kept_ids (Some (kept_norms schema analyzer documents))) fs ≡ map (λ f. (f, slice_index_or (all_norms schema analyzer documents) f [])) fs
  parts_are [] = refl
  parts_are (f ∷ fs) = λ i. (f, kept_ids_are f i) ∷ parts_are fs i

  -- the ids that are kept of documents are the ids of their fields
  pub kept_parts_are : (kept : Option (List (Option (List ℕ)))) → kept ≡ Some (kept_norms schema analyzer documents) → parts_with (kept_ids kept) (fields_with_lengths schema) ≡ norms_parts schema (all_norms schema analyzer documents)
  kept_parts_are kept is = ap (λ k. parts_with (kept_ids k) (fields_with_lengths schema)) is ∙ parts_are (fields_with_lengths schema)

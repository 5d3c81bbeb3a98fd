-- The stored documents and the length ids of parts joined.
use Rattle.std.proofs.Common.{◌≡◌, ℕ, Bool, true, false, cond, List, [], map, Some, refl, ap, ◌∙◌}
use Rattle.std.specs.List.{flat_map, slice_get}
use Rattle.seg_values.specs.declared.schema.FieldEntry.{FieldEntry}
use Rattle.seg_values.specs.Tree.{Document}
use Rattle.seg_model.specs.Fields.{Schema, Analyzer, fields, has_lengths, values_of}
use Rattle.seg_model.specs.Operations.{Batch, live}
use Rattle.seg_model.specs.DocumentTerms.{stored_document}
use Rattle.seg_model.specs.Norms.{length_id, field_length, field_norms, all_norms}
use Rattle.seg_model.specs.Contents.{Contents, norms_at}
use Rattle.seg_model.specs.Join.{Part, live_of, joined_norms}
use Rattle.seg_model.specs.Laws.{IsReadingOf, AreReadingsOf}
use Rattle.seg_model.proofs.Fields.{at_place, each_place}
use Rattle.seg_model.proofs.LiveParts.{was_read, live_of-map}

module _ (schema : Schema) (analyzer : Analyzer) (bs : List Batch) (ps : List Part) (all : AreReadingsOf schema analyzer bs ps) where
  pub stored_live : live_of (λ p. p.contents.stored) ps ≡ map (stored_document schema) (flat_map live bs)
  stored_live = live_of-map schema analyzer (λ p. p.contents.stored) (stored_document schema) each bs ps all
    where
      each : (b : Batch) (p : Part) → IsReadingOf schema analyzer b p → p.contents.stored ≡ map (stored_document schema) b.documents
      each b p r = ap (λ (c : Contents). c.stored) (was_read schema analyzer b.documents p.contents r.contents).is_reading

  norms_of_field : (i : ℕ) (e : FieldEntry) → slice_get schema i ≡ Some e → joined_norms ps (i, e) ≡ field_norms analyzer (flat_map live bs) (i, e)
  norms_of_field i e at = by_lengths (has_lengths e) refl
    where
      one : Document → ℕ
      one d = length_id (field_length analyzer e (values_of i d))

      each : has_lengths e ≡ true → (b : Batch) (p : Part) → IsReadingOf schema analyzer b p → norms_at p.contents i ≡ map (λ d. length_id (field_length analyzer e (values_of i d))) b.documents
      each has b p r =
          ap (λ (c : Contents). norms_at c i) (was_read schema analyzer b.documents p.contents r.contents).is_reading
          ∙ at_place (field_norms analyzer b.documents) [] i schema e at
          ∙ ap (λ x. cond x (map (λ d. length_id (field_length analyzer e (values_of i d))) b.documents) []) has

      by_lengths : (x : Bool) → has_lengths e ≡ x → cond x (live_of (λ p. norms_at p.contents i) ps) [] ≡ cond x (map (λ d. length_id (field_length analyzer e (values_of i d))) (flat_map live bs)) []
      by_lengths true has = live_of-map schema analyzer (λ p. norms_at p.contents i) (λ d. length_id (field_length analyzer e (values_of i d))) (each has) bs ps all
      by_lengths false has = refl

  pub norms_live : map (joined_norms ps) (fields schema) ≡ all_norms schema analyzer (flat_map live bs)
  norms_live = each_place (joined_norms ps) (field_norms analyzer (flat_map live bs)) schema norms_of_field

-- The full reading of sound documents is of full shape.
use Rattle.std.proofs.Common.{◌≡◌, ℕ, zero, suc, ◌<◌, ◌≤◌, Bool, true, false, cond, List, [], ◌∷◌, map, length, Some, sym, ap, ◌∙◌, subst, arith}
use Rattle.std.specs.Prelude.{nat_le}
use Rattle.std.specs.List.{slice_get, AllByRecursion}
use Rattle.std.specs.FinMap.{get, empty}
use Rattle.std.proofs.lemmas.List.{length-map}
use Rattle.std.proofs.lemmas.List.FromFn.{length-enumerate_from}
use Rattle.seg_values.specs.declared.schema.FieldEntry.{FieldEntry}
use Rattle.seg_values.specs.Tree.{Document}
use Rattle.seg_model.specs.Fields.{Schema, Analyzer, fields, is_indexed, has_lengths, values_of, indexing_tokenizer}
use Rattle.seg_model.specs.Occurrences.{occurrences_at, occurrences, kind_occurrences}
use Rattle.seg_model.specs.DocumentTerms.{Posting, terms_of, if_any, stored_document, field_terms, recorded_in, postings_from}
use Rattle.seg_model.specs.Norms.{length_of_id, greatest_id, length_id, field_length, field_norms}
use Rattle.seg_model.specs.Columns.{ColumnKey, Columns, declared_columns, values_at, fast_values}
use Rattle.seg_model.specs.Contents.{terms_at, norms_at, reading_with}
use Rattle.seg_model.specs.DocumentCheck.{IsSound}
use Rattle.seg_model.specs.Shape.{HasFullShape, IsTermWith, AreRowsOf}
use Rattle.seg_model.specs.Laws.{recorded_values, ReadingsHaveFullShape}
use Rattle.seg_model.proofs.Fields.{at_place}
use Rattle.seg_model.proofs.LiveParts.{was_read}
use Rattle.seg_model.proofs.JoinedTerms.{get-terms_of, AreNone, postings_from-none}
use Rattle.seg_model.proofs.JoinedColumns.{AreColumns, are_columns, covers_documents, numbers_read}
use Rattle.seg_model.proofs.ColumnShapes.{declared_there, rows_shaped, one_type, free_shaped}
use Rattle.seg_model.proofs.ReadingTermShapes.{term_read, forms_of}
use Rattle.seg_model.proofs.ReadingColumnShapes.{typed_values, free_read}

greatest_id-le : (n last : ℕ) → greatest_id n last ≤ last
greatest_id-le n zero = omega arith
greatest_id-le n (suc last) = by (nat_le (length_of_id (suc last)) n) (greatest_id-le n last)
  where
    by : (b : Bool) → greatest_id n last ≤ last → cond b (suc last) (greatest_id n last) ≤ suc last
    by true h = omega arith
    by false h = omega arith

length_id-below : (n : ℕ) → length_id n < 256
unfolding length_id
length_id-below n = omega (arith, greatest_id-le n 255)

module _ (schema : Schema) (analyzer : Analyzer) (ds : List Document) where
  ids_below : (i : ℕ) (e : FieldEntry) (all : List Document) → AllByRecursion (λ id. id < 256) (map (λ d. length_id (field_length analyzer e (values_of i d))) all)
  ids_below i e [] = tt
  ids_below i e (d ∷ all) = (length_id-below (field_length analyzer e (values_of i d)), ids_below i e all)

  typed_rows : (k : ColumnKey) (all : List Document) → AreRowsOf k.type (map (values_at k) (map (fast_values schema analyzer) all))
  typed_rows k [] = tt
  typed_rows k (d ∷ all) = (typed_values k (fast_values schema analyzer d), typed_rows k all)

  module _ (sound : AllByRecursion (IsSound schema) ds) (cs : Columns) (are : AreColumns (declared_columns schema) (recorded_values schema analyzer ds) cs) where
    terms_there : (i : ℕ) (e : FieldEntry) → slice_get schema i ≡ Some e → terms_at (reading_with schema analyzer ds cs) i ≡ terms_of e (map (λ d. occurrences schema analyzer d i) ds)
    terms_there i e at = at_place (field_terms schema analyzer ds) empty i schema e at

    term_there : (i : ℕ) (e : FieldEntry) → slice_get schema i ≡ Some e → is_indexed e ≡ true → (term : List ℕ) (postings : List Posting) → get (terms_at (reading_with schema analyzer ds cs) i) term ≡ Some postings → IsTermWith e (length ds) term postings
    term_there i e at on term postings g =
        subst (λ n. IsTermWith e n term postings) (length-map ds (λ d. occurrences schema analyzer d i))
        (term_read e term (map (λ d. occurrences schema analyzer d i) ds) (forms_of schema analyzer i e at on ds sound) postings (ap (λ t. get t term) (sym (terms_there i e at)) ∙ g))

    norms_there : (i : ℕ) (e : FieldEntry) → slice_get schema i ≡ Some e → norms_at (reading_with schema analyzer ds cs) i ≡ field_norms analyzer ds (i, e)
    norms_there i e at = at_place (field_norms analyzer ds) [] i schema e at

    -- a field that is not indexed has no occurrences
    nothing_occurs : (i : ℕ) (e : FieldEntry) → slice_get schema i ≡ Some e → is_indexed e ≡ false → (term : List ℕ) → (all : List Document) → postings_from 0 (map (recorded_in e term) (map (λ d. occurrences schema analyzer d i) all)) ≡ []
    nothing_occurs i e at off term all = postings_from-none 0 _ (none all)
      where
        none : (all : List Document) → AreNone (map (recorded_in e term) (map (λ d. occurrences schema analyzer d i) all))
        none [] = tt
        none (d ∷ all) =
            let field : occurrences schema analyzer d i ≡ [] = ap (occurrences_at analyzer d i) at ∙ ap (λ b. cond b (kind_occurrences e.kind e.expand_dots (analyzer (indexing_tokenizer e)) (values_of i d)) []) off in
            (ap (recorded_in e term) field, none all)

    shaped : HasFullShape schema (reading_with schema analyzer ds cs)
    shaped = record {
      terms_per_field = length-map (fields schema) (field_terms schema analyzer ds) ∙ length-enumerate_from 0 schema;
      terms = term_there;
      no_terms = λ i e at off term. ap (λ t. get t term) (terms_there i e at) ∙ get-terms_of e (map (λ d. occurrences schema analyzer d i) ds) term ∙ ap if_any (nothing_occurs i e at off term ds);
      stored = length-map ds (stored_document schema);
      norms_per_field = length-map (fields schema) (field_norms analyzer ds) ∙ length-enumerate_from 0 schema;
      norms = λ i e at has. (
        ap length (ids i e at has) ∙ length-map ds (λ d. length_id (field_length analyzer e (values_of i d))),
        subst (AllByRecursion (λ id. id < 256)) (sym (ids i e at has)) (ids_below i e ds),
      );
      no_norms = λ i e at off. norms_there i e at ∙ ap (λ b. cond b (map (λ d. length_id (field_length analyzer e (values_of i d))) ds) []) off;
      declared = declared_there schema (recorded_values schema analyzer ds) cs (length ds) are (λ path. numbers_read schema analyzer path ds);
      free = free_shaped schema (recorded_values schema analyzer ds) cs (length ds) are (λ path. numbers_read schema analyzer path ds) (λ path type u h. free_read schema analyzer path type u ds sound h);
      rows = rows_shaped schema (recorded_values schema analyzer ds) cs (length ds) are (λ path. numbers_read schema analyzer path ds) (λ k. length-map (map (fast_values schema analyzer) ds) (values_at k) ∙ length-map ds (fast_values schema analyzer)) (λ k. typed_rows k ds);
      one_number_type = one_type schema (recorded_values schema analyzer ds) cs (length ds) are (λ path. numbers_read schema analyzer path ds);
    }
      where
        ids : (i : ℕ) (e : FieldEntry) → slice_get schema i ≡ Some e → has_lengths e ≡ true → norms_at (reading_with schema analyzer ds cs) i ≡ map (λ d. length_id (field_length analyzer e (values_of i d))) ds
        ids i e at has = norms_there i e at ∙ ap (λ b. cond b (map (λ d. length_id (field_length analyzer e (values_of i d))) ds) []) has

pub readings_have_full_shape : ReadingsHaveFullShape
readings_have_full_shape schema analyzer ds contents sound e =
    let read = was_read schema analyzer ds contents e in
    subst (HasFullShape schema) (sym read.is_reading) (shaped schema analyzer ds sound read.columns_read (are_columns (declared_columns schema) (recorded_values schema analyzer ds) _ _ (covers_documents (declared_columns schema) (map (fast_values schema analyzer) ds)) read.are_columns))

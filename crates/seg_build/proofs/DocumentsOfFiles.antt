-- Files that spell what was indexed stand for its documents.
use Rattle.std.proofs.Common.{◌≡◌, ℕ, Bool, true, false, List, [], ◌∷◌, cond, filter, map, length, Some, refl, sym, ap, subst}
use Rattle.std.specs.List.{list_all, AllByRecursion}
use Rattle.std.specs.Option.{option_map}
use Rattle.std.proofs.lemmas.Bool.{and_from}
use Rattle.seg_store.specs.Store.{store_of, documents_of}
use Rattle.seg_store.specs.StoredFields.{have_stored_fields, is_stored_field}
use Rattle.seg_values.specs.StoredDocuments.{stored_value}
use Rattle.seg_values.specs.Tree.{Document, Tree}
use Rattle.seg_values.specs.Utf8Values.{IsUtf8Document}
use Rattle.seg_model.specs.TextDocuments.{is_taken}
use Rattle.seg_model.specs.Columns.{Columns, columns}
use Rattle.seg_model.specs.Contents.{reading_with, full_reading}
use Rattle.seg_model.specs.Fields.{Schema, Analyzer}
use Rattle.seg_model.specs.DocumentTerms.{Terms, stored_document, all_terms}
use Rattle.seg_model.proofs.Exports.{readings_have_full_shape}
use Rattle.seg_column_format.specs.SchemaColumns.{HaveColumns}
use Rattle.seg_build.specs.declared.fields.IndexedBatch.{IndexedBatch}
use Rattle.seg_segment.specs.declared.segment_files.SegmentFiles.{SegmentFiles}
use Rattle.seg_build.specs.BatchContents.{IsBatchOf}
use Rattle.seg_build.specs.FieldTerms.{FieldTerms}
use Rattle.seg_build.specs.SerializerContents.{AreFieldsOf, HoldsNorms}
use Rattle.seg_segment.specs.TermFiles.{HoldTerms}
use Rattle.seg_segment.specs.DocumentsOfFiles.{StandFor}
use Rattle.seg_build.proofs.RecordedTerms.{fields_have_terms}
use Rattle.seg_build.proofs.SoundDocuments.{taken_are_sound}

-- files that spell a batch, and documents with columns
pub record Spells (schema : Schema) (batch : IndexedBatch) (documents : List Document) (cs : Columns) (files : SegmentFiles) : Type 0 where
  pub terms : (held : List Terms) → AreFieldsOf schema batch.fields held → HoldTerms schema files.terms files.postings files.positions held
  pub norms : HoldsNorms schema batch files.field_norms
  pub stored : option_map documents_of (store_of files.store) ≡ Some (map (stored_document schema) documents)
  pub columns : HaveColumns (length documents) files.fast_fields cs

-- what is stored of documents has stored fields
module _ (schema : Schema) where
  abbrev stored_pairs : Document → Document
  stored_pairs ps = map (λ p. (p.0, stored_value p.1)) ps

  abbrev all_fit : Document → Bool
  all_fit ps = list_all (λ p. is_stored_field schema p.0) ps

  one_fits : (p : ℕ × Tree) (ps : Document) (b : Bool) → is_stored_field schema p.0 ≡ b → all_fit (stored_pairs ps) ≡ true → all_fit (stored_pairs (cond b (p ∷ ps) ps)) ≡ true
  one_fits p ps true stored rest = and_from (is_stored_field schema p.0) (all_fit (stored_pairs ps)) stored rest
  one_fits p ps false stored rest = rest

  pairs_fit : (d : Document) → all_fit (stored_document schema d) ≡ true
  pairs_fit [] = refl
  pairs_fit (p ∷ ps) = one_fits p (filter (λ q. is_stored_field schema q.0) ps) (is_stored_field schema p.0) refl (pairs_fit ps)

  stored_fit : (ds : List Document) → have_stored_fields schema (map (stored_document schema) ds) ≡ true
  stored_fit [] = refl
  stored_fit (d ∷ ds) = and_from (all_fit (stored_document schema d)) (have_stored_fields schema (map (stored_document schema) ds)) (pairs_fit d) (stored_fit ds)

module _ (schema : Schema) (analyzer : Analyzer) (documents : List Document) (taken : list_all (is_taken schema analyzer) documents ≡ true) (utf8 : AllByRecursion IsUtf8Document documents) (cs : Columns) (columns_are : columns schema analyzer documents ≡ Some cs) where
  read : full_reading schema analyzer documents ≡ Some (reading_with schema analyzer documents cs)
  read = ap (option_map (reading_with schema analyzer documents)) columns_are

  pub stands : (batch : IndexedBatch) (files : SegmentFiles) → IsBatchOf schema analyzer documents batch → Spells schema batch documents cs files → StandFor schema analyzer documents files
  stands batch files is spells = record {
    contents = reading_with schema analyzer documents cs;
    read = read;
    spelled = record {
      hold_terms = spells.terms (all_terms schema analyzer documents) (subst (λ (fs : List FieldTerms). AreFieldsOf schema fs (all_terms schema analyzer documents)) (sym is.fields) (fields_have_terms schema analyzer documents));
      norm_parts = spells.norms analyzer documents is.norms;
      stored = spells.stored;
      stored_fields = stored_fit schema documents;
      columns = spells.columns;
      shape = readings_have_full_shape schema analyzer documents _ (taken_are_sound schema analyzer documents taken utf8) read;
    };
  }

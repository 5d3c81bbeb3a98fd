-- What a writer kept of its documents makes their batch and their store.
use Rattle.std.proofs.Common.{◌≡◌, ℕ, ◌<◌, ◌^◌, List, map, length, Some, None, Option, refl, sym, ap, ◌∙◌, subst}
use Rattle.std.specs.Prelude.{IsSomeAnd}
use Rattle.std.specs.FinMap.{entries}
use Rattle.std.specs.List.{AllByRecursion}
use Rattle.std.specs.Option.{option_map}
use Rattle.std.proofs.lemmas.List.{length-map}
use Rattle.seg_common.specs.WriterGrowth.{HasGrown}
use Rattle.seg_values.specs.declared.schema.FieldEntry.{FieldEntry}
use Rattle.seg_values.specs.StoredBytes.{stored_form}
use Rattle.seg_values.specs.Tree.{Document}
use Rattle.seg_model.specs.Fields.{Schema, Analyzer}
use Rattle.seg_model.specs.DocumentTerms.{stored_document}
use Rattle.seg_store.specs.Block.{Block}
use Rattle.seg_store.specs.Store.{store_of, documents_of}
use Rattle.seg_store.specs.WriterBlocks.{Taken, all_blocks}
use Rattle.seg_norms.specs.FieldNorms.{filled}
use Rattle.seg_build.specs.BatchContents.{kept_norms}
use Rattle.seg_terms.specs.TermEntries.{TermEntries}
use Rattle.seg_build.specs.FieldTerms.{FieldTerms, positional_terms, recorded_fields, fields_of}
use Rattle.seg_build.specs.WriterContents.{Kept}
use Rattle.seg_build.specs.DocumentLengths.{HaveLengths}
use Rattle.seg_build.specs.SegmentWriters.{Stores, IsKeptOf}
use Rattle.seg_build.specs.FieldsByValue.{fresh}
use Rattle.seg_build.specs.StoredBatch.{IsStoredBatch}
use Rattle.seg_build.specs.StoredBlocks.{HasBlocks, stored_with}
use Rattle.seg_build.specs.WritableTerms.{CanBeWritten}
use Rattle.seg_build.specs.FieldState.{FieldSoFar}
use Rattle.seg_build.specs.declared.fields.IndexedBatch.{IndexedBatch}
use Rattle.seg_build.proofs.RecordedTerms.{recorded_are_fields, length-recorded_fields}
use Rattle.seg_build.proofs.AllDocuments.{terms_of_all, length-with_documents}
use Rattle.seg_build.proofs.WritableTerms.{taken_terms_can_be_written}

-- the terms of fields, each in byte order with all its positions
abbrev pub listed : List FieldSoFar → List TermEntries
listed fields = map (λ f. entries f.terms) fields

read_from : (schema : Schema) (size : ℕ) (documents : List Document) (o : Option Taken) (file : Option (List Block)) → file ≡ option_map all_blocks o → IsSomeAnd o (Stores schema size documents) → option_map documents_of file ≡ Some (map (stored_document schema) documents)
read_from schema size documents (Some w) file is so = ap (option_map documents_of) is ∙ ap Some so.read
read_from schema size documents None file is so = absurd so

cut_from : (schema : Schema) (size : ℕ) (documents : List Document) (o : Option Taken) (file : Option (List Block)) → file ≡ option_map all_blocks o → IsSomeAnd o (Stores schema size documents) → file ≡ Some (all_blocks (stored_with size (map (stored_form schema) documents)))
cut_from schema size documents (Some w) file is so = is ∙ ap (λ (t : Taken). Some (all_blocks t)) so.cut
cut_from schema size documents None file is so = absurd so

module _ (schema : Schema) (analyzer : Analyzer) (size : ℕ) (documents : List Document) (stamps : List ℕ) (kept : Kept) (are : IsKeptOf schema analyzer size documents stamps kept) where
  terms : listed kept.fields ≡ map entries (positional_terms schema analyzer documents)
  terms = ap listed are.fields ∙ terms_of_all schema analyzer documents

  pub as_many_fields : length kept.fields ≡ length schema
  as_many_fields = ap length are.fields ∙ length-with_documents schema analyzer 0 (map (λ (e : FieldEntry). fresh) schema) documents ∙ length-map schema (λ (e : FieldEntry). fresh)

  pub as_many_recorded : (fields : List FieldTerms) → fields ≡ recorded_fields schema (listed kept.fields) → length fields ≡ length schema
  as_many_recorded fields is = ap length is ∙ length-recorded_fields schema (listed kept.fields) (length-map kept.fields (λ (f : FieldSoFar). entries f.terms) ∙ as_many_fields)

  pub are_fields : (fields : List FieldTerms) → fields ≡ recorded_fields schema (listed kept.fields) → fields ≡ fields_of schema analyzer documents
  are_fields fields is = is ∙ ap (recorded_fields schema) terms ∙ recorded_are_fields schema analyzer documents

  pub are_writable : AllByRecursion CanBeWritten (recorded_fields schema (listed kept.fields))
  are_writable =
      subst (AllByRecursion CanBeWritten) (sym (are_fields (recorded_fields schema (listed kept.fields)) refl))
      (taken_terms_can_be_written schema analyzer documents are.taken are.few)

  pub few_stamps : length kept.stamps < 2 ^ 31
  few_stamps = subst (λ n. n < 2 ^ 31) (sym (ap length are.stamped ∙ are.each)) are.few

  -- lengths that are filled up are those of all documents
  all_lengths : (norms : Option (List (Option (List ℕ)))) (count : ℕ) → HasGrown kept.norms norms (map (option_map (filled count))) → count ≡ length kept.stamps → norms ≡ Some (kept_norms schema analyzer documents)
  all_lengths norms count grown many =
      let have : HaveLengths schema analyzer documents grown.kept = subst (λ o. IsSomeAnd o (HaveLengths schema analyzer documents)) grown.was are.norms in
      grown.is
      ∙ ap (λ n. Some (map (option_map (filled n)) grown.kept)) (many ∙ ap length are.stamped ∙ are.each)
      ∙ ap Some have.filled

  pub is_stored_batch : (batch : IndexedBatch) (count : ℕ) (store : List ℕ) → batch.fields ≡ recorded_fields schema (listed kept.fields) → HasGrown kept.norms batch.norms (map (option_map (filled count))) → count ≡ length kept.stamps → store_of store ≡ option_map all_blocks kept.store → IsStoredBatch schema analyzer documents batch store
  is_stored_batch batch count store fields norms many file = record {
    taken = are.taken;
    utf8 = are.utf8;
    indexed = record { fields = are_fields batch.fields fields; norms = all_lengths batch.norms count norms many };
    stored = read_from schema size documents kept.store (store_of store) file are.store;
  }

  -- and its blocks are cut by their size
  pub has_blocks : (store : List ℕ) → store_of store ≡ option_map all_blocks kept.store → HasBlocks schema size documents store
  has_blocks store file = cut_from schema size documents kept.store (store_of store) file are.store

-- What the bytes of six files spell.
use Rattle.std.specs.Prelude.{◌≡◌, true, Some}
use Rattle.std.specs.Option.{option_map}
use Rattle.seg_model.specs.Fields.{Schema}
use Rattle.seg_model.specs.Contents.{Contents}
use Rattle.seg_model.specs.Shape.{HasFullShape}
use Rattle.seg_directory.specs.CompositeFiles.{composite}
use Rattle.seg_column_format.specs.SchemaColumns.{HaveColumns}
use Rattle.seg_store.specs.Store.{store_of, documents_of}
use Rattle.seg_store.specs.StoredFields.{have_stored_fields}
use Rattle.seg_norms.specs.FieldNorms.{norms_parts}
use Rattle.seg_segment.specs.TermFiles.{HoldTerms}
use Rattle.seg_segment.specs.declared.segment_files.SegmentFiles.{SegmentFiles}

-- six files spell contents of full shape; each pair of a stored document has a field that is in the schema and stored
pub record Spell (schema : Schema) (files : SegmentFiles) (contents : Contents) : Type 0 where
  pub hold_terms : HoldTerms schema files.terms files.postings files.positions contents.terms
  pub norm_parts : composite files.field_norms ≡ Some (norms_parts schema contents.norms)
  pub stored : option_map documents_of (store_of files.store) ≡ Some contents.stored
  pub stored_fields : have_stored_fields schema contents.stored ≡ true
  pub columns : HaveColumns contents.documents files.fast_fields contents.columns
  pub shape : HasFullShape schema contents

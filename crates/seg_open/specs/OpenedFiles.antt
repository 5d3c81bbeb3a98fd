-- A segment whose files are opened.
use Rattle.std.specs.Prelude.{◌≡◌, ◌≢◌, ℕ, List, length, true, Option, Some}
use Rattle.seg_model.specs.Fields.{Schema}
use Rattle.seg_directory.specs.CompositeFiles.{Part, composite}
use Rattle.seg_column_file.specs.ColumnFiles.{column_file_of}
use Rattle.seg_column_format.specs.SchemaColumns.{HoldColumns}
use Rattle.seg_store.specs.Block.{Block}
use Rattle.seg_store.specs.Store.{store_of, documents_of}
use Rattle.seg_store.specs.StoredFields.{have_stored_fields}
use Rattle.seg_postings.specs.OpenedFields.{OpenField}
use Rattle.seg_norms.specs.FieldNorms.{norms_parts}
use Rattle.seg_norms.specs.StoredNorms.{AreNorms, HoldNorms, norms_of}
use Rattle.seg_segment.specs.declared.segment_files.SegmentFiles.{SegmentFiles}
use Rattle.seg_open.specs.FileSizes.{sizes_of}
use Rattle.seg_open.specs.OpenedFields.{AreOpened}
use Rattle.seg_open.specs.IndexedParts.{HaveIndexedParts}
use Rattle.seg_open.specs.declared.core_readers.CoreReaders.{CoreReaders}

-- three files have a part for each field that is indexed, and each of these is open
pub record TermsAreOpen (schema : Schema) (documents : ℕ) (terms postings positions : List ℕ)
    (fields : List (Option OpenField)) : Type 0 where
  pub term_parts : List Part
  pub posting_parts : List Part
  pub position_parts : List Part
  pub term_file : HaveIndexedParts schema terms term_parts
  pub posting_file : HaveIndexedParts schema postings posting_parts
  pub position_file : HaveIndexedParts schema positions position_parts
  pub opened : AreOpened schema documents term_parts posting_parts position_parts fields

-- bytes are opened as the store of this many documents in the stored fields of a schema
abbrev pub StoreOpened : Schema → ℕ → List ℕ → List Block → Type 0
StoreOpened schema documents bytes blocks =
    (store_of bytes ≡ Some blocks) × (have_stored_fields schema (documents_of blocks) ≡ true)
    × (length (documents_of blocks) ≡ documents)

-- why not
abbrev pub StoreUnopened : Schema → ℕ → List ℕ → Type 0
StoreUnopened schema documents bytes =
    (blocks : List Block) → store_of bytes ≡ Some blocks → have_stored_fields schema (documents_of blocks) ≡ true
    → length (documents_of blocks) ≢ documents

-- bytes are opened as the length ids of this many documents in the fields of a schema
abbrev pub NormsOpened : Schema → ℕ → List ℕ → List Part → Type 0
NormsOpened schema documents bytes norms =
    (composite bytes ≡ Some norms) × HoldNorms schema documents norms (norms_of schema norms)

-- why not
abbrev pub NormsUnopened : Schema → ℕ → List ℕ → Type 0
NormsUnopened schema documents bytes =
    (norms : List (List ℕ)) → AreNorms schema documents norms → composite bytes ≢ Some (norms_parts schema norms)

-- readers are those of six files
pub record AreOpen (schema : Schema) (documents : ℕ) (files : SegmentFiles) (readers : CoreReaders) : Type 0 where
  pub terms : TermsAreOpen schema documents files.terms files.postings files.positions readers.fields.items
  pub store : StoreOpened schema documents files.store readers.store
  pub columns : HoldColumns schema documents files.fast_fields
  pub columns_are : readers.fast_fields ≡ record { schema = schema; file = column_file_of files.fast_fields }
  pub norms : NormsOpened schema documents files.field_norms readers.norms
  pub sizes : readers.sizes ≡ sizes_of files

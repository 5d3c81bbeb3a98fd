-- A writer of a segment while documents are added.
use Rattle.std.specs.Prelude.{ℕ, ◌≡◌, ◌≤◌, ◌<◌, ◌+◌, ◌-◌, ◌^◌, List, [], ◌∷◌, ◌++◌, map, length, true, Option, Some, None, option_map, IsSomeAnd, IfSome}
use Rattle.std.specs.List.{list_all, AllByRecursion}
use Rattle.seg_common.specs.WriterGrowth.{HasGrown}
use Rattle.seg_values.specs.declared.error.ArgumentCause.TheVariants.{Documents}
use Rattle.seg_values.specs.declared.error.TantivyError.{TantivyError}
use Rattle.seg_values.specs.declared.error.TantivyError.TheVariants.{InvalidArgument, SystemError, OutOfMemory}
use Rattle.seg_values.specs.Tree.{Document}
use Rattle.seg_values.specs.Utf8Values.{IsUtf8Document}
use Rattle.seg_model.specs.TextDocuments.{is_taken}
use Rattle.seg_model.specs.DocumentCheck.{at_place, document_refusal}
use Rattle.seg_model.specs.Columns.{FastValue, fast_values}
use Rattle.seg_model.specs.Fields.{Schema, Analyzer}
use Rattle.seg_model.specs.DocumentTerms.{stored_document}
use Rattle.seg_model.specs.ValidInputs.{Known}
use Rattle.seg_column_format.specs.FastTokenizers.{AreKnown}
use Rattle.seg_fastfield.specs.FastFieldWriters.{Holds}
use Rattle.seg_values.specs.StoredBytes.{stored_form}
use Rattle.seg_check.specs.IndexedValues.{IsPlainIn, value_in}
use Rattle.seg_check.specs.declared.indexed_value.IndexedValue.{IndexedValue}
use Rattle.seg_store.specs.BlockLaw.{all_documents}
use Rattle.seg_store.specs.Store.{documents_of}
use Rattle.seg_doc_bytes.specs.StoredDocument.{stored_document_of}
use Rattle.seg_doc_bytes.specs.StoredDocumentLaw.{AreShallow}
use Rattle.seg_store.specs.WriterBlocks.{Taken, with_document, all_blocks, taken_count}
use Rattle.seg_build.specs.WriterContents.{Kept}
use Rattle.seg_build.specs.DocumentLengths.{HaveLengths, with_lengths}
use Rattle.seg_model.specs.SaturatedNumbers.{saturated}
use Rattle.seg_build.specs.MemoryUsage.{total, occurrence_count, value_count}
use Rattle.seg_build.specs.FieldsByValue.{AllFit, fresh, with_documents, with_values}
use Rattle.seg_build.specs.StoredBlocks.{stored_with}
use Rattle.seg_build.specs.declared.writer_parts.WriterParts.{WriterParts}

-- what the parts of a writer keep
abbrev pub kept_of : WriterParts → Kept
kept_of parts = record {
  fields = parts.fields.items;
  norms = parts.norms;
  fast = parts.fast;
  store = parts.store;
  stamps = parts.stamps.items;
  occurrences = parts.occurrences;
}

-- the schema and the id of the segment, the size of its store's blocks, and what is kept of the documents added so far:
-- nothing any more, once out of memory
pub record SegmentWriting : Type 0 where
  pub schema : Schema
  pub id : ℕ
  pub block_size : ℕ
  pub kept : Option Kept

-- a store has taken these documents, as they are stored, and cut them into blocks by their size
pub record Stores (schema : Schema) (block_size : ℕ) (documents : List Document) (taken : Taken) : Type 0 where
  pub read : documents_of (all_blocks taken) ≡ map (stored_document schema) documents
  pub count : taken_count taken ≡ length documents
  pub forms : all_documents taken ≡ map (stored_form schema) documents
  pub cut : taken ≡ stored_with block_size (map (stored_form schema) documents)

-- what these documents make, with their stamps, where blocks have a size
pub record IsKeptOf (schema : Schema) (analyzer : Analyzer) (block_size : ℕ) (documents : List Document)
    (stamps : List ℕ) (kept : Kept) : Type 0 where
  pub taken : list_all (is_taken schema analyzer) documents ≡ true
  pub few : length documents < 2 ^ 31
  pub utf8 : AllByRecursion IsUtf8Document documents
  pub fields : kept.fields ≡ with_documents schema analyzer 0 (map (λ _. fresh) schema) documents
  pub norms : IsSomeAnd kept.norms (HaveLengths schema analyzer documents)
  pub fast_schema : kept.fast.schema ≡ schema
  pub fast : Holds (map (fast_values schema analyzer) documents) kept.fast
  pub store : IsSomeAnd kept.store (Stores schema block_size documents)
  pub stamped : kept.stamps ≡ stamps
  pub each : length stamps ≡ length documents
  pub occurrences : kept.occurrences ≡ saturated (total (occurrence_count schema analyzer) documents)

-- some documents make these
pub record IsUnderWay (schema : Schema) (analyzer : Analyzer) (kept : Kept) : Type 0 where
  pub block_size : ℕ
  pub documents : List Document
  pub stamps : List ℕ
  pub are : IsKeptOf schema analyzer block_size documents stamps kept

-- a writer has these documents, with their stamps
abbrev pub Writes : Analyzer → List Document → List ℕ → SegmentWriting → Type 0
Writes analyzer documents stamps writer =
    IsSomeAnd writer.kept (IsKeptOf writer.schema analyzer writer.block_size documents stamps)

-- how many documents a writer has; none any more, once out of memory
abbrev pub document_count : Option Kept → ℕ
document_count None = 0
document_count (Some kept) = length kept.stamps

-- as many documents as a segment can have
abbrev pub IsFull : Kept → Type 0
IsFull kept = 2 ^ 31 - 1 ≤ length kept.stamps

-- one more will do
abbrev pub HasPlace : Kept → Type 0
HasPlace kept = length kept.stamps < 2 ^ 31 - 1

-- the same schema, id and size of blocks
pub record IsOfSame (old new : SegmentWriting) : Type 0 where
  pub schema : new.schema ≡ old.schema
  pub id : new.id ≡ old.id
  pub block_size : new.block_size ≡ old.block_size

-- a document is added: it comes after the others
pub record Adds (analyzer : Analyzer) (document : Document) (stamp : ℕ) (old new : SegmentWriting) : Type 0 where
  pub place : IsSomeAnd old.kept HasPlace
  pub taken : is_taken old.schema analyzer document ≡ true
  pub following : (documents : List Document) (stamps : List ℕ) → Writes analyzer documents stamps old
      → Writes analyzer (documents ++ document ∷ []) (stamps ++ stamp ∷ []) new

-- an error tells why a document is not taken; `stamp` is the place that it tells
abbrev pub Tells : Schema → Analyzer → Document → ℕ → TantivyError → Type 0
Tells schema analyzer document stamp e = at_place stamp (document_refusal schema analyzer document) ≡ Some e

-- a document is not added, for a cause; only when out of memory the writer is not as before
abbrev pub AddsNone : Analyzer → Document → ℕ → SegmentWriting → SegmentWriting → TantivyError → Type 0
AddsNone analyzer document stamp old new SystemError = (old.kept ≡ None) × (new ≡ old)
AddsNone analyzer document stamp old new (InvalidArgument Documents) = IsSomeAnd old.kept IsFull × (new ≡ old)
AddsNone analyzer document stamp old new OutOfMemory = IsSomeAnd old.kept HasPlace × (new.kept ≡ None)
AddsNone analyzer document stamp old new e = IsSomeAnd old.kept HasPlace
    × Tells old.schema analyzer document stamp e × (new ≡ old)

-- one more document can be taken, of which these are the indexed values
pub record HasRoom (known : Known) (analyzer : Analyzer) (document : Document) (values : List IndexedValue)
    (kept : Kept) : Type 0 where
  pub place : HasPlace kept
  pub passes : document_refusal kept.fast.schema analyzer document ≡ None
  pub fast_tokenizers : AreKnown known kept.fast.schema
  pub rows : kept.fast.rows < 2 ^ 31 - 1
  pub shallow : AreShallow document
  pub fit : AllFit (length kept.stamps) kept.fields (map (value_in document) values)
  pub keys : AllByRecursion (IsPlainIn document) values
  pub store : IfSome kept.store (λ w. taken_count w < 2 ^ 31 - 1)

-- one more document was taken, of which these are the indexed values
pub record HasTaken (schema : Schema) (analyzer : Analyzer) (document : Document) (values : List IndexedValue)
    (stamp : ℕ) (old new : Kept) : Type 0 where
  pub fields : new.fields ≡ with_values (length old.stamps) old.fields (map (value_in document) values)
  pub norms : new.norms ≡ option_map (with_lengths (length old.stamps) new.fields (map (λ v. v.field) values)) old.norms
  pub fast_schema : new.fast.schema ≡ old.fast.schema
  pub fast : (documents : List (List FastValue)) → Holds documents old.fast
      → Holds (documents ++ fast_values old.fast.schema analyzer document ∷ []) new.fast
  pub store : HasGrown old.store new.store (with_document (stored_form schema document))
  pub reads : stored_document_of (stored_form schema document) ≡ Some (stored_document schema document)
  pub stamps : new.stamps ≡ old.stamps ++ stamp ∷ []
  pub occurrences : new.occurrences
      ≡ saturated (old.occurrences + saturated (value_count (map (value_in document) values)))

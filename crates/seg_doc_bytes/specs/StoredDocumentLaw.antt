-- What is stored of a document is read as its stored pairs.
use Rattle.std.specs.Prelude.{◌≡◌, ◌≤◌, Some}
use Rattle.std.specs.List.{AllByRecursion}
use Rattle.seg_values.specs.Tree.{levels, Document}
use Rattle.seg_values.specs.Schemas.{Schema}
use Rattle.seg_values.specs.StoredDocuments.{stored_document}
use Rattle.seg_values.specs.StoredBytes.{stored_form}
use Rattle.seg_doc_bytes.specs.StoredDocument.{most_levels_read, stored_document_of}
use Rattle.seg_doc_bytes.specs.StorableDocuments.{IsStorableDocument}

-- each tree has no more levels than are read
abbrev pub AreShallow : Document → Type 0
AreShallow document = AllByRecursion (λ p. levels p.1 ≤ most_levels_read) document

-- the stored form of a document reads as its stored pairs
abbrev pub IsReadBack : Type 0
IsReadBack = (schema : Schema) (document : Document) → IsStorableDocument document → AreShallow document
    → stored_document_of (stored_form schema document) ≡ Some (stored_document schema document)

pub mod FrontReaders
pub mod FrontValues
pub mod PassedBytes
pub mod StorableDocuments
pub mod StoredDocument
pub mod StoredDocumentLaw
pub mod StoredTree

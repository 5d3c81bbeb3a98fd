pub mod FieldNorms
pub mod StoredNorms

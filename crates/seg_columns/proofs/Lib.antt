mod DictionaryTerms
pub mod DocumentValues
mod MarkedOrdinals
mod RisingEnds
mod StoredNumbers
mod TermOrder
mod TermParts

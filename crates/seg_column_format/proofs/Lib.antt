pub mod Exports
mod ByteOrder
pub mod ColumnRoundTrips
mod DeclaredKeys
pub mod EntryRoundTrips
mod FieldStarts
mod FileKeys
pub mod FileRoundTrips
mod FilledColumns
mod FoundColumns
mod FoundStarts
mod JsonPaths
mod KeyOrder
mod FoundFields
mod NamedFields
mod OpenedColumns
mod OuterStarts
pub mod PartEnds
mod NumberPlaces
pub mod RowValues
mod RowTypes
mod SchemaTests
pub mod TableRoundTrips
pub mod TermColumnRoundTrips
pub mod TermNumbers
pub mod SortedTerms
mod RowEnds

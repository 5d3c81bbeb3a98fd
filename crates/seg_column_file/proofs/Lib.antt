pub mod Exports
mod CallAnswers
mod FileParts
mod FileColumns
mod KeptMarks
mod StackedRows
mod StackedMarks
mod TableEntries

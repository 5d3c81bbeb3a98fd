pub mod Exports
mod FirstRows
mod HeadCalls
mod HeadHeaps
mod HeadSteps
mod ImageLaws
mod JoinedBytes
mod JoinedRows
mod KeptRowValues
mod KeptValueTests
mod MergedRows
mod NumberTypes
mod OrdinalMarks
mod RangeLaws
mod RowEnds
mod RowValueBytes
mod TableRows
mod TermOrder

pub mod Exports
mod FieldSequences
mod FilesOnDisk
mod GivenPostings
mod KeptFiles
mod LaidOutFiles
mod LengthSequences
mod ListTails
mod MadeFiles
mod ReadOnlySteps
mod ReadTerms
mod SameErrors
mod SpelledFiles
mod TokenTotals
mod UniqueContents
mod WrittenDocuments

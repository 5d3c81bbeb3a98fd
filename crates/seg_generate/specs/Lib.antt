pub mod Documents
pub mod GeneratedInput
pub mod GeneratedTexts
pub mod Seeds
pub mod SummaryText

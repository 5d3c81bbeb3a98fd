pub mod Addresses
pub mod Columns
pub mod Dictionaries
pub mod DynamicColumns
pub mod Ends
pub mod Refusals
pub mod TermColumns
pub mod ValueImages

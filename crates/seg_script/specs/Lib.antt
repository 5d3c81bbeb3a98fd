pub mod Deletes
pub mod Fields
pub mod Filters
pub mod Laws
pub mod Operations
pub mod Pairs
pub mod Script
pub mod Settings

pub mod Exports
mod CutWords
mod PassedItems
mod RegisteredTokenizers
mod WordTokens

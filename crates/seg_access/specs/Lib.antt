pub mod JsonLevels
pub mod JsonTrees
pub mod Laws
pub mod MarkCodes
pub mod Pieces
pub mod ReadTrees

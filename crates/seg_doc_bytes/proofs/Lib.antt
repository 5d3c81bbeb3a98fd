pub mod Exports
mod Fronts
mod GatheredValues
mod MadeLeaves
mod MadeTrees
mod PassedLeaves
mod PassedTrees
mod ReadDocuments
mod ReadSequences
mod ReadTrees
mod RoundTrips
mod StoredPairs
mod TakenFields
mod TreeBytes
mod WholeDocuments

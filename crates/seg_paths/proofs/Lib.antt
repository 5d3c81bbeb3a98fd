pub mod Exports
mod SlotSizes
mod NodePaths
mod NodeChains
mod KeyCuts
mod EndedPaths
mod NodeOffsets
mod NodeRanks
mod PathNumbers
mod Orders
mod RankOrder
mod PathAncestors
mod FoundLeaves
mod ZeroFreeKeys

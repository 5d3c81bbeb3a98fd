pub mod Cuts
pub mod Nodes
pub mod NumberedLeaves
pub mod Paths
pub mod Ranks
pub mod Slots

-- The leaves of values, as the definitions have them.
pub use Rattle.seg_paths.specs.NumberedLeaves.{leaf_in}

-- What is left of a list from a place on: a base lemma, under a name that functions can give to their tactic.
pub use Rattle.seg_common.proofs.Lists.{drop-slice_get as drop_at}

use Rattle.seg_model.proofs.MergeTrees.{trees_read_as_one}
use Rattle.seg_model.proofs.merge_tree_laws.trees_of_merges_read_as_one.Goals as goal

pub returns : goal.returns
returns c = trees_read_as_one c.joins_group_in_order.ensures c.joins_have_full_shape.ensures

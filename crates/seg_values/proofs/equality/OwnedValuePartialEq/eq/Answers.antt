use Rattle.seg_values.specs.ValueCodes.{tree_code}
use Rattle.seg_tokens.specs.CodeEquality.{same_by-is}
use Rattle.seg_values.specs.ValueTrees.{tree_of}
use Rattle.seg_values.proofs.equality.OwnedValuePartialEq.eq.Goals as goal

pub returns-clause-value : goal.returns-clause-value
returns-clause-value c = same_by-is tree_code c.is_same.result (tree_of c.args.self.now) (tree_of c.args.other.now) c.is_same.ensures

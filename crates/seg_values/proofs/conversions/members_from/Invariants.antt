use Rattle.std.proofs.Common.{◌≡◌, ◌++◌, map}
use Rattle.seg_values.specs.ValueTrees.{named_tree}
use Rattle.seg_values.proofs.conversions.members_from.Given as goal

abbrev pub invariant-loop-key : goal.invariant-loop-key
invariant-loop-key l = l.members ++ map named_tree l.key-iterator ≡ map named_tree l.fn.entries.entries

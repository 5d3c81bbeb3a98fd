use Rattle.std.proofs.Common.{◌≡◌, ◌++◌, map}
use Rattle.seg_values.specs.ValueTrees.{entry_pair}
use Rattle.seg_values.proofs.map_documents.BTreeMapFieldOwnedValueDocument.pairs.Given as goal

abbrev pub invariant-loop-field : goal.invariant-loop-field
invariant-loop-field l = l.pairs ++ map entry_pair l.field-iterator ≡ map entry_pair l.self.entries

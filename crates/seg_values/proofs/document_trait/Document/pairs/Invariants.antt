use Rattle.std.proofs.Common.{◌≡◌, take}
use Rattle.seg_values.proofs.document_trait.Document.pairs.Given as goal

abbrev pub invariant-loop-at : goal.invariant-loop-at
invariant-loop-at g l = l.pairs ≡ take l.at (g.Self.Document.pairs_of l.self)

use Rattle.std.proofs.Common.{◌≡◌, ◌++◌, length}
use Rattle.seg_access.specs.Pieces.{document_spelling}
use Rattle.seg_access.proofs.document_deserialize.document_from.Given as goal

-- what was read, with what is left, is all
abbrev pub invariant-loop-piece : goal.invariant-loop-piece
invariant-loop-piece l = l.fn.pieces ≡ document_spelling l.document ++ l.pieces

abbrev pub decreases-loop-piece : goal.decreases-loop-piece
decreases-loop-piece l = length l.pieces

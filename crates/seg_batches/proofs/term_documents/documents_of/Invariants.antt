use Rattle.std.proofs.Common.{◌≡◌, ◌++◌, length}
use Rattle.seg_batches.proofs.DroppedNumbers.{documents_of}
use Rattle.seg_batches.proofs.term_documents.documents_of.Given as goal

-- those that are taken, with those that are left, are all
abbrev pub invariant-loop-kind : goal.invariant-loop-kind
invariant-loop-kind l = l.docs.items ++ documents_of l.postings.left ≡ documents_of l.initial.postings.left

abbrev pub decreases-loop-kind : goal.decreases-loop-kind
decreases-loop-kind l = length l.postings.left

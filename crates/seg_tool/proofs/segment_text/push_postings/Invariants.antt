use Rattle.std.proofs.Common.{◌≡◌, ◌++◌, length}
use Rattle.std.specs.List.{flat_map}
use Rattle.seg_text.specs.PostingText.{posting_text}
use Rattle.seg_tool.proofs.segment_text.push_postings.Given as goal

abbrev pub invariant-loop-kind : goal.invariant-loop-kind
invariant-loop-kind l = l.out.items ++ flat_map posting_text l.postings.left ≡ l.initial.out.items ++ flat_map posting_text l.initial.postings.left

abbrev pub decreases-loop-kind : goal.decreases-loop-kind
decreases-loop-kind l = length l.postings.left

use Rattle.std.proofs.Common.{◌≡◌, ◌++◌, drop, false}
use Rattle.seg_text.specs.PostingText.{numbers_text}
use Rattle.seg_text.proofs.posting.push_numbers.Given as goal

abbrev pub invariant-loop-number : goal.invariant-loop-number
invariant-loop-number l = l.out.items ++ numbers_text l.later (drop l.number-index l.numbers) ≡ l.initial.out.items ++ numbers_text false l.numbers

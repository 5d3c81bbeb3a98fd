use Rattle.seg_tokens.proofs.CutWords.{IsCut}
use Rattle.seg_tokens.proofs.tokenizers.push_words.Given as goal

abbrev pub invariant-loop-at : goal.invariant-loop-at
invariant-loop-at g l = IsCut g.C.Cut.separates g.C.Cut.kept l.text l.initial.out l.from l.at l.count l.out

use Rattle.std.proofs.Common.{◌≡◌, ◌++◌, ◌+◌, drop, length}
use Rattle.seg_terms.specs.TermParts.{cut_from}
use Rattle.seg_terms.proofs.parts.cut.Given as goal

-- what is cut, with what is left, is all
abbrev pub invariant-loop-key : goal.invariant-loop-key
invariant-loop-key l =
    record {
      all : l.terms.items ++ cut_from l.start l.key-iterator (drop (length l.terms.items) l.ends)
          ≡ cut_from 0 l.initial.key-iterator l.ends;
      as_many : length l.terms.items + length l.key-iterator ≡ length l.ends;
    }
